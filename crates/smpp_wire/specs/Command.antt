-- A command as it is said: the numbers of its header and the texts of its body, wherever these stand.
use Rattle.std.specs.Prelude.{ℕ, List}
use Rattle.smpp_wire.specs.declared.pdu.Pdu.{Pdu}
use Rattle.smpp_wire.specs.declared.pdu.Body.{Body}
use Rattle.smpp_wire.specs.declared.pdu.Body.TheVariants as body

pub record BindFields : Type 0 where
  pub system_id : List ℕ
  pub password : List ℕ
  pub system_type : List ℕ
  pub interface_version : ℕ
  pub addr_ton : ℕ
  pub addr_npi : ℕ
  pub address_range : List ℕ

pub record MessageFields : Type 0 where
  pub service_type : List ℕ
  pub source_ton : ℕ
  pub source_npi : ℕ
  pub source : List ℕ
  pub destination_ton : ℕ
  pub destination_npi : ℕ
  pub destination : List ℕ
  pub esm_class : ℕ
  pub protocol_id : ℕ
  pub priority_flag : ℕ
  pub schedule_delivery_time : List ℕ
  pub validity_period : List ℕ
  pub registered_delivery : ℕ
  pub replace_if_present_flag : ℕ
  pub data_coding : ℕ
  pub sm_default_msg_id : ℕ
  pub short_message : List ℕ
  pub tlvs : List ℕ

-- the fields of a body
pub data Fields : Type 0 where
  Bind : BindFields → Fields
  BindReply : List ℕ → List ℕ → Fields
  Message : MessageFields → Fields
  SubmitReply : List ℕ → Fields
  DeliverReply : Fields
  Nothing : Fields
  Any : List ℕ → Fields

pub record Command : Type 0 where
  pub id : ℕ
  pub status : ℕ
  pub sequence : ℕ
  pub fields : Fields

-- the fields that a body borrows
abbrev pub fields_of : Body → Fields
fields_of (body.Bind system_id password system_type interface_version addr_ton addr_npi address_range) = Bind (record {
  system_id = system_id.now;
  password = password.now;
  system_type = system_type.now;
  interface_version = interface_version;
  addr_ton = addr_ton;
  addr_npi = addr_npi;
  address_range = address_range.now;
})
fields_of (body.BindReply system_id tlvs) = BindReply system_id.now tlvs.now
fields_of (body.Message service_type source_ton source_npi source destination_ton destination_npi destination esm_class protocol_id priority_flag schedule_delivery_time validity_period registered_delivery replace_if_present_flag data_coding sm_default_msg_id short_message tlvs) = Message (record {
  service_type = service_type.now;
  source_ton = source_ton;
  source_npi = source_npi;
  source = source.now;
  destination_ton = destination_ton;
  destination_npi = destination_npi;
  destination = destination.now;
  esm_class = esm_class;
  protocol_id = protocol_id;
  priority_flag = priority_flag;
  schedule_delivery_time = schedule_delivery_time.now;
  validity_period = validity_period.now;
  registered_delivery = registered_delivery;
  replace_if_present_flag = replace_if_present_flag;
  data_coding = data_coding;
  sm_default_msg_id = sm_default_msg_id;
  short_message = short_message.now;
  tlvs = tlvs.now;
})
fields_of (body.SubmitReply message_id) = SubmitReply message_id.now
fields_of body.DeliverReply = DeliverReply
fields_of body.Nothing = Nothing
fields_of (body.Any octets) = Any octets.now

-- the command that a PDU says
abbrev pub command_of : Pdu → Command
command_of pdu = record { id = pdu.id; status = pdu.status; sequence = pdu.sequence; fields = fields_of pdu.body }
