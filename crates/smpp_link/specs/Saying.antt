-- Which command each thing is said by (SMPP 3.4, section 4).
use Rattle.std.specs.Prelude.{ℕ, ◌+◌, ◌/◌, ◌%◌, ◌==◌, not, true, false, List, [], ◌∷◌, ◌++◌, codes, filter, if◌then◌else◌}
use Rattle.sms_record.specs.declared.address.Address.{Address}
use Rattle.sms_record.specs.declared.address.Address.TheVariants.{Number, Text}
use Rattle.sms_record.specs.declared.sms.Sms.{Sms}
use Rattle.sms_record.specs.Record.{address_text}
use Rattle.smpp_wire.specs.Ids.{generic_nack, submit_sm, deliver_sm_resp, unbind_resp, bind_transceiver, enquire_link, enquire_link_resp}
use Rattle.smpp_wire.specs.Limits.{version_3_4}
use Rattle.smpp_wire.specs.Command.{BindFields, MessageFields, Fields, Bind, Message, DeliverReply, Nothing, Command}
use Rattle.smpp_wire.specs.Grammar.{frame}
use Rattle.config_groups.specs.declared.settings.link_settings.LinkSettings.{LinkSettings}
use Rattle.concat_split.specs.Outgoing.{header_of}
use Rattle.link_core.specs.declared.out.Out.{Out}
use Rattle.link_core.specs.declared.out.Out.TheVariants as out
use Rattle.link_core.specs.Dcs.{dcs_of}
use Rattle.link_core.specs.Validity.{minutes_left}

-- ---- the login

-- octets that a text can hold (3.1): 00 ends one
abbrev pub speakable : List ℕ → List ℕ
speakable octets = filter (λ octet. not (octet == 0)) octets

-- a login as a transceiver for all addresses (4.1.5)
abbrev pub bind_with : (system_id password system_type : List ℕ) → BindFields
bind_with system_id password system_type = record {
  system_id = system_id;
  password = password;
  system_type = system_type;
  interface_version = version_3_4;
  addr_ton = 0;
  addr_npi = 0;
  address_range = [];
}

abbrev pub bind_of : LinkSettings → BindFields
bind_of settings = bind_with settings.smsc_username settings.smsc_password (speakable settings.system_type)

-- ---- a message

-- type of number (5.2.5): international, unknown, alphanumeric
abbrev pub ton_of : Address → ℕ
ton_of (Number true digits) = 1
ton_of (Number false digits) = 0
ton_of (Text text) = 5

-- numbering plan (5.2.6): that of telephones, or unknown
abbrev pub npi_of : Address → ℕ
npi_of (Number plus digits) = 1
npi_of (Text text) = 0

-- two decimal digits
abbrev pub two_digits : ℕ → List ℕ
two_digits n = (48 + n / 10) ∷ (48 + n % 10) ∷ []

-- so many minutes from now (7.1.1, relative): years, months, days, hours, minutes, seconds, tenths and the difference from UTC, which is none
abbrev pub period_of : ℕ → List ℕ
period_of minutes = codes "0000" ++ (two_digits (minutes / 1440) ++ (two_digits (minutes % 1440 / 60) ++ (two_digits (minutes % 60) ++ codes "00000R")))

-- until when the message is worth sending (5.2.16); the centre's own period where none was asked for
abbrev pub validity_of : (time validity now : ℕ) → List ℕ
validity_of time validity now = if validity == 0 then [] else period_of (minutes_left time validity now)

-- a delivery receipt (5.2.17) is wanted where a report of kind 1, 2 or 4 is
abbrev pub receipt_of : (mask : ℕ) → ℕ
receipt_of mask = if mask % 8 == 0 then 0 else 1

-- bit 6 of esm_class (5.2.12): a header stands before the text
abbrev pub class_of : (header : List ℕ) → ℕ
class_of [] = 0
class_of (octet ∷ rest) = 64

-- a message whose esm_class, text and period are these (4.4.1)
abbrev pub submit_with : (esm_class : ℕ) → (text period : List ℕ) → Sms → MessageFields
submit_with esm_class text period sms = record {
  service_type = [];
  source_ton = ton_of sms.sender;
  source_npi = npi_of sms.sender;
  source = address_text sms.sender;
  destination_ton = ton_of sms.receiver;
  destination_npi = npi_of sms.receiver;
  destination = address_text sms.receiver;
  esm_class = esm_class;
  protocol_id = 0;
  priority_flag = 0;
  schedule_delivery_time = [];
  validity_period = period;
  registered_delivery = receipt_of sms.mask;
  replace_if_present_flag = 0;
  data_coding = dcs_of sms.coding sms.class;
  sm_default_msg_id = 0;
  short_message = text;
  tlvs = [];
}

-- the header that goes out with a message of this number
abbrev pub header_in : (number : ℕ) → Sms → List ℕ
header_in number sms = header_of sms.udh sms.total sms.part number

abbrev pub submit_of : (number : ℕ) → Sms → (now : ℕ) → MessageFields
submit_of number sms now =
    submit_with (class_of (header_in number sms)) (header_in number sms ++ sms.body) (validity_of sms.time sms.validity now) sms

-- ---- all commands

abbrev pub command_with : (id status tag : ℕ) → Fields → Command
command_with id status tag fields = record { id = id; status = status; sequence = tag; fields = fields }

-- by what a login says; statuses (5.1.3): ESME_ROK, ESME_RMSGQFUL for a message without room, ESME_RINVCMDID for what is strange
abbrev pub command_of : (login : Fields) → Out → Command
command_of login (out.Login tag) = command_with bind_transceiver 0 tag login
command_of login (out.Submit tag number sms now) = command_with submit_sm 0 tag (Message (submit_of number sms now))
command_of login (out.ReportReply tag) = command_with deliver_sm_resp 0 tag DeliverReply
command_of login (out.MessageReply tag true) = command_with deliver_sm_resp 0 tag DeliverReply
command_of login (out.MessageReply tag false) = command_with deliver_sm_resp 0x14 tag DeliverReply
command_of login (out.Keep tag) = command_with enquire_link 0 tag Nothing
command_of login (out.KeepReply tag) = command_with enquire_link_resp 0 tag Nothing
command_of login (out.ByeReply tag) = command_with unbind_resp 0 tag Nothing
command_of login (out.Nack tag id) = command_with generic_nack 0x03 tag Nothing

-- the octets of what is said
abbrev pub said : BindFields → Out → List ℕ
said bind sayings = frame (command_of (Bind bind) sayings)
