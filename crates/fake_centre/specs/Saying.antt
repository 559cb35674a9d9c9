-- What a centre says, as commands of SMPP 3.4.
use Rattle.std.specs.Prelude.{◌≡◌, ℕ, List, [], ◌++◌}
use Rattle.std.specs.List.{flat_map, AllByRecursion}
use Rattle.smpp_wire.specs.Command.{Fields, MessageFields, Command, SubmitReply, Nothing}
use Rattle.smpp_wire.specs.Grammar.{IsCommand, IsText, frame}
use Rattle.smpp_wire.specs.Ids.{submit_sm_resp}
use Rattle.fake_centre.specs.declared.reply.CentreReply.{CentreReply}
use Rattle.fake_centre.specs.declared.reply.CentreReply.TheVariants.{Good, Refuse, Silent}

-- frames, one after the other, and nothing else
abbrev pub AreFrames : List ℕ → Type 0
AreFrames octets = (commands : List Command) × AllByRecursion IsCommand commands × (octets ≡ flat_map frame commands)

abbrev pub command_with : ℕ → ℕ → ℕ → Fields → Command
command_with id status sequence fields = record { id = id; status = status; sequence = sequence; fields = fields }

-- A message is answered (4.4.2) under its own number: with its id where it is taken and a frame can hold the id, with the status where it isn't, or
-- not at all.
abbrev pub AnswersSubmit : ℕ → CentreReply → List ℕ → List ℕ → Type 0
AnswersSubmit sequence (Good id) old new = IsText 65 id → new ≡ old ++ frame (command_with submit_sm_resp 0 sequence (SubmitReply id))
AnswersSubmit sequence (Refuse status) old new = new ≡ old ++ frame (command_with submit_sm_resp status sequence Nothing)
AnswersSubmit sequence Silent old new = new ≡ old

-- what is sent: a message without times and optional parameters
abbrev pub delivery_of : ℕ → ℕ → List ℕ → ℕ → ℕ → List ℕ → ℕ → ℕ → List ℕ → MessageFields
delivery_of source_ton source_npi source destination_ton destination_npi destination esm_class data_coding octets = record {
  service_type = [];
  source_ton = source_ton;
  source_npi = source_npi;
  source = source;
  destination_ton = destination_ton;
  destination_npi = destination_npi;
  destination = destination;
  esm_class = esm_class;
  protocol_id = 0;
  priority_flag = 0;
  schedule_delivery_time = [];
  validity_period = [];
  registered_delivery = 0;
  replace_if_present_flag = 0;
  data_coding = data_coding;
  sm_default_msg_id = 0;
  short_message = octets;
  tlvs = [];
}
