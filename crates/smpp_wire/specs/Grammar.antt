-- The grammar of frames (SMPP 3.4, 3.2): which commands there are, and the octets of each.
use Rattle.std.specs.Prelude.{◌≡◌, ◌≢◌, ◌⊎◌, ℕ, ◌+◌, ◌<◌, ◌≤◌, ◌^◌, ⊤, List, [], ◌∷◌, ◌++◌, length, All, ◌==◌, ◌||◌, if◌then◌else◌}
use Rattle.std.specs.List.{flat_map, AllByRecursion}
use Rattle.exact_octets.specs.Fronts.{IsSpelled}
use Rattle.exact_octets.specs.Numbers.{number}
use Rattle.exact_octets.specs.Spelling.{short, long}
use Rattle.smpp_wire.specs.Ids.{generic_nack, submit_sm, submit_sm_resp, deliver_sm, deliver_sm_resp, unbind, unbind_resp, bind_transceiver, bind_transceiver_resp, enquire_link, enquire_link_resp}
use Rattle.smpp_wire.specs.declared.row.Row.{Row}
use Rattle.smpp_wire.specs.declared.row.Row.TheVariants as row
use Rattle.smpp_wire.specs.Command.{BindFields, MessageFields, Fields, Bind, BindReply, Message, SubmitReply, DeliverReply, Nothing, Any, Command}

-- ---- fields

-- a text (3.1, C-Octet String): no 00 stands in it, and with the 00 that ends it it has at most so many octets
abbrev pub IsText : ℕ → List ℕ → Type 0
IsText most text = All (λ octet. octet ≢ 0) text × (length text < most)

-- a time (7.1.1): a text of 16 octets, or of none
abbrev pub IsTime : List ℕ → Type 0
IsTime text = All (λ octet. octet ≢ 0) text × ((length text ≡ 0) ⊎ (length text ≡ 16))

-- a text with the 00 that ends it
abbrev pub ended : List ℕ → List ℕ
ended text = text ++ 0 ∷ []

-- an address (5.2.5 to 5.2.9): its type, its plan, its text
abbrev pub party : ℕ → ℕ → List ℕ → List ℕ
party ton npi address = ton ∷ npi ∷ ended address

-- an optional parameter (3.2.4.1): two octets of tag, two of length, the value
pub record Tlv : Type 0 where
  pub tag : ℕ
  pub value : List ℕ

abbrev pub tlv_of : ℕ → List ℕ → Tlv
tlv_of tag value = record { tag = tag; value = value }

abbrev pub IsTlv : Tlv → Type 0
IsTlv t = (t.tag < 2 ^ 16) × (length t.value < 2 ^ 16)

abbrev pub tlv : Tlv → List ℕ
tlv t = number 2 t.tag ++ long t.value

-- whole optional parameters, one after the other
abbrev pub AreTlvs : List ℕ → Type 0
AreTlvs octets = (ts : List Tlv) × AllByRecursion IsTlv ts × (flat_map tlv ts ≡ octets)

-- ---- the bodies: fields in their order, with their greatest sizes

-- bind_transceiver (4.1.5), of version 3.4 (5.2.4)
pub record IsBind (b : BindFields) : Type 0 where
  pub system_id : IsText 16 b.system_id
  pub password : IsText 9 b.password
  pub system_type : IsText 13 b.system_type
  pub interface_version : b.interface_version ≡ 52
  pub address_range : IsText 41 b.address_range

abbrev pub bind : BindFields → List ℕ
bind b =
    ended b.system_id ++ (ended b.password ++ (ended b.system_type ++ ((b.interface_version ∷ b.addr_ton ∷ b.addr_npi ∷ []) ++ ended b.address_range)))

-- submit_sm (4.4.1) and deliver_sm (4.6.1): the length of the message is one octet, 0 to 254 (5.2.21)
pub record IsMessage (m : MessageFields) : Type 0 where
  pub service_type : IsText 6 m.service_type
  pub source : IsText 21 m.source
  pub destination : IsText 21 m.destination
  pub schedule_delivery_time : IsTime m.schedule_delivery_time
  pub validity_period : IsTime m.validity_period
  pub short_message : length m.short_message ≤ 254
  pub tlvs : AreTlvs m.tlvs

abbrev pub message : MessageFields → List ℕ
message m =
    ended m.service_type ++ (party m.source_ton m.source_npi m.source ++ (party m.destination_ton m.destination_npi m.destination
    ++ ((m.esm_class ∷ m.protocol_id ∷ m.priority_flag ∷ []) ++ (ended m.schedule_delivery_time ++ (ended m.validity_period
    ++ ((m.registered_delivery ∷ m.replace_if_present_flag ∷ m.data_coding ∷ m.sm_default_msg_id ∷ []) ++ (short m.short_message ++ m.tlvs)))))))

-- which bodies a row has: bind_transceiver_resp (4.1.6) and submit_sm_resp (4.4.2) may have none, the message_id of deliver_sm_resp (4.6.2) is empty
abbrev pub IsOf : Row → Fields → Type 0
IsOf row.Bind (Bind b) = IsBind b
IsOf row.BindReply (BindReply system_id tlvs) = IsText 16 system_id × AreTlvs tlvs
IsOf row.BindReply Nothing = ⊤
IsOf row.Message (Message m) = IsMessage m
IsOf row.SubmitReply (SubmitReply message_id) = IsText 65 message_id
IsOf row.SubmitReply Nothing = ⊤
IsOf row.DeliverReply DeliverReply = ⊤
IsOf row.Nothing Nothing = ⊤
IsOf row.Any (Any octets) = ⊤
IsOf r fields = ⊥

-- the octets of a body
abbrev pub body : Fields → List ℕ
body (Bind b) = bind b
body (BindReply system_id tlvs) = ended system_id ++ tlvs
body (Message m) = message m
body (SubmitReply message_id) = ended message_id
body DeliverReply = 0 ∷ []
body Nothing = []
body (Any octets) = octets

-- the row of a command_id (5.1.2.1)
abbrev pub row_of : ℕ → Row
row_of id =
    if id == bind_transceiver then row.Bind else
    if id == bind_transceiver_resp then row.BindReply else
    if id == submit_sm || id == deliver_sm then row.Message else
    if id == submit_sm_resp then row.SubmitReply else
    if id == deliver_sm_resp then row.DeliverReply else
    if id == generic_nack || id == unbind || id == unbind_resp || id == enquire_link || id == enquire_link_resp then row.Nothing else
    row.Any

-- ---- the frames

-- command_length counts the header, which is 16 octets
abbrev pub frame_length : Command → ℕ
frame_length c = 16 + length (body c.fields)

-- a command: the numbers of its header have four octets each, the body is of its row, and the frame has at most 65,536 octets
pub record IsCommand (c : Command) : Type 0 where
  pub id : c.id < 2 ^ 32
  pub status : c.status < 2 ^ 32
  pub sequence : c.sequence < 2 ^ 32
  pub fields : IsOf (row_of c.id) c.fields
  pub len : frame_length c ≤ 65536

-- its frame: command_length, command_id, command_status, sequence_number (5.1), the body
abbrev pub frame : Command → List ℕ
frame c = number 4 (frame_length c) ++ (number 4 c.id ++ (number 4 c.status ++ (number 4 c.sequence ++ body c.fields)))

-- octets that are a frame
abbrev pub IsFrame : List ℕ → Type 0
IsFrame octets = IsSpelled IsCommand frame octets
