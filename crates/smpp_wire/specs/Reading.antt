-- How a frame is read, from left to right. Where a field has a length of its own, its reader is told how many octets are left for it and for all behind it.
use Rattle.std.specs.Prelude.{ℕ, suc, ◌+◌, ◌*◌, ◌-◌, Bool, List, [], ◌∷◌, length, Ok, Err, nat_le, ◌&&◌, ◌||◌, ◌==◌, if◌then◌else◌}
use Rattle.std.specs.List.{flat_map}
use Rattle.exact_octets.specs.declared.alphabet.Alphabet.TheVariants.{Any as AnyOctet}
use Rattle.exact_octets.specs.declared.read_fault.ReadFault.TheVariants as faults
use Rattle.exact_octets.specs.Alphabet.{is_in, within}
use Rattle.exact_octets.specs.Numbers.{from_to}
use Rattle.exact_octets.specs.Reading.{Reader, ◌>>=◌, both, made, given, octet_at, octets_at, number_at, filled_at}
use Rattle.smpp_wire.specs.declared.room.Room.{Room}
use Rattle.smpp_wire.specs.declared.room.Room.TheVariants.{From, Between, Tlvs}
use Rattle.smpp_wire.specs.declared.row.Row.{Row}
use Rattle.smpp_wire.specs.declared.row.Row.TheVariants as row
use Rattle.smpp_wire.specs.declared.text.Sizes.{Sizes}
use Rattle.smpp_wire.specs.Limits.{header_octets, most_frame, version_3_4}
use Rattle.smpp_wire.specs.Command.{BindFields, MessageFields, Fields, Bind, BindReply, Message, SubmitReply, DeliverReply, Nothing, Any, Command}
use Rattle.smpp_wire.specs.Grammar.{Tlv, tlv_of, tlv, row_of}
use Rattle.smpp_wire.specs.Room.{fits, room_of, up_to, times, may_end, may_go_on}

-- ---- fields

-- any octet
abbrev pub any_at : Reader ℕ
any_at = octet_at (is_in AnyOctet)

-- the octets of a text that ends with 00, by behind how many it may end and behind how many it may go on
unfoldable pub text_from : (ℕ → Bool) → (ℕ → Bool) → ℕ → Reader (List ℕ)
text_from ends goes before [] = Err faults.Short
text_from ends goes before (octet ∷ rest) =
    if octet == 0
    then (if ends before then Ok ([], rest) else Err (faults.Malformed (suc (length rest))))
    else (if goes before then text_from ends goes (suc before) rest >>= (λ x. Ok (octet ∷ x.0, x.1)) else Err (faults.Malformed (suc (length rest))))

unfoldable pub text_at : Sizes → Room → ℕ → Reader (List ℕ)
text_at sizes room left = text_from (may_end sizes room left) (may_go_on sizes room left) 0

-- how many octets the value of a TLV may have: less than four octets behind it are no TLV
abbrev pub is_value_len : ℕ → ℕ → Bool
is_value_len left len = len + 4 == left || nat_le (len + 8) left

-- what the high octet of that length may be
abbrev pub is_high_len : ℕ → ℕ → Bool
is_high_len left high = nat_le (high * 256 + 4) left

unfoldable pub value_len_at : ℕ → Reader ℕ
value_len_at left = made (λ x. x.0 * 256 + x.1) (both (octet_at (is_high_len left)) (λ high. octet_at (λ low. is_value_len left (high * 256 + low))))

unfoldable pub tlv_at : ℕ → Reader Tlv
tlv_at left =
    made (λ x. tlv_of x.0 x.1.1)
    (both (number_at 2 (from_to 0 65535)) (λ tag. both (value_len_at left) (λ len. octets_at AnyOctet len)))

unfoldable pub tlvs_at : ℕ → Reader (List ℕ)
tlvs_at left = made (flat_map tlv) (filled_at tlv_at tlv left)

-- the length of a message, behind which TLVs fill what is left
abbrev pub is_message_len : ℕ → ℕ → Bool
is_message_len left len = nat_le len 254 && (nat_le (suc len) left && fits Tlvs (left - suc len))

unfoldable pub short_message_at : ℕ → Reader (List ℕ)
short_message_at left = made (λ x. x.1) (both (octet_at (is_message_len left)) (λ len. octets_at AnyOctet len))

-- ---- one field behind the other

-- a field of a size of its own, and what stands behind it, for which so many octets fewer are left
abbrev pub then_at : {A B : Type 0} → (A → ℕ) → (ℕ → Reader A) → (ℕ → Reader B) → ℕ → Reader (A × B)
then_at size first second left = both (first left) (λ a. second (left - size a))

-- how many octets a text and its 00 are
abbrev pub text_size : List ℕ → ℕ
text_size text = length text + 1

-- two, three and four octets
abbrev pub two_at : Reader (ℕ × ℕ)
two_at = both any_at (λ a. any_at)

abbrev pub three_at : Reader (ℕ × (ℕ × ℕ))
three_at = both any_at (λ a. both any_at (λ b. any_at))

abbrev pub four_at : Reader (ℕ × (ℕ × (ℕ × ℕ)))
four_at = both any_at (λ a. both any_at (λ b. both any_at (λ c. any_at)))

-- ---- the rows

abbrev pub bind_of : List ℕ × (List ℕ × (List ℕ × ((ℕ × (ℕ × ℕ)) × List ℕ))) → BindFields
bind_of x = record {
  system_id = x.0;
  password = x.1.0;
  system_type = x.1.1.0;
  interface_version = x.1.1.1.0.0;
  addr_ton = x.1.1.1.0.1.0;
  addr_npi = x.1.1.1.0.1.1;
  address_range = x.1.1.1.1;
}

-- the version of the interface, and two octets
unfoldable pub version_at : Reader (ℕ × (ℕ × ℕ))
version_at = both (octet_at (within version_3_4 version_3_4)) (λ version. two_at)

-- the fields of a bind from the system_type on
unfoldable pub system_at : ℕ → Reader (List ℕ × ((ℕ × (ℕ × ℕ)) × List ℕ))
system_at =
    then_at text_size (text_at (up_to 13) (Between 4 44)) (then_at (λ x. 3) (λ left. version_at) (text_at (up_to 41) (Between 0 0)))

unfoldable pub bind_at : ℕ → Reader Fields
bind_at left =
    made (λ x. Bind (bind_of x))
    (then_at text_size (text_at (up_to 16) (Between 6 66)) (then_at text_size (text_at (up_to 9) (Between 5 57)) system_at) left)

unfoldable pub bind_reply_at : ℕ → Reader Fields
bind_reply_at left =
    if left == 0 then given Nothing else
    made (λ x. BindReply x.0 x.1) (then_at text_size (text_at (up_to 16) Tlvs) tlvs_at left)

-- an address: its type and its plan, and its text
unfoldable pub party_at : Room → ℕ → Reader ((ℕ × ℕ) × List ℕ)
party_at room = then_at (λ x. 2) (λ left. two_at) (text_at (up_to 21) room)

abbrev pub party_size : (ℕ × ℕ) × List ℕ → ℕ
party_size x = length x.1 + 3

-- the fields of a message behind the times, from the times on, and from the destination on
abbrev pub Contents : Type 0
Contents = (ℕ × (ℕ × (ℕ × ℕ))) × (List ℕ × List ℕ)

abbrev pub Closing : Type 0
Closing = List ℕ × (List ℕ × Contents)

abbrev pub Delivery : Type 0
Delivery = ((ℕ × ℕ) × List ℕ) × ((ℕ × (ℕ × ℕ)) × Closing)

unfoldable pub contents_at : ℕ → Reader Contents
contents_at = then_at (λ x. 4) (λ left. four_at) (then_at text_size short_message_at tlvs_at)

unfoldable pub closing_at : ℕ → Reader Closing
closing_at = then_at text_size (text_at times (From 6)) (then_at text_size (text_at times (From 5)) contents_at)

unfoldable pub delivery_at : ℕ → Reader Delivery
delivery_at = then_at party_size (party_at (From 10)) (then_at (λ x. 3) (λ left. three_at) closing_at)

abbrev pub message_of : List ℕ × (((ℕ × ℕ) × List ℕ) × Delivery) → MessageFields
message_of x = record {
  service_type = x.0;
  source_ton = x.1.0.0.0;
  source_npi = x.1.0.0.1;
  source = x.1.0.1;
  destination_ton = x.1.1.0.0.0;
  destination_npi = x.1.1.0.0.1;
  destination = x.1.1.0.1;
  esm_class = x.1.1.1.0.0;
  protocol_id = x.1.1.1.0.1.0;
  priority_flag = x.1.1.1.0.1.1;
  schedule_delivery_time = x.1.1.1.1.0;
  validity_period = x.1.1.1.1.1.0;
  registered_delivery = x.1.1.1.1.1.1.0.0;
  replace_if_present_flag = x.1.1.1.1.1.1.0.1.0;
  data_coding = x.1.1.1.1.1.1.0.1.1.0;
  sm_default_msg_id = x.1.1.1.1.1.1.0.1.1.1;
  short_message = x.1.1.1.1.1.1.1.0;
  tlvs = x.1.1.1.1.1.1.1.1;
}

unfoldable pub message_at : ℕ → Reader Fields
message_at left =
    made (λ x. Message (message_of x))
    (then_at text_size (text_at (up_to 6) (From 16)) (then_at party_size (party_at (From 13)) delivery_at) left)

unfoldable pub submit_reply_at : ℕ → Reader Fields
submit_reply_at left = if left == 0 then given Nothing else made SubmitReply (text_at (up_to 65) (Between 0 0) left)

unfoldable pub deliver_reply_at : Reader Fields
deliver_reply_at = made (λ x. DeliverReply) (octet_at (within 0 0))

unfoldable pub any_body_at : ℕ → Reader Fields
any_body_at left = made Any (octets_at AnyOctet left)

-- a body that fills so many octets, by its row
abbrev pub body_at : Row → ℕ → Reader Fields
body_at row.Bind left = bind_at left
body_at row.BindReply left = bind_reply_at left
body_at row.Message left = message_at left
body_at row.SubmitReply left = submit_reply_at left
body_at row.DeliverReply left = deliver_reply_at
body_at row.Nothing left = given Nothing
body_at row.Any left = any_body_at left

-- ---- the frame

-- a command_id, whose last octet leaves so many octets a row
unfoldable pub id_at : ℕ → Reader ℕ
id_at left = made (λ x. x.0 * 256 + x.1) (both (number_at 3 (from_to 0 16777215)) (λ high. octet_at (λ low. fits (room_of (row_of (high * 256 + low))) left)))

-- a number of four octets
abbrev pub number_of_four_at : Reader ℕ
number_of_four_at = number_at 4 (from_to 0 4294967295)

-- how many octets a body has, and command_id, command_status, sequence_number
unfoldable pub header_at : Reader (ℕ × (ℕ × (ℕ × ℕ)))
header_at =
    made (λ x. (x.0 - header_octets, x.1))
    (both (number_at 4 (from_to header_octets most_frame)) (λ len. both (id_at (len - header_octets)) (λ id. both number_of_four_at (λ status. number_of_four_at))))

abbrev pub command_from : (ℕ × (ℕ × (ℕ × ℕ))) × Fields → Command
command_from x = record { id = x.0.1.0; status = x.0.1.1.0; sequence = x.0.1.1.1; fields = x.1 }

unfoldable pub frame_at : Reader Command
frame_at = made command_from (both header_at (λ header. body_at (row_of header.1.0) header.0))
