-- Which messages a link of each protocol carries.
use Rattle.std.specs.Prelude.{ℕ, ◌+◌, ◌/◌, Bool, true, false, ◌&&◌, ◌||◌, nat_le, List, length}
use Rattle.std.specs.List.{list_all, flat_map}
use Rattle.sms_record.specs.declared.address.Address.{Address}
use Rattle.sms_record.specs.declared.address.Address.TheVariants.{Number, Text}
use Rattle.sms_record.specs.declared.coding.Coding.{Coding}
use Rattle.sms_record.specs.declared.coding.Coding.TheVariants.{Seven, Eight, Ucs2}
use Rattle.sms_record.specs.declared.sms.Sms.{Sms}
use Rattle.sms_record.specs.Room.{cap, header_len}
use Rattle.gsm_alphabet.specs.Alphabet.{text_of}
use Rattle.gsm_alphabet.specs.Ucs2.{ucs2_of}
use Rattle.config_values.specs.Values.{is_text_octet, is_sendable}
use Rattle.route_rules.specs.declared.link_kind.LinkKind.{LinkKind}
use Rattle.route_rules.specs.declared.link_kind.LinkKind.TheVariants.{Smpp, Ucp, Cimd2}

abbrev pub is_number : Address → Bool
is_number (Number plus digits) = true
is_number (Text text) = false

-- the octets of the header that goes out
abbrev pub outgoing_len : Sms → ℕ
outgoing_len sms = header_len (length sms.udh) sms.total

-- the units of a body: septets, octets or UCS-2 units
abbrev pub units : Coding → List ℕ → ℕ
units Seven body = length body
units Eight body = length body
units Ucs2 body = length body / 2

-- a body fits beside a header of so many octets in one message (GSM 03.40 9.2.3.16)
abbrev pub fits : Coding → (header : ℕ) → List ℕ → Bool
fits coding header body = nat_le header 140 && nat_le (units coding body) (cap coding header)

-- ---- CIMD2

-- each character of these septets is a letter, a digit or a mark, as in the name of a sender
abbrev pub is_plain_text : List ℕ → Bool
is_plain_text septets = list_all is_text_octet (text_of septets)

-- the characters of septets as UCS-2
abbrev pub as_ucs2 : List ℕ → List ℕ
as_ucs2 septets = flat_map ucs2_of (text_of septets)

-- a body of septets goes as text where it is plain; another goes as UCS-2, where that fits beside the header
abbrev pub goes_by_cimd2 : Coding → (header : ℕ) → List ℕ → Bool
goes_by_cimd2 Seven header body = is_plain_text body || nat_le (header + length (as_ucs2 body)) 140
goes_by_cimd2 Eight header body = true
goes_by_cimd2 Ucs2 header body = true

-- ---- all protocols

-- the protocol has a form for such a body
abbrev pub goes_by : LinkKind → Coding → (header : ℕ) → List ℕ → Bool
goes_by Smpp coding header body = true
goes_by Ucp coding header body = true
goes_by Cimd2 coding header body = goes_by_cimd2 coding header body

-- a link of this protocol carries a message: to a number, from an address that a message can come from, in one message of its form
abbrev pub carries : LinkKind → Sms → Bool
carries kind sms =
    is_number sms.receiver && (is_sendable sms.sender &&
    (fits sms.coding (outgoing_len sms) sms.body && goes_by kind sms.coding (outgoing_len sms) sms.body))
