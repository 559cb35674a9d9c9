-- What a message may hold, and the octets that it is kept as.
use Rattle.std.specs.Prelude.{◌≡◌, ℕ, ◌<◌, ◌≤◌, ◌^◌, ◌%◌, ⊤, true, false, List, ◌∷◌, ◌++◌, [], length, All, IfSome}
use Rattle.std.specs.Int.{w32, w64, to_be_bytes}
pub use Rattle.exact_octets.specs.Alphabet.{IsDigit}
pub use Rattle.exact_octets.specs.Spelling.{short, long}
use Rattle.sms_record.specs.declared.address.Address.{Address}
use Rattle.sms_record.specs.declared.address.Address.TheVariants.{Number, Text}
use Rattle.sms_record.specs.declared.coding.Coding.{Coding}
use Rattle.sms_record.specs.declared.coding.Coding.TheVariants.{Seven, Eight, Ucs2}
use Rattle.sms_record.specs.declared.sms.Sms.{Sms}
use Rattle.sms_record.specs.Limits.{most_digits, most_address_text, most_parts, last_class, most_mask, most_minutes, most_header, most_body, most_name, most_url}
use Rattle.sms_record.specs.Codes.{coding_code, class_code, charset_code}
use Rattle.sms_record.specs.Header.{IsHeaderOrNone}

-- a number has at least one digit, and at most as many as ITU-T E.164, section 6, allows
abbrev pub IsAddress : Address → Type 0
IsAddress (Number plus digits) = (1 ≤ length digits) × (length digits ≤ most_digits) × All IsDigit digits
IsAddress (Text octets) = length octets ≤ most_address_text

-- a body is of its coding: septets one in each octet, octets, or units of two octets
abbrev pub IsOfCoding : Coding → List ℕ → Type 0
IsOfCoding Seven body = All (λ octet. octet < 128) body
IsOfCoding Eight body = ⊤
IsOfCoding Ucs2 body = length body % 2 ≡ 0

-- the grammar: which messages have a record
pub record IsSms (sms : Sms) : Type 0 where
  pub sender : IsAddress sms.sender
  pub receiver : IsAddress sms.receiver
  pub class : IfSome sms.class (λ class. class ≤ last_class)
  pub total : sms.total ≤ most_parts
  pub part : (1 ≤ sms.part) × (sms.part ≤ sms.total)
  pub mask : sms.mask ≤ most_mask
  pub validity : sms.validity ≤ most_minutes
  pub deferred : sms.deferred ≤ most_minutes
  pub time : sms.time < 2 ^ 37
  pub udh_len : length sms.udh ≤ most_header
  pub udh : IsHeaderOrNone sms.udh
  pub body_len : length sms.body ≤ most_body
  pub body : IsOfCoding sms.coding sms.body
  pub smsc : length sms.smsc ≤ most_name
  pub url : length sms.url ≤ most_url
  pub account : length sms.account ≤ most_name
  pub service : length sms.service ≤ most_name

-- the kind of an address: a number, a number behind a `+`, a text
abbrev pub address_kind : Address → ℕ
address_kind (Number false digits) = 0
address_kind (Number true digits) = 1
address_kind (Text octets) = 2

-- the digits, or the text
abbrev pub address_text : Address → List ℕ
address_text (Number plus digits) = digits
address_text (Text octets) = octets

-- its kind, and the digits or the text
abbrev pub address : Address → List ℕ
address from_or_to = address_kind from_or_to ∷ short (address_text from_or_to)

-- coding, class, charset, total, part and mask, an octet each
abbrev pub marks : Sms → List ℕ
marks sms = coding_code sms.coding ∷ class_code sms.class ∷ charset_code sms.charset ∷ sms.total ∷ sms.part ∷ sms.mask ∷ []

-- validity, deferred and time, the most significant octet first
abbrev pub times : Sms → List ℕ
times sms = to_be_bytes w32 sms.validity ++ (to_be_bytes w32 sms.deferred ++ to_be_bytes w64 sms.time)

-- from whom and to whom, how the message is to be read, and when it counts
abbrev pub heading : Sms → List ℕ
heading sms = address sms.sender ++ (address sms.receiver ++ (marks sms ++ times sms))

-- by which link, with what reports, and on whose account
abbrev pub names : Sms → List ℕ
names sms = short sms.smsc ++ (long sms.url ++ (short sms.account ++ short sms.service))

-- the header and the body, and the names
abbrev pub contents : Sms → List ℕ
contents sms = short sms.udh ++ (long sms.body ++ names sms)

-- the record of a message
abbrev pub sms_octets : Sms → List ℕ
sms_octets sms = heading sms ++ contents sms
