-- What the variables of a request may hold, and what they are read as. None stands for what a variable may not hold. A variable without a
-- value is one that isn't there, but for `to` and `text`. Which variable holds what is a row of Form.antt; its name is that of its spot.
use Rattle.std.specs.Prelude.{◌≡◌, ◌⊎◌, IfErr, ℕ, zero, suc, Bool, true, false, ◌&&◌, ◌==◌, ◌%◌, nat_le, List, [], ◌∷◌, length, drop, map, filter, chars, codes, Option, Some, None, Result, Ok, Err, if◌then◌else◌}
use Rattle.std.specs.List.{list_all, slice_split, flat_map}
use Rattle.std.specs.Option.{option_or}
use Rattle.std.specs.Str.{is_utf8, str_eq_ignore_ascii_case}
use Rattle.http_text.specs.Answer.{spot_name}
use Rattle.http_text.specs.declared.answer.Answer.{Answer}
use Rattle.http_text.specs.declared.answer.Answer.TheVariants.{BadRequest, OutOfMemory}
use Rattle.http_text.specs.declared.answer.spot.Spot.{Spot}
use Rattle.kn_base.specs.declared.charset.Charset.{Charset}
use Rattle.kn_base.specs.declared.charset.Charset.TheVariants.{Utf8, Latin1, Utf16Be}
use Rattle.gsm_alphabet.specs.Alphabet.{septets_of}
use Rattle.gsm_alphabet.specs.Charsets.{text_in}
use Rattle.gsm_alphabet.specs.Ucs2.{ucs2_of}
use Rattle.sms_record.specs.declared.address.Address.{Address}
use Rattle.sms_record.specs.declared.address.Address.TheVariants.{Number}
use Rattle.sms_record.specs.declared.coding.Coding.{Coding}
use Rattle.sms_record.specs.declared.coding.Coding.TheVariants.{Seven, Eight, Ucs2}
use Rattle.sms_record.specs.Limits.{most_digits}
use Rattle.config_values.specs.Values.{is_within, is_digits, is_number_within, number_of, is_filled, has_plus, behind_plus, sender_of}
use Rattle.sendsms_form.specs.declared.pairs.Pair.{Pair}
use Rattle.sendsms_form.specs.Pairs.{value}

-- a refusal is the one of the definition, or want of memory, which may stand in the place of any answer
abbrev pub RefusesAs : {X Y : Type 0} → (right : Result X Answer) → Result Y Answer → Type 0
RefusesAs right result = IfErr result (λ answer. (answer ≡ OutOfMemory) ⊎ (right ≡ Err answer))

-- ---- the forms of variables

-- the value of a variable, nothing where it isn't there
abbrev pub value_of : Spot → List Pair → List ℕ
value_of spot given = value (spot_name spot) given

-- what a variable holds, or the answer that calls it wrong
abbrev pub right : {X : Type 0} → Spot → Option X → Result X Answer
right spot None = Err (BadRequest spot)
right spot (Some x) = Ok x

-- what is read behind a variable, unless that one is wrong
abbrev pub behind : {X Y : Type 0} → Result X Answer → (X → Result Y Answer) → Result Y Answer
behind (Err answer) next = Err answer
behind (Ok x) next = next x

-- a number in a range, and none where there is no value
abbrev pub number_in : (least most : ℕ) → List ℕ → Option (Option ℕ)
number_in least most [] = Some None
number_in least most (octet ∷ octets) =
    if is_number_within least most (octet ∷ octets) then Some (Some (number_of (octet ∷ octets))) else None

abbrev pub number_given : Spot → (least most : ℕ) → List Pair → Result (Option ℕ) Answer
number_given spot least most given = right spot (number_in least most (value_of spot given))

abbrev pub or_zero : Option ℕ → ℕ
or_zero None = 0
or_zero (Some number) = number

abbrev pub number : Spot → (least most : ℕ) → List Pair → Result ℕ Answer
number spot least most given = behind (number_given spot least most given) (λ number. Ok (or_zero number))

-- octets, at most so many
abbrev pub octets_in : (most : ℕ) → List ℕ → Option (List ℕ)
octets_in most value = if nat_le (length value) most then Some value else None

abbrev pub octets : Spot → (most : ℕ) → List Pair → Result (List ℕ) Answer
octets spot most given = right spot (octets_in most (value_of spot given))

-- ---- to: 1 to 50 numbers with spaces between them

abbrev pub most_receivers : ℕ
most_receivers = 50

abbrev pub is_space : ℕ → Bool
is_space octet = octet == 32

-- what stands between spaces
abbrev pub words : List ℕ → List (List ℕ)
words value = filter is_filled (slice_split is_space value)

-- a number is an optional + and 1 to 15 digits
abbrev pub is_number : List ℕ → Bool
is_number word = is_digits most_digits (behind_plus word)

abbrev pub address_of : List ℕ → Address
address_of word = Number (has_plus word) (behind_plus word)

abbrev pub are_receivers : List ℕ → Bool
are_receivers value = is_within 1 most_receivers (length (words value)) && list_all is_number (words value)

abbrev pub addresses_in : List ℕ → Option (List Address)
addresses_in value = if are_receivers value then Some (map address_of (words value)) else None

-- ---- from: the user's faked sender, or else what is given, or else the user's own or the one of all

abbrev pub sender_by : (faked : Option Address) → List ℕ → (own common : Option Address) → Option Address
sender_by (Some faked) value own common = Some faked
sender_by None [] own common = option_or own common
sender_by None (octet ∷ octets) own common = sender_of (octet ∷ octets)

-- ---- coding: 0 for 7 bits, 1 for 8 bits, 2 for UCS-2; where none is given, 8 bits with a header and else 7 bits

abbrev pub coding_by : Option ℕ → (udh : List ℕ) → Coding
coding_by (Some number) udh = if number == 0 then Seven else if number == 1 then Eight else Ucs2
coding_by None [] = Seven
coding_by None (octet ∷ octets) = Eight

-- ---- charset: one of three names, in any case; where none is given, UTF-16BE for UCS-2 and else UTF-8

abbrev pub charset_unless_given : Coding → Charset
charset_unless_given Seven = Utf8
charset_unless_given Eight = Utf8
charset_unless_given Ucs2 = Utf16Be

abbrev pub charset_named : List ℕ → Option Charset
charset_named name =
    if str_eq_ignore_ascii_case name (codes "UTF-8") then Some Utf8 else
    if str_eq_ignore_ascii_case name (codes "ISO-8859-1") then Some Latin1 else
    if str_eq_ignore_ascii_case name (codes "UTF-16BE") then Some Utf16Be else None

abbrev pub charset_of : Coding → List ℕ → Option Charset
charset_of coding [] = Some (charset_unless_given coding)
charset_of coding (octet ∷ octets) = charset_named (octet ∷ octets)

-- ---- udh: at most 60 octets, well-formed (GSM 03.40 9.2.3.24)

abbrev pub most_udh : ℕ
most_udh = 60

-- what stands behind an element, which is an identifier, a length and so many octets
abbrev pub behind_element : List ℕ → Option (List ℕ)
behind_element [] = None
behind_element (id ∷ []) = None
behind_element (id ∷ len ∷ rest) = if nat_le len (length rest) then Some (drop len rest) else None

abbrev pub fill_by : (List ℕ → Bool) → Option (List ℕ) → Bool
fill_by test None = false
fill_by test (Some rest) = test rest

-- elements fill the octets; so many of them at most are looked at
abbrev pub fill : (most : ℕ) → List ℕ → Bool
fill most [] = true
fill zero (octet ∷ octets) = false
fill (suc most) (octet ∷ octets) = fill_by (fill most) (behind_element (octet ∷ octets))

-- the first octet is the number of those behind it, and they are elements
abbrev pub is_header : List ℕ → Bool
is_header [] = true
is_header (count ∷ rest) = (count == length rest) && fill (length rest) rest

abbrev pub is_udh : List ℕ → Bool
is_udh value = nat_le (length value) most_udh && is_header value

abbrev pub header_in : List ℕ → Option (List ℕ)
header_in value = if is_udh value then Some value else None

-- ---- smsc and dlr-mask: what stands for what isn't there

abbrev pub first_of : (value own : List ℕ) → List ℕ
first_of [] own = own
first_of (octet ∷ octets) own = octet ∷ octets

-- a mask asks for nothing where there is no URL to call
abbrev pub mask_by : (mask : ℕ) → (url : List ℕ) → ℕ
mask_by mask [] = 0
mask_by mask (octet ∷ octets) = mask

-- ---- text: in its charset, brought into the message's coding

abbrev pub is_text_in : Charset → List ℕ → Bool
is_text_in Utf8 octets = is_utf8 octets
is_text_in Latin1 octets = true
is_text_in Utf16Be octets = length octets % 2 == 0

-- the characters of a text as septets, or as UCS-2
abbrev pub septets : List ℕ → List ℕ
septets text = flat_map septets_of (chars text)

abbrev pub ucs2 : List ℕ → List ℕ
ucs2 text = flat_map ucs2_of (chars text)

-- the body of a text that is right in its charset: its septets, its own octets, its UCS-2
abbrev pub body_in : Coding → Charset → List ℕ → List ℕ
body_in Seven charset text = septets (text_in charset text)
body_in Eight charset text = text
body_in Ucs2 Utf16Be text = text
body_in Ucs2 Utf8 text = ucs2 (text_in Utf8 text)
body_in Ucs2 Latin1 text = ucs2 (text_in Latin1 text)

-- of 8 bits any octets are a body
abbrev pub is_body_in : Coding → Charset → List ℕ → Bool
is_body_in Seven charset text = is_text_in charset text
is_body_in Eight charset text = true
is_body_in Ucs2 charset text = is_text_in charset text

abbrev pub body_of : Coding → Charset → List ℕ → Option (List ℕ)
body_of coding charset text = if is_body_in coding charset text then Some (body_in coding charset text) else None
