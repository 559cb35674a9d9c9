-- What the value of a configuration's variable may hold, and what it is read as. A value is octets; bounds are counted in.
use Rattle.std.specs.Prelude.{ℕ, Bool, true, false, ◌&&◌, ◌||◌, ◌==◌, not, nat_le, List, [], ◌∷◌, ◌++◌, length, filter, codes, bytes_eq, chars, Option, Some, None, is_some, if◌then◌else◌}
use Rattle.std.specs.Char.{is_ascii_digit, is_ascii_alphanumeric}
use Rattle.std.specs.List.{list_all, list_any, slice_split}
use Rattle.std.specs.Str.{is_utf8}
use Rattle.kn_base.specs.Decimal.{decimal_value}
use Rattle.sms_record.specs.declared.address.Address.{Address}
use Rattle.sms_record.specs.declared.address.Address.TheVariants.{Number, Text}
use Rattle.sms_record.specs.Limits.{most_digits}
use Rattle.config_values.specs.declared.grammar.Grammar.{Grammar}
use Rattle.config_values.specs.declared.grammar.Grammar.TheVariants as grammars

-- at least so many, and at most so many
abbrev pub is_within : (least most number : ℕ) → Bool
is_within least most number = nat_le least number && nat_le number most

-- ---- values that are told by their octets one by one

-- one to so many decimal digits
abbrev pub is_digits : (most : ℕ) → List ℕ → Bool
is_digits most value = is_within 1 most (length value) && list_all is_ascii_digit value

-- printable ASCII, the space among it
abbrev pub is_printable_octet : ℕ → Bool
is_printable_octet octet = is_within 32 126 octet

-- one to so many octets of printable ASCII
abbrev pub is_printable : (most : ℕ) → List ℕ → Bool
is_printable most value = is_within 1 most (length value) && list_all is_printable_octet value

-- neither a space nor a TAB
abbrev pub is_no_blank : ℕ → Bool
is_no_blank octet = not (octet == 32) && not (octet == 9)

-- one to so many octets without a blank
abbrev pub is_word : (most : ℕ) → List ℕ → Bool
is_word most value = is_within 1 most (length value) && list_all is_no_blank value

-- a slash, and any octets behind it
abbrev pub is_path : List ℕ → Bool
is_path [] = false
is_path (first ∷ rest) = first == 47

-- ---- numbers

-- a number is 1 to 9 decimal digits
abbrev pub is_number : List ℕ → Bool
is_number value = is_digits 9 value

-- the number that a value writes, and 0 where it is none
abbrev pub number_of : List ℕ → ℕ
number_of value = if is_number value then decimal_value value else 0

-- a number, at least and at most so great
abbrev pub is_number_within : (least most : ℕ) → List ℕ → Bool
is_number_within least most value = is_number value && is_within least most (number_of value)

-- ---- truths

abbrev pub says_true : List ℕ → Bool
says_true value = bytes_eq value (codes "true") || bytes_eq value (codes "yes") || bytes_eq value (codes "on") || bytes_eq value (codes "1")

abbrev pub says_false : List ℕ → Bool
says_false value = bytes_eq value (codes "false") || bytes_eq value (codes "no") || bytes_eq value (codes "off") || bytes_eq value (codes "0")

-- what a value says as a truth, where it says one
abbrev pub truth_of : List ℕ → Option Bool
truth_of value = if says_true value then Some true else if says_false value then Some false else None

-- ---- lists

-- a semicolon stands between entries
abbrev pub is_separator : ℕ → Bool
is_separator octet = octet == 59

abbrev pub is_filled : List ℕ → Bool
is_filled entry = not (length entry == 0)

-- the entries: what stands between semicolons, without those that are empty
abbrev pub entries : List ℕ → List (List ℕ)
entries value = filter is_filled (slice_split is_separator value)

-- an entry has at most 64 octets
abbrev pub is_entry : List ℕ → Bool
is_entry entry = nat_le (length entry) 64

-- a list has at most 1,000 entries
abbrev pub is_list : List ℕ → Bool
is_list value = nat_le (length (entries value)) 1000 && list_all is_entry (entries value)

-- ---- addresses that a message can come from

-- a + stands first
abbrev pub has_plus : List ℕ → Bool
has_plus [] = false
has_plus (first ∷ rest) = first == 43

-- the octets behind a + that stands first
abbrev pub behind_plus : List ℕ → List ℕ
behind_plus [] = []
behind_plus (first ∷ rest) = if first == 43 then rest else first ∷ rest

-- a number is an optional + and 1 to 15 decimal digits, and all else is a text
abbrev pub address_of : List ℕ → Address
address_of value = if is_digits most_digits (behind_plus value) then Number (has_plus value) (behind_plus value) else Text value

-- the characters that a text may hold beside letters and digits; the last is the double quotation mark
abbrev pub marks : List ℕ
marks = codes " .,:;!?+-/()=*#'" ++ 34 ∷ []

abbrev pub is_text_octet : ℕ → Bool
is_text_octet octet = is_ascii_alphanumeric octet || list_any (λ mark. mark == octet) marks

-- one to eleven characters, each an ASCII letter, a digit or one of the marks
abbrev pub is_sendable_text : List ℕ → Bool
is_sendable_text text = is_within 1 11 (length text) && list_all is_text_octet text

-- a message can come from each number, and from such texts
abbrev pub is_sendable : Address → Bool
is_sendable (Number plus digits) = true
is_sendable (Text text) = is_sendable_text text

-- the address of a value, where a message can come from it
abbrev pub sender_of : List ℕ → Option Address
sender_of value = if is_sendable (address_of value) then Some (address_of value) else None

-- ---- texts

-- how many characters a value has in UTF-8, and 0 where it is none
abbrev pub characters : List ℕ → ℕ
characters value = if is_utf8 value then length (chars value) else 0

-- UTF-8 of at most so many characters
abbrev pub is_text : (most : ℕ) → List ℕ → Bool
is_text most value = is_utf8 value && nat_le (characters value) most

-- ---- what a variable of a grammar may hold

abbrev pub holds : Grammar → List ℕ → Bool
holds (grammars.Octets least most) value = is_within least most (length value)
holds (grammars.Number least most) value = is_number_within least most value
holds grammars.Truth value = is_some (truth_of value)
holds grammars.Sender value = is_sendable (address_of value)
holds grammars.List value = is_list value
holds (grammars.Printable most) value = is_printable most value
holds (grammars.Digits most) value = is_digits most value
holds grammars.Path value = is_path value
holds (grammars.Word most) value = is_word most value
holds (grammars.Utf8 most) value = nat_le (length value) most && is_utf8 value
holds (grammars.Characters most) value = is_text most value
