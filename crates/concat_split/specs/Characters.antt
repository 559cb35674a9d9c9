-- The whole characters of a text in each coding.
use Rattle.std.specs.Prelude.{◌≡◌, ℕ, ◌/◌, ◌<◌, ◌≤◌, ◌==◌, nat_le, Bool, ◌&&◌, List, [], ◌∷◌, length, map, take, drop, if◌then◌else◌}
use Rattle.std.specs.List.{concat}
use Rattle.sms_record.specs.declared.coding.Coding.{Coding}
use Rattle.sms_record.specs.declared.coding.Coding.TheVariants.{Seven, Eight, Ucs2}

-- one septet, or an escape and the septet behind it (GSM 03.38 6.2.1)
abbrev pub septet_characters : List ℕ → List (List ℕ)
septet_characters [] = []
septet_characters (s ∷ []) = (s ∷ []) ∷ []
septet_characters (s ∷ t ∷ rest) = if s == 27 then (s ∷ t ∷ []) ∷ septet_characters rest else (s ∷ []) ∷ septet_characters (t ∷ rest)

-- one octet
abbrev pub octet_characters : List ℕ → List (List ℕ)
octet_characters octets = map (λ octet. octet ∷ []) octets

-- a unit with this high octet is a high surrogate, D800 to DBFF (RFC 2781 2.1)
abbrev pub is_high : ℕ → Bool
is_high octet = nat_le 216 octet && nat_le octet 219

-- a unit with this high octet is a low surrogate, DC00 to DFFF (RFC 2781 2.1)
abbrev pub is_low : ℕ → Bool
is_low octet = nat_le 220 octet && nat_le octet 223

-- one unit of two octets, or a high surrogate and the low one behind it; an odd octet at the end stands alone
abbrev pub unit_characters : List ℕ → List (List ℕ)
unit_characters [] = []
unit_characters (h ∷ []) = (h ∷ []) ∷ []
unit_characters (h ∷ l ∷ []) = (h ∷ l ∷ []) ∷ []
unit_characters (h ∷ l ∷ i ∷ []) = (h ∷ l ∷ []) ∷ (i ∷ []) ∷ []
unit_characters (h ∷ l ∷ i ∷ m ∷ rest) = if is_high h && is_low i then (h ∷ l ∷ i ∷ m ∷ []) ∷ unit_characters rest else (h ∷ l ∷ []) ∷ unit_characters (i ∷ m ∷ rest)

-- the characters of a text
abbrev pub characters : Coding → List ℕ → List (List ℕ)
characters Seven text = septet_characters text
characters Eight text = octet_characters text
characters Ucs2 text = unit_characters text

-- the units of so many octets: septets, octets or UCS-2 units
abbrev pub units_of : Coding → ℕ → ℕ
units_of Seven octets = octets
units_of Eight octets = octets
units_of Ucs2 octets = octets / 2

-- the units of a text
abbrev pub units : Coding → List ℕ → ℕ
units coding text = units_of coding (length text)

-- the first of a text's characters has so many octets
pub record IsFirst (cut : List ℕ → List (List ℕ)) (text : List ℕ) (len : ℕ) : Type 0 where
  pub some : 0 < len
  pub within : len ≤ length text
  pub parts : cut text ≡ take len text ∷ cut (drop len text)

-- the first of a text's characters are these, and have so many octets
pub record Cuts (coding : Coding) (text : List ℕ) (taken : List (List ℕ)) (at : ℕ) : Type 0 where
  pub within : at ≤ length text
  pub front : take at text ≡ concat taken
  pub rest : characters coding (drop at text) ≡ drop (length taken) (characters coding text)
