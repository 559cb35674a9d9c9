-- What the parts of a text keep of it, in words of the text and its parts alone.
use Rattle.std.specs.Prelude.{◌≡◌, ℕ, ◌+◌, ◌*◌, ◌/◌, ◌<◌, ◌≤◌, List, [], ◌∷◌, ◌++◌, length, map}
use Rattle.std.specs.List.{concat, flat_map, AllByRecursion}
use Rattle.sms_record.specs.declared.coding.Coding.{Coding}
use Rattle.sms_record.specs.declared.coding.Coding.TheVariants.{Seven, Eight, Ucs2}
use Rattle.sms_record.specs.Record.{IsOfCoding}
use Rattle.sms_record.specs.Room.{header_len}
use Rattle.concat_split.specs.declared.limits.Limits.{Limits}
use Rattle.concat_split.specs.declared.part.Part.{Part}
use Rattle.concat_split.specs.Characters.{characters}
use Rattle.concat_split.specs.Parts.{wrapped}

-- the octets that a text takes in a message: eight septets in seven octets (GSM 03.38 6.1.2.1)
abbrev pub message_octets : Coding → List ℕ → ℕ
message_octets Seven text = (7 * length text + 7) / 8
message_octets Eight text = length text
message_octets Ucs2 text = length text

-- One part: it and the header that goes out with it fit in one message (GSM 03.40 9.2.3.16), it is of the text's coding, and it is one of
-- at most so many.
pub record IsPart (coding : Coding) (udh : ℕ) (limits : Limits) (part : Part) : Type 0 where
  pub fits : header_len udh part.total + message_octets coding part.body ≤ 140
  pub coded : IsOfCoding coding part.body
  pub among : (1 ≤ part.part) × (part.part ≤ part.total)
  pub few : part.total ≤ limits.parts

-- one part at least, and no more than there may be
pub record AreParts (coding : Coding) (udh : ℕ) (limits : Limits) (parts : List Part) : Type 0 where
  pub some : 1 ≤ length parts
  pub few : length parts ≤ limits.parts
  pub each : AllByRecursion (IsPart coding udh limits) parts

-- the bodies of parts that have these characters: header, characters, suffix, footer, but no suffix in the last
abbrev pub bodies_of : Limits → List (List (List ℕ)) → List (List ℕ)
bodies_of limits [] = []
bodies_of limits (shares ∷ []) = wrapped limits (concat shares) ∷ []
bodies_of limits (shares ∷ next ∷ rest) = wrapped limits (concat shares ++ limits.suffix) ∷ bodies_of limits (next ∷ rest)

-- whole characters of the text are in the parts in their order; the last ones may be cut off, where there are as many parts as may be
pub record IsSharedOut (coding : Coding) (text : List ℕ) (limits : Limits) (parts : List Part) : Type 0 where
  pub shares : List (List (List ℕ))
  pub cut_off : List (List ℕ)
  pub bodies : map (λ p. p.body) parts ≡ bodies_of limits shares
  pub in_order : flat_map (λ share. share) shares ++ cut_off ≡ characters coding text
  pub front : flat_map concat shares ++ concat cut_off ≡ text
  pub all : length parts < limits.parts → cut_off ≡ []
