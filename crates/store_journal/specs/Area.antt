-- What the octets of an area stand for: a header, units of a gate, a length and a payload, and a closed gate.
use Rattle.std.specs.Prelude.{◌≡◌, ◌+◌, ◌-◌, ◌<◌, ◌^◌, ℕ, Bool, false, not, ◌==◌, nat_lt, List, [], ◌∷◌, ◌++◌, length, if◌then◌else◌, Option, Some, None, Result, Ok, Err, IsTrue, All}
use Rattle.std.specs.List.{flat_map}
use Rattle.exact_octets.specs.declared.alphabet.Alphabet.TheVariants.{Any}
use Rattle.exact_octets.specs.declared.read_fault.ReadFault.{ReadFault}
use Rattle.exact_octets.specs.declared.read_fault.ReadFault.TheVariants as faults
use Rattle.exact_octets.specs.Alphabet.{within}
use Rattle.exact_octets.specs.Numbers.{from_to, number}
use Rattle.exact_octets.specs.Spelling.{counted}
use Rattle.exact_octets.specs.Reading.{Reader, both, made, given, octet_at, number_at, counted_at, kind_at, many}
use Rattle.store_disk.specs.Disk.{Areas, octets_of}
use Rattle.store_disk.specs.declared.area.Area.{Area}
use Rattle.store_disk.specs.declared.area.Area.TheVariants.{A, B}

-- ---- the header

-- the text KNBOX-01
abbrev pub magic : List ℕ
magic = 75 ∷ 78 ∷ 66 ∷ 79 ∷ 88 ∷ 45 ∷ 48 ∷ 49 ∷ []

-- the first 16 octets of an area: the text KNBOX-01 and the birth in eight octets, the highest first
abbrev pub header : ℕ → List ℕ
header birth = magic ++ number 8 birth

-- a word, octet by octet
unfoldable pub word_at : List ℕ → Reader (Unit {0})
word_at [] = given tt
word_at (octet ∷ word) = made (λ x. tt) (both (octet_at (within octet octet)) (λ x. word_at word))

-- the birth that a header tells
unfoldable pub header_at : Reader ℕ
header_at = made (λ x. x.1) (both (word_at magic) (λ x. number_at 8 (from_to 0 (2 ^ 64 - 1))))

-- ---- units

-- the greatest length of a payload
abbrev pub greatest : ℕ
greatest = 16777216

-- a payload has 1 to 16,777,216 octets
abbrev pub IsPayload : List ℕ → Type 0
IsPayload payload = IsTrue (within 1 greatest (length payload))

-- a payload in its unit: an open gate, the length in four octets, the highest first, and the payload
abbrev pub unit : List ℕ → List ℕ
unit payload = 1 ∷ counted 4 payload

-- payloads in their units
abbrev pub units : List (List ℕ) → List ℕ
units payloads = flat_map unit payloads

-- the payload of a unit
unfoldable pub unit_at : Reader (List ℕ)
unit_at = kind_at (within 1 1) (λ gate. counted_at 4 (from_to 1 greatest) Any)

-- the payloads of all the units with which octets begin
abbrev pub payloads_in : List ℕ → List (List ℕ)
payloads_in octets = (many unit_at octets).0

-- what stands behind these units
abbrev pub behind_units : List ℕ → List ℕ
behind_units octets = (many unit_at octets).1

-- octets begin with a closed gate
abbrev pub begins_closed : List ℕ → Bool
begins_closed [] = false
begins_closed (gate ∷ rest) = not (gate == 1)

-- ---- an area

-- an area: the header, each payload in its unit, and one more gate, which is closed
abbrev pub area_text : ℕ → List (List ℕ) → ℕ → List ℕ
area_text birth payloads gate = header birth ++ units payloads ++ gate ∷ []

-- the place behind the units of payloads, where the closed gate stands
abbrev pub gate_place : List (List ℕ) → ℕ
gate_place payloads = 16 + length (units payloads)

-- what a disk stands for
pub data Standing : Type 0 where
  unborn : Standing
  born : (birth : ℕ) (area : Area) (payloads : List (List ℕ)) → Standing
  foreign : (area : Area) (at : ℕ) → Standing

-- where octets cease to be what was read: at their end where they are cut short, and else at the octet that doesn't fit
abbrev pub fault_place : List ℕ → ReadFault → ℕ
fault_place octets (faults.Malformed left) = length octets - left
fault_place octets fault = length octets

-- what an area stands for by what its header reads as: with a closed gate behind the units of what follows it, for their
-- payloads; else the gate of the unit that doesn't fit is its first fault
abbrev pub reading_of : Area → List ℕ → Result (ℕ × List ℕ) ReadFault → Standing
reading_of area octets (Ok x) =
    if begins_closed (behind_units x.1) then born x.0 area (payloads_in x.1) else foreign area (length octets - length (behind_units x.1))
reading_of area octets (Err fault) = foreign area (fault_place octets fault)

-- what the octets of the picked area stand for
abbrev pub reading : Area → List ℕ → Standing
reading area octets = reading_of area octets (header_at octets)

-- the area that the octets of Pick pick: the first octet 2 picks B, any other A, and no octet picks none
abbrev pub picked : List ℕ → Option Area
picked [] = None
picked (first ∷ rest) = Some (if first == 2 then B else A)

-- what areas stand for, by the area that is picked. The areas of a store that is not born hold no more than a birth would write.
abbrev pub standing : Areas → Option Area → Standing
standing areas None =
    if nat_lt 17 (length areas.a) then foreign A 17 else (if nat_lt 17 (length areas.b) then foreign B 17 else unborn)
standing areas (Some area) = reading area (octets_of areas area)

-- what the areas of a disk stand for
abbrev pub stands : Areas → Standing
stands areas = standing areas (picked areas.pick)

-- Octets are the text of these payloads, with something behind the closed gate or nothing.
pub record IsText (octets : List ℕ) (birth : ℕ) (payloads : List (List ℕ)) : Type 0 where
  pub gate : ℕ
  pub behind : List ℕ
  pub closed : (gate == 1) ≡ false
  pub small : birth < 2 ^ 64
  pub sizes : All IsPayload payloads
  pub text : octets ≡ area_text birth payloads gate ++ behind
