-- What the steps of an opening find.
use Rattle.std.specs.Prelude.{◌≡◌, ◌⊎◌, ◌<◌, ◌≤◌, ◌^◌, ℕ, Bool, List, [], ◌∷◌, ◌++◌, length, drop, Ok, All, None}
use Rattle.std.specs.Bool.{OnTrue}
use Rattle.exact_octets.specs.declared.read_fault.ReadFault.{ReadFault}
use Rattle.exact_octets.specs.declared.read_fault.ReadFault.TheVariants as faults
use Rattle.exact_octets.specs.Reading.{many}
use Rattle.store_disk.specs.Disk.{Areas, octets_of}
use Rattle.store_disk.specs.Story.{Past, Story, at_rest, past_of, reads}
use Rattle.store_journal.specs.Area.{born, foreign, unborn, stands, header, header_at, reading, fault_place, gate_place, unit, units, unit_at, payloads_in, behind_units, IsPayload}
use Rattle.store_journal.specs.Keeping.{IsKeptBy, IsSure}
use Rattle.store_journal.specs.Journal.{OpensAs}
use Rattle.store_disk.specs.declared.area.Area.{Area}
use Rattle.store_disk.specs.declared.area.Area.TheVariants.{A, B, Pick}
use Rattle.store_journal.specs.declared.fault.OpenFault.{OpenFault}
use Rattle.store_journal.specs.declared.fault.OpenFault.TheVariants.{Foreign, Disk, Memory}
use Rattle.store_journal.specs.declared.found.Found.{Found}

-- octets begin with no unit
abbrev pub IsNoUnit : List ℕ → Type 0
IsNoUnit octets = many unit_at octets ≡ ([], octets)

-- octets begin with the unit of this payload, and what stands behind it is read on
pub record IsFirstUnit (octets payload behind : List ℕ) : Type 0 where
  pub apart : octets ≡ unit payload ++ behind
  pub payloads : payloads_in octets ≡ payload ∷ payloads_in behind
  pub rest : behind_units octets ≡ behind_units behind

-- octets begin with the header of a birth, and behind it with units: they are these and what stands behind them
pub record IsRead (octets : List ℕ) (birth : ℕ) (rest : List ℕ) : Type 0 where
  pub read : header_at octets ≡ Ok (birth, rest)
  pub small : birth < 2 ^ 64
  pub sizes : All IsPayload (payloads_in rest)
  pub behind_header : drop 16 octets ≡ rest
  pub spelled : octets ≡ header birth ++ (units (payloads_in rest) ++ behind_units rest)

-- what a fault in reading the header of an area is told as
abbrev pub IsMisfitOf : Area → List ℕ → ReadFault → OpenFault → Type 0
IsMisfitOf area octets faults.Memory fault = fault ≡ Memory
IsMisfitOf area octets faults.Short fault = fault ≡ Foreign area (fault_place octets faults.Short)
IsMisfitOf area octets (faults.Malformed left) fault = fault ≡ Foreign area (fault_place octets (faults.Malformed left))

-- the octets of an area are no text: its first fault stands there
abbrev pub IsMisfit : Area → List ℕ → OpenFault → Type 0
IsMisfit area octets (Foreign other at) = reading area octets ≡ foreign other at
IsMisfit area octets Disk = ⊥
IsMisfit area octets Memory = Unit {0}

-- what was found at an opening, with the story of the disk before it and now
pub record IsFound (tells : Bool) (before now : Story) (birth : ℕ) (found : Found) (payloads : List (List ℕ)) : Type 0 where
  pub small : found.birth < 2 ^ 64
  pub sizes : All IsPayload payloads
  pub left : payloads_in (drop found.place found.octets.items) ≡ payloads
  pub first : found.place ≡ 16
  pub place : found.place ≤ length found.octets.items
  pub end : found.end ≡ gate_place payloads
  pub bounded : found.end < 2 ^ 63
  pub kept : OnTrue tells (IsKeptBy now found.area found.birth payloads None)
  pub stood : OnTrue tells (OpensAs (stands (reads before)) birth found.birth found.area payloads)

-- an area holds more than a birth would write, where the story is told, or the disk failed
abbrev pub IsMore : Bool → Areas → Area → OpenFault → Type 0
IsMore tells areas area (Foreign more at) = (more ≡ area) × (at ≡ 17) × OnTrue tells (17 < length (octets_of areas area))
IsMore tells areas area Disk = Unit {0}
IsMore tells areas area Memory = ⊥

-- all areas are at rest: a stop leaves what they read as
abbrev pub AreAtRest : Story → Type 0
AreAtRest story = (area : Area) → past_of story area ≡ at_rest (octets_of (reads story) area)

-- An area has no more octets than this, now and after a stop.
pub record IsSmall (most : ℕ) (past : Past) : Type 0 where
  pub reads : length past.octets ≤ most
  pub greatest : past.greatest ≤ most

abbrev pub AreSmall : (Area → ℕ) → Story → Type 0
AreSmall most story = (area : Area) → IsSmall (most area) (past_of story area)

-- the most octets that the areas have in a birth, before Pick is written and after it
abbrev pub most_unpicked : Area → ℕ
most_unpicked A = 17
most_unpicked B = 17
most_unpicked Pick = 0

abbrev pub most_fresh : Area → ℕ
most_fresh A = 17
most_fresh B = 17
most_fresh Pick = 1

-- Both areas keep a store without payloads, so that it doesn't matter which of them a stop picks, or whether it picks one.
pub record AreFresh (birth : ℕ) (story : Story) : Type 0 where
  pub a : IsSure birth [] (past_of story A)
  pub b : IsSure birth [] (past_of story B)
  pub small : AreSmall most_fresh story

-- areas are a store that isn't born, or one that was born without payloads
abbrev pub IsUnbornOrFresh : ℕ → Areas → Type 0
IsUnbornOrFresh birth areas = (stands areas ≡ unborn) ⊎ ((area : Area) × (stands areas ≡ born birth area []))
