-- What the three areas of a disk hold, and what its calls do to them.
use Rattle.std.specs.Prelude.{◌≡◌, ◌≤◌, ◌+◌, ℕ, Bool, true, false, List, [], ◌++◌, length, take, drop, Result, OnOk, OnErr}
use Rattle.kn_base.specs.Count.{next_count}
use Rattle.store_disk.specs.declared.area.Area.{Area}
use Rattle.store_disk.specs.declared.area.Area.TheVariants.{A, B, Pick}
use Rattle.store_disk.specs.declared.disk.DiskFailed.{DiskFailed}

-- two names are of one area
abbrev pub same_area : Area → Area → Bool
same_area A A = true
same_area B B = true
same_area Pick Pick = true
same_area area other = false

-- the octets of the three areas
pub record Areas : Type 0 where
  pub a : List ℕ
  pub b : List ℕ
  pub pick : List ℕ

-- areas without octets
abbrev pub no_areas : Areas
no_areas = record { a = []; b = []; pick = [] }

-- the last place at which a write may end, in octets: 2^62
abbrev pub last_end : ℕ
last_end = 4611686018427387904

-- the octets of one area
abbrev pub octets_of : Areas → Area → List ℕ
octets_of areas A = areas.a
octets_of areas B = areas.b
octets_of areas Pick = areas.pick

-- the areas with other octets in one of them
abbrev pub with_octets : Areas → Area → List ℕ → Areas
with_octets areas A octets = record { a = octets; b = areas.b; pick = areas.pick }
with_octets areas B octets = record { a = areas.a; b = octets; pick = areas.pick }
with_octets areas Pick octets = record { a = areas.a; b = areas.b; pick = octets }

-- octets with some written over them from a place on, and past their end
abbrev pub written : List ℕ → ℕ → List ℕ → List ℕ
written octets at bytes = take at octets ++ bytes ++ drop (at + length bytes) octets

-- the areas after a write to one of them
abbrev pub after_write : Area → ℕ → List ℕ → Areas → Areas
after_write area at bytes areas = with_octets areas area (written (octets_of areas area) at bytes)

-- a place is no further than an area's end
abbrev pub IsWithin : Areas → Area → ℕ → Type 0
IsWithin areas area place = place ≤ length (octets_of areas area)

-- octets are those of an area from a place on
abbrev pub Reads : Areas → Area → ℕ → List ℕ → Type 0
Reads areas area at octets = octets ≡ take (length octets) (drop at (octets_of areas area))

-- A call is counted, and where it failed, so is its fault. Neither count falls.
pub record CountsCall {T : Type 0} (calls calls_now faults faults_now : ℕ) (result : Result T DiskFailed) : Type 0 where
  pub counted : calls_now ≡ next_count calls
  pub kept : faults ≤ faults_now
  pub ok : OnOk result (faults_now ≡ faults)
  pub failed : OnErr result (faults_now ≡ next_count faults)
