-- What a journal keeps, and what its calls answer.
use Rattle.std.specs.Prelude.{◌≡◌, ◌⊎◌, ◌<◌, ◌≤◌, ◌+◌, ◌-◌, ◌^◌, ℕ, Bool, List, [], ◌∷◌, ◌++◌, length, take, drop, All, Option, Some, None, is_some, if◌then◌else◌, Result, Ok, Err, OnOk, OnErr}
use Rattle.std.specs.Bool.{OnTrue}
use Rattle.store_disk.specs.Disk.{Areas}
use Rattle.store_disk.specs.Meaning.{Meaning}
use Rattle.store_disk.specs.Story.{Story, IsImage, LeavesOnly}
use Rattle.store_disk.specs.declared.disk.DiskFailed.{DiskFailed}
use Rattle.store_journal.specs.Area.{Standing, unborn, born, foreign, stands, gate_place, unit, payloads_in, IsPayload}
use Rattle.store_journal.specs.Keeping.{IsKeptBy}
use Rattle.store_disk.specs.declared.area.Area.{Area}
use Rattle.store_disk.specs.declared.area.Area.TheVariants.{A}
use Rattle.store_journal.specs.declared.fault.OpenFault.{OpenFault}
use Rattle.store_journal.specs.declared.fault.OpenFault.TheVariants.{Foreign, Disk, Memory}
use Rattle.store_journal.specs.declared.journal.Journal.{Journal}

-- areas stand for these payloads, or, where one is unsure, for these with it behind them
abbrev pub MayHold : ℕ → Area → List (List ℕ) → Option (List ℕ) → Areas → Type 0
MayHold birth area payloads None areas = stands areas ≡ born birth area payloads
MayHold birth area payloads (Some unsure) areas = (stands areas ≡ born birth area payloads) ⊎ (stands areas ≡ born birth area (payloads ++ unsure ∷ []))

module _ {D : Type 0} where
  -- the disk of a journal
  abbrev pub disk_of : Journal D → D
  disk_of journal = journal.disk

  -- the area that a journal's disk picks
  abbrev pub area_of : Journal D → Area
  area_of journal = journal.area

  -- the birth of a journal's store
  abbrev pub birth_of : Journal D → ℕ
  birth_of journal = journal.birth

  -- the gate of the payload that the last append wrote may stand open
  abbrev pub is_unsure : Journal D → Bool
  is_unsure journal = journal.unsure

  -- the payloads that are still to be handed out
  abbrev pub left : Journal D → List (List ℕ)
  left journal = payloads_in (drop journal.place journal.octets.items)

  -- all payloads that the opening found are handed out
  abbrev pub IsHandedOut : Journal D → Type 0
  IsHandedOut journal = left journal ≡ []

  -- the place of the gate of the payload that was handed out last, of the first one before that, and of the closed gate behind the last
  abbrev pub gate_of : Journal D → ℕ
  gate_of journal = journal.gate

  -- the place of the gate of the payload that is handed out next, or of the closed gate that the opening found
  abbrev pub next_gate : Journal D → ℕ
  next_gate journal = journal.place

  -- the payload that the next append appends, empty where none is reserved
  abbrev pub reserved : Journal D → List ℕ
  reserved journal = take (length journal.unit.items - 6) (drop 5 journal.unit.items)

  -- The journal holds these payloads, and one more may stand behind them where one is unsure: what is left to hand out is the end of them,
  -- its disk reads as them, and so does whatever a stop leaves.
  pub record IsJournal (meaning : Meaning D) (journal : Journal D) (birth : ℕ) (payloads : List (List ℕ)) (unsure : Option (List ℕ)) : Type 0 where
    pub handed : List (List ℕ)
    pub born : journal.birth ≡ birth
    pub small : birth < 2 ^ 64
    pub sizes : All IsPayload payloads
    pub split : payloads ≡ handed ++ left journal
    pub place : journal.place ≤ length journal.octets.items
    pub end : journal.end ≡ gate_place payloads
    pub bounded : journal.end < 2 ^ 63
    pub ready : 0 < length (reserved journal) → journal.unit.items ≡ unit (reserved journal) ++ 0 ∷ []
    pub fits : 0 < length (reserved journal) → IsPayload (reserved journal)
    pub doubt : journal.unsure ≡ is_some unsure
    pub kept : OnTrue meaning.tells (IsKeptBy (meaning.story journal.disk) journal.area birth payloads unsure)

  -- the journal holds some payloads
  abbrev pub IsKept : Meaning D → Journal D → Type 0
  IsKept meaning journal = (birth : ℕ) × (payloads : List (List ℕ)) × (unsure : Option (List ℕ)) × IsJournal meaning journal birth payloads unsure

  -- whatever the journal held, it still holds
  abbrev pub HoldsSame : Meaning D → Journal D → Journal D → Type 0
  HoldsSame meaning old new =
      (birth : ℕ) (payloads : List (List ℕ)) (unsure : Option (List ℕ)) → IsJournal meaning old birth payloads unsure → IsJournal meaning new birth payloads unsure

  -- An append to a journal in which nothing was unsure: after Ok its payload stands last, and else it stands nowhere, or it is unsure. A stop
  -- on the way leaves the payloads without it or with it.
  pub record Appends {T : Type 0} (meaning : Meaning D) (old new : Journal D) (result : Result T DiskFailed) (birth : ℕ) (payloads : List (List ℕ)) : Type 0 where
    pub ok : OnOk result (IsJournal meaning new birth (payloads ++ reserved old ∷ []) None)
    pub failed : OnErr result (IsJournal meaning new birth payloads (if is_unsure new then Some (reserved old) else None))
    pub stops : OnTrue meaning.tells (LeavesOnly (meaning.story (disk_of old)) (meaning.story (disk_of new)) (MayHold birth (area_of old) payloads (Some (reserved old))))

  -- A repair: after Ok nothing is unsure, and else what was still is. A stop on the way leaves what one before it left.
  pub record Repairs {T : Type 0} (meaning : Meaning D) (old new : Journal D) (result : Result T DiskFailed) (birth : ℕ) (payloads : List (List ℕ)) (unsure : Option (List ℕ)) : Type 0 where
    pub ok : OnOk result (IsJournal meaning new birth payloads None)
    pub failed : OnErr result (IsJournal meaning new birth payloads unsure)
    pub stops : OnTrue meaning.tells (LeavesOnly (meaning.story (disk_of old)) (meaning.story (disk_of new)) (MayHold birth (area_of old) payloads unsure))

-- areas stand for what others stood for, or a store that wasn't born is born with this birth, without payloads
abbrev pub IsLike : (birth : ℕ) → Standing → Standing → Type 0
IsLike birth before now = (now ≡ before) ⊎ ((before ≡ unborn) × (area : Area) × (now ≡ born birth area []))

-- A stop in an opening leaves what a stop before it left, but for a birth with this number.
abbrev pub OpensOver : (birth : ℕ) → Story → Story → Type 0
OpensOver birth old new = LeavesOnly old new (λ image. (before : Areas) × IsImage old before × IsLike birth (stands before) (stands image))

-- what an opening of areas that stand so finds: the birth, the area and the payloads, none where the store is born with this birth
abbrev pub OpensAs : Standing → ℕ → ℕ → Area → List (List ℕ) → Type 0
OpensAs unborn birth now area payloads = (now ≡ birth) × (area ≡ A) × (payloads ≡ [])
OpensAs (born old stood_in stood) birth now area payloads = (now ≡ old) × (area ≡ stood_in) × (payloads ≡ stood)
OpensAs (foreign stood_in at) birth now area payloads = ⊥

-- these payloads, or where one is unsure, maybe that one behind them
abbrev pub AreFound : List (List ℕ) → Option (List ℕ) → List (List ℕ) → Type 0
AreFound payloads None left = left ≡ payloads
AreFound payloads (Some unsure) left = (left ≡ payloads) ⊎ (left ≡ payloads ++ unsure ∷ [])

-- Whatever is left of a disk, also by a stop, an opening of it finds this birth and these payloads, or where one is unsure, maybe that one
-- more, last.
abbrev pub HandsOn : Story → (birth : ℕ) → List (List ℕ) → (unsure : Option (List ℕ)) → Type 0
HandsOn story birth payloads unsure =
    (image : Areas) → IsImage story image → (other now : ℕ) (area : Area) (left : List (List ℕ)) → OpensAs (stands image) other now area left
    → (now ≡ birth) × AreFound payloads unsure left

-- an opening answers Foreign only where the areas are, in that area at that place
abbrev pub IsCause : Areas → OpenFault → Type 0
IsCause areas (Foreign area at) = stands areas ≡ foreign area at
IsCause areas Disk = Unit {0}
IsCause areas Memory = Unit {0}

-- the next of the payloads that are left: the first of them, None where there is none, and want of memory leaves them
abbrev pub Hands : List (List ℕ) → Result (Option (List ℕ)) OpenFault → List (List ℕ) → Type 0
Hands left (Ok None) now = (left ≡ []) × (now ≡ [])
Hands left (Ok (Some payload)) now = left ≡ payload ∷ now
Hands left (Err fault) now = (fault ≡ Memory) × (now ≡ left)

-- Where the gates are: that of a payload which was handed out stood next, and the next one stands behind its unit; after None the gate is the
-- closed one, and want of memory leaves both.
abbrev pub MovesOn : {D : Type 0} → Journal D → Result (Option (List ℕ)) OpenFault → Journal D → Type 0
MovesOn old (Ok None) new = (gate_of new ≡ next_gate old) × (next_gate new ≡ next_gate old)
MovesOn old (Ok (Some payload)) new = (gate_of new ≡ next_gate old) × (next_gate new ≡ next_gate old + 5 + length payload)
MovesOn old (Err fault) new = (gate_of new ≡ gate_of old) × (next_gate new ≡ next_gate old)

-- a fact that holds unless the disk failed
abbrev pub IsUnlessDisk : OpenFault → Type 0 → Type 0
IsUnlessDisk Disk P = Unit {0}
IsUnlessDisk fault P = P

-- nothing is written to areas that stand for a store, or are foreign
abbrev pub IsUntouched : Areas → Areas → Type 0
IsUntouched before now = ¬ (stands before ≡ unborn) → now ≡ before
