-- How a disk keeps the payloads of a journal, so that each stop leaves them.
use Rattle.std.specs.Prelude.{◌≡◌, ◌+◌, ◌==◌, ℕ, false, List, ◌∷◌, ◌++◌, take, Option, Some, None, Result, OnOk, IsOk}
use Rattle.exact_octets.specs.Spelling.{counted}
use Rattle.store_disk.specs.Doubt.{IsFirm, IsGate}
use Rattle.store_disk.specs.Story.{Past, Story, Syncs, Writes, past_of}
use Rattle.store_disk.specs.declared.area.Area.{Area}
use Rattle.store_disk.specs.declared.area.Area.TheVariants.{Pick}
use Rattle.store_disk.specs.declared.disk.DiskFailed.{DiskFailed}
use Rattle.store_journal.specs.Area.{area_text, gate_place, picked, IsPayload}

-- An area keeps these payloads: of their text, up to a closed gate, nothing is in doubt.
pub record IsSure (birth : ℕ) (payloads : List (List ℕ)) (past : Past) : Type 0 where
  pub gate : ℕ
  pub closed : (gate == 1) ≡ false
  pub firm : IsFirm (gate_place payloads + 1) past
  pub text : take (gate_place payloads + 1) past.settled ≡ area_text birth payloads gate

-- An area keeps these payloads, and one more where its gate stands open: nothing but that gate is in doubt, and the gate behind is closed.
pub record IsUnsure (birth : ℕ) (payloads : List (List ℕ)) (unsure : List ℕ) (past : Past) : Type 0 where
  pub gate : ℕ
  pub next : ℕ
  pub behind : List ℕ
  pub closed : (next == 1) ≡ false
  pub size : IsPayload unsure
  pub doubt : IsGate (gate_place payloads) past
  pub text : past.settled ≡ area_text birth payloads gate ++ (counted 4 unsure ++ next ∷ behind)

-- an area keeps these payloads, and where one is unsure, maybe that one more
abbrev pub IsKeptIn : ℕ → List (List ℕ) → Option (List ℕ) → Past → Type 0
IsKeptIn birth payloads None past = IsSure birth payloads past
IsKeptIn birth payloads (Some unsure) past = IsUnsure birth payloads unsure past

-- Of the first octet of Pick nothing is in doubt, and the area that it picks keeps these payloads.
pub record IsKeptBy (story : Story) (area : Area) (birth : ℕ) (payloads : List (List ℕ)) (unsure : Option (List ℕ)) : Type 0 where
  pub pick : IsFirm 1 (past_of story Pick)
  pub picks : picked (past_of story Pick).octets ≡ Some area
  pub text : IsKeptIn birth payloads unsure (past_of story area)

-- A write to an area and a sync of it, which is made where the write was good.
pub record WritesSynced {T : Type 0} (area : Area) (at : ℕ) (bytes : List ℕ) (result : Result T DiskFailed) (old new : Story) : Type 0 where
  pub wrote : Result T DiskFailed
  pub mid : Story
  pub writes : Writes area at bytes wrote old mid
  pub syncs : Syncs area result mid new
  pub ok : OnOk result (IsOk wrote)
