-- What the deeds of a link's session record in a store, and what is in doubt behind them. A list of deeds has the newest first.
use Rattle.std.specs.Prelude.{◌≡◌, ◌⊎◌, ◌+◌, ℕ, Bool, true, false, List, [], ◌∷◌, ◌++◌, Option, Some, None, IfSome, Ok, Err, if◌then◌else◌}
use Rattle.gate_entries.specs.declared.cause.Cause.TheVariants.{Expired}
use Rattle.gate_entries.specs.declared.recorded.Recorded.{Recorded}
use Rattle.gate_entries.specs.declared.recorded.Recorded.TheVariants as entry
use Rattle.gate_model.specs.Gate.{id_of}
use Rattle.gate_store.specs.Deeds.{is_by_disk, is_disk, put_behind}
use Rattle.gate_store.specs.Entries.{state_of}
use Rattle.gate_store.specs.Reopening.{MayReopen}
use Rattle.gate_store.specs.declared.taken.Taken.TheVariants as taken
use Rattle.link_turn.specs.Steps.{Deed, performed, passed, took}
use Rattle.boxes_main.specs.Kept.{calls_for}
use Rattle.route_rules.specs.declared.rules.Rules.{Rules}
use Rattle.store_disk.specs.Disk.{Areas}

-- the most disk calls of a deed
abbrev pub calls_by : Deed → ℕ
calls_by (performed kept outcome) = calls_for outcome
calls_by (passed brief) = 0
calls_by (took now (Ok None)) = 0
calls_by (took now (Ok (Some (taken.Send message sms)))) = 0
calls_by (took now (Ok (Some (taken.Expired message)))) = 4
calls_by (took now (Err refusal)) = if is_disk refusal then 6 else 0

-- and of deeds
abbrev pub calls_in : List Deed → ℕ
calls_in [] = 0
calls_in (deed ∷ before) = calls_in before + calls_by deed

module _ (rules : Rules) (link : ℕ) where
  -- the entry by which a message is given up whose validity has passed when it was to be taken
  abbrev pub expired : (now message : ℕ) → Recorded
  expired now message = entry.Rejected (record { message = message; smsc = id_of link rules; cause = Expired; time = now })

  -- what a deed recorded: an entry that was done, or that the message that was to be taken is given up
  abbrev pub recorded_by : Deed → List Recorded
  recorded_by (performed kept outcome) = put_behind kept outcome
  recorded_by (passed brief) = []
  recorded_by (took now (Ok None)) = []
  recorded_by (took now (Ok (Some (taken.Send message sms)))) = []
  recorded_by (took now (Ok (Some (taken.Expired message)))) = expired now message ∷ []
  recorded_by (took now (Err refusal)) = []

  -- what deeds recorded, the oldest entry first
  abbrev pub recorded_in : List Deed → List Recorded
  recorded_in [] = []
  recorded_in (deed ∷ before) = recorded_in before ++ recorded_by deed

  -- what a deed asks to be recorded
  abbrev pub Asks : Deed → Recorded → Type 0
  Asks (performed kept outcome) asked = asked ≡ kept
  Asks (passed brief) asked = ⊥
  Asks (took now outcome) asked = (message : ℕ) × (asked ≡ expired now message)

  -- a deed in which the disk failed
  abbrev pub is_failed : Deed → Bool
  is_failed (performed kept outcome) = is_by_disk outcome
  is_failed (passed brief) = false
  is_failed (took now outcome) = is_by_disk outcome

  -- An entry may be unsure behind deeds: the disk failed in one that asked for it, and nothing was recorded since.
  pub record IsInDoubt (deeds : List Deed) (kept : Recorded) : Type 0 where
    pub since : List Deed
    pub deed : Deed
    pub before : List Deed
    pub split : deeds ≡ since ++ deed ∷ before
    pub failed : is_failed deed ≡ true
    pub asked : Asks deed kept
    pub none_recorded : recorded_in since ≡ []

  -- an entry is what is asked for next behind the oldest of some deeds
  pub record IsNext (deeds front : List Deed) (kept : Recorded) : Type 0 where
    pub since : List Deed
    pub deed : Deed
    pub split : deeds ≡ since ++ deed ∷ front
    pub asked : Asks deed kept

  -- What a stop in a session leaves: areas that reopen to the state behind a front of its deeds, or to that with one entry more, which was in
  -- doubt then or was being recorded.
  pub record ReopensAmid (birth : ℕ) (entries : List Recorded) (deeds : List Deed) (image : Areas) : Type 0 where
    pub front : List Deed
    pub since : List Deed
    pub split : deeds ≡ since ++ front
    pub more : Option Recorded
    pub doubt : IfSome more (λ kept. IsInDoubt front kept ⊎ IsNext deeds front kept)
    pub reopens : MayReopen birth rules (state_of birth rules (entries ++ recorded_in front)) more image
