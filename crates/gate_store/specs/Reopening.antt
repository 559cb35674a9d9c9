-- What areas reopen to, and what a stop leaves of a store.
use Rattle.std.specs.Prelude.{◌≡◌, ◌⊎◌, ℕ, List, [], ◌∷◌, ◌++◌, Option, Some, None}
use Rattle.gate_entries.specs.declared.recorded.Recorded.{Recorded}
use Rattle.gate_model.specs.Fold.{does, recorded}
use Rattle.gate_model.specs.Settling.{settle}
use Rattle.gate_model.specs.State.{State}
use Rattle.route_rules.specs.declared.rules.Rules.{Rules}
use Rattle.store_disk.specs.Disk.{Areas}
use Rattle.store_disk.specs.Story.{Story, IsImage, LeavesOnly}
use Rattle.store_journal.specs.Area.{stands}
use Rattle.gate_store.specs.Entries.{start, state_of, AreInTurn, StandsFor}

-- Areas reopen to a state under rules: they stand for entries, each in its turn, and these make it.
pub record Reopens (rules : Rules) (areas : Areas) (state : State) : Type 0 where
  pub birth : ℕ
  pub entries : List Recorded
  pub stood : StandsFor (stands areas) birth entries
  pub in_turn : AreInTurn birth (start rules) entries
  pub makes : state ≡ state_of birth rules entries

-- areas reopen to what is left of a state when its store is opened again
abbrev pub ReopensTo : Rules → State → Areas → Type 0
ReopensTo rules state areas = Reopens rules areas (settle state)

-- they do, or, where an entry is unsure, they reopen to what the state is with it
abbrev pub MayReopen : (birth : ℕ) → Rules → State → Option Recorded → Areas → Type 0
MayReopen birth rules state None areas = ReopensTo rules state areas
MayReopen birth rules state (Some unsure) areas = ReopensTo rules state areas ⊎ ReopensTo rules (does birth state (recorded unsure)) areas

-- a stop in a call that records an entry leaves what one before it left, or the state with the entry: never that with both
abbrev pub MayReopenIn : (birth : ℕ) → Rules → State → Option Recorded → Recorded → Areas → Type 0
MayReopenIn birth rules state unsure kept areas = MayReopen birth rules state unsure areas ⊎ ReopensTo rules (does birth state (recorded kept)) areas

-- A stop in an opening leaves areas that reopen to what areas reopen to which a stop before it left.
abbrev pub ReopensAlike : Rules → Story → Story → Type 0
ReopensAlike rules old new =
    LeavesOnly old new (λ image. (before : Areas) × IsImage old before × ((state : State) → Reopens rules before state → Reopens rules image state))

-- Areas stand for the store of a birth with these entries, or, where one is unsure, for these with it behind them.
abbrev pub MayStandFor : (birth : ℕ) → List Recorded → (unsure : Option Recorded) → Areas → Type 0
MayStandFor birth entries None areas = StandsFor (stands areas) birth entries
MayStandFor birth entries (Some unsure) areas = StandsFor (stands areas) birth entries ⊎ StandsFor (stands areas) birth (entries ++ unsure ∷ [])
