-- What becomes of a store from its opening to its close, whatever was done over it.
use Rattle.std.specs.Prelude.{◌≡◌, ◌⊎◌, ℕ, List, ◌++◌, map, Result, Ok, Err, if◌then◌else◌}
use Rattle.std.specs.Bool.{OnTrue}
use Rattle.gate_entries.specs.declared.recorded.Recorded.{Recorded}
use Rattle.gate_model.specs.Due.{HaveReports}
use Rattle.gate_model.specs.Fates.{HaveFates}
use Rattle.gate_model.specs.Fold.{recorded}
use Rattle.gate_model.specs.State.{State}
use Rattle.gate_model.specs.declared.reply.Refusal.{Refusal}
use Rattle.gate_store.specs.Deeds.{is_disk}
use Rattle.gate_store.specs.Entries.{start, state_of}
use Rattle.gate_store.specs.Reopening.{Reopens, MayReopen, MayStandFor}
use Rattle.gate_store.specs.Store.{disk_in, rules_in, state_in, unsure_in}
use Rattle.gate_store.specs.declared.store.Store.{Store}
use Rattle.route_rules.specs.declared.rules.Rules.{Rules}
use Rattle.store_disk.specs.Disk.{Areas}
use Rattle.store_disk.specs.Meaning.{Meaning}
use Rattle.store_disk.specs.Story.{Story, IsImage}

-- A stop before the first entry leaves areas that reopen to all that some areas reopen to which a stop at the start could leave.
abbrev pub ReopensAsAtStart : Rules → (begun : Story) → Areas → Type 0
ReopensAsAtStart rules begun image =
    (before : Areas) × IsImage begun before × ((state : State) → Reopens rules before state → Reopens rules image state)

-- The most disk calls of an entry, by its outcome: four, and none where it was refused before the disk was asked. Behind a fault, two more take back
-- what is unsure.
abbrev pub calls_for : {T : Type 0} → Result T Refusal → ℕ
calls_for (Ok x) = 4
calls_for (Err refusal) = if is_disk refusal then 6 else 0

-- what a stop leaves of a store, before its first entry or amid what is done over it
abbrev pub MayLeave : Rules → (begun : Story) → (amid : Areas → Type 0) → Areas → Type 0
MayLeave rules begun amid image = ReopensAsAtStart rules begun image ⊎ amid image

module _ {D : Type 0} (meaning : Meaning D) where
  -- A store that was opened under rules with entries, and closed with more behind them. Whatever a stop leaves of the disk that is handed back
  -- stands for the store with all of them, and reopens to the state that they make, or, where one more is unsure, for that with it. Each message
  -- that was ever accepted was acknowledged, rejected with a cause, or is stored, exactly one of these, and accepted is their sum. The reports that
  -- are awaited are those that the entries leave open, and the jobs are those held before and the URLs that are due, but those that are done with.
  pub record IsKept (rules : Rules) (birth : ℕ) (entries more : List Recorded) (opened closed : Store D) (disk : D) : Type 0 where
    pub ruled : rules_in opened ≡ rules
    pub began : state_in opened ≡ state_of birth rules entries
    pub back : disk ≡ disk_in closed
    pub stands : OnTrue meaning.tells ((image : Areas) → IsImage (meaning.story disk) image → MayStandFor birth (entries ++ more) (unsure_in closed) image)
    pub stops : OnTrue meaning.tells ((image : Areas) → IsImage (meaning.story disk) image
        → MayReopen birth rules (state_of birth rules (entries ++ more)) (unsure_in closed) image)
    pub fates : HaveFates birth (start rules) (map recorded (entries ++ more))
    pub reports : HaveReports birth (state_of birth rules entries) more (state_in closed)
