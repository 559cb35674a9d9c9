-- What a store holds, and what came of opening one.
use Rattle.std.specs.Prelude.{◌≡◌, ◌⊎◌, ◌≤◌, ◌+◌, ℕ, List, Option, Some, None, IfSome, option_map}
use Rattle.std.specs.Bool.{OnTrue}
use Rattle.kn_base.specs.Count.{Rose}
use Rattle.gate_entries.specs.declared.recorded.Recorded.{Recorded}
use Rattle.gate_entries.specs.Entry.{entry_octets}
use Rattle.gate_model.specs.Fold.{does, recorded}
use Rattle.gate_model.specs.Gate.{IsGate, model_of, rules_of}
use Rattle.gate_model.specs.Loading.{ComesNext}
use Rattle.gate_model.specs.Settling.{settle}
use Rattle.gate_model.specs.State.{State}
use Rattle.route_rules.specs.declared.rules.Rules.{Rules}
use Rattle.store_journal.specs.Area.{stands, unborn}
use Rattle.store_disk.specs.Disk.{Areas}
use Rattle.store_disk.specs.Meaning.{Meaning}
use Rattle.store_disk.specs.Story.{reads}
use Rattle.store_journal.specs.Journal.{IsJournal, IsHandedOut, IsUntouched, disk_of, birth_of as birth_in_journal}
use Rattle.gate_store.specs.Entries.{payloads, start, state_of, AreInTurn, StandsFor, IsForeign}
use Rattle.gate_store.specs.Reopening.{ReopensAlike}
use Rattle.gate_store.specs.declared.store.Store.{Store}
use Rattle.gate_store.specs.declared.store_fault.StoreFault.{StoreFault}
use Rattle.gate_store.specs.declared.store_fault.StoreFault.TheVariants.{Foreign, Disk, Memory}

module _ {D : Type 0} where
  -- the disk of a store
  abbrev pub disk_in : Store D → D
  disk_in store = disk_of store.journal

  -- its birth
  abbrev pub birth_in : Store D → ℕ
  birth_in store = birth_in_journal store.journal

  -- the rules of its links, and the state that it holds
  abbrev pub rules_in : Store D → Rules
  rules_in store = rules_of store.gate

  abbrev pub state_in : Store D → State
  state_in store = model_of store.gate

  -- the entry that was refused because the disk failed, and may stand all the same
  abbrev pub unsure_in : Store D → Option Recorded
  unsure_in store = store.unsure

  -- The store holds these entries: its journal does, all are handed out, each came in its turn, and what they make is left of its state
  -- when it is opened again. An entry that is unsure may come next.
  pub record IsStore (meaning : Meaning D) (store : Store D) (birth : ℕ) (entries : List Recorded) : Type 0 where
    pub journal : IsJournal meaning store.journal birth (payloads entries) (option_map entry_octets store.unsure)
    pub handed_out : IsHandedOut store.journal
    pub in_turn : AreInTurn birth (start (rules_in store)) entries
    pub unsure : IfSome store.unsure (λ kept. ComesNext (state_of birth (rules_in store) entries) (entry_octets kept) kept)
    pub whole : IsGate store.gate
    pub state : settle (state_in store) ≡ state_of birth (rules_in store) entries

  -- the store holds some entries
  abbrev pub IsOpen : Meaning D → Store D → Type 0
  IsOpen meaning store = (birth : ℕ) × (entries : List Recorded) × IsStore meaning store birth entries

  -- The store that was opened on a disk, under these rules: it holds the entries that the disk's areas stood for, and the state that they
  -- make; one that wasn't born has this birth; nothing is unsure, and no disk call failed. A stop on the way leaves nothing new.
  pub record IsOpened (meaning : Meaning D) (disk : D) (rules : Rules) (birth : ℕ) (store : Store D) : Type 0 where
    pub entries : List Recorded
    pub holds : IsStore meaning store (birth_in store) entries
    pub stood : OnTrue meaning.tells (StandsFor (stands (reads (meaning.story disk))) (birth_in store) entries)
    pub born : OnTrue meaning.tells (stands (reads (meaning.story disk)) ≡ unborn → birth_in store ≡ birth)
    pub ruled : rules_in store ≡ rules
    pub state : state_in store ≡ state_of (birth_in store) rules entries
    pub sure : unsure_in store ≡ None
    pub stops : OnTrue meaning.tells (ReopensAlike rules (meaning.story disk) (meaning.story (disk_in store)))
    pub unfailed : meaning.faults (disk_in store) ≡ meaning.faults disk
    pub bounded : meaning.calls (disk_in store) ≤ meaning.calls disk + 20

  -- why no store was opened on a disk: from this place of this area on it holds none, or the disk failed, or memory was wanting
  abbrev pub IsUnopened : Meaning D → D → Rules → D → StoreFault → Type 0
  IsUnopened meaning disk rules back (Foreign area at) = (meaning.faults back ≡ meaning.faults disk) × OnTrue meaning.tells (IsForeign rules (stands (reads (meaning.story disk))) area at)
  IsUnopened meaning disk rules back Disk = Rose (meaning.faults disk) (meaning.faults back)
  IsUnopened meaning disk rules back Memory = meaning.faults back ≡ meaning.faults disk

  -- No store was opened on a disk, which is handed back: why, and that nothing that it held is lost, whenever it stopped.
  pub record GivesBack (meaning : Meaning D) (disk : D) (rules : Rules) (back : D) (fault : StoreFault) : Type 0 where
    pub cause : IsUnopened meaning disk rules back fault
    pub untouched : OnTrue meaning.tells (IsUntouched (reads (meaning.story disk)) (reads (meaning.story back)))
    pub stops : OnTrue meaning.tells (ReopensAlike rules (meaning.story disk) (meaning.story back))
    pub kept : meaning.faults disk ≤ meaning.faults back
    pub bounded : meaning.calls back ≤ meaning.calls disk + 20

  -- a store that is opened under these rules on a disk which reads as these areas holds what is left of a state
  abbrev pub HoldsLeft : Meaning D → Rules → State → Areas → Type 0
  HoldsLeft meaning rules state areas =
      (disk : D) (birth : ℕ) (store : Store D) → reads (meaning.story disk) ≡ areas → IsOpened meaning disk rules birth store → state_in store ≡ settle state

  -- it does, or, where an entry is unsure, it holds what the state is with it
  abbrev pub MayHoldLeft : Meaning D → (birth : ℕ) → Rules → State → (unsure : Option Recorded) → Areas → Type 0
  MayHoldLeft meaning birth rules state None areas = HoldsLeft meaning rules state areas
  MayHoldLeft meaning birth rules state (Some unsure) areas = HoldsLeft meaning rules state areas ⊎ HoldsLeft meaning rules (does birth state (recorded unsure)) areas
