-- The steps of a store: loading it, and recording an entry. No public clause but the premise of `perform` cites these.
use Rattle.std.specs.Prelude.{◌≡◌, ◌⊎◌, ℕ, ◌≤◌, ◌+◌, List, [], ◌∷◌, ◌++◌, length, Some, None, Result, OnOk, OnErr, IfOk, is_ok, if◌then◌else◌}
use Rattle.std.specs.Bool.{OnTrue}
use Rattle.kn_base.specs.Count.{Rose}
use Rattle.gate_entries.specs.declared.recorded.Recorded.{Recorded}
use Rattle.gate_entries.specs.Entry.{entry_octets}
use Rattle.gate_model.specs.Fold.{does, recorded}
use Rattle.gate_model.specs.Lawful.{IsSound}
use Rattle.gate_model.specs.Replies.{reply_to}
use Rattle.gate_model.specs.declared.reply.Reply.{Reply}
use Rattle.route_rules.specs.declared.rules.Rules.{Rules}
use Rattle.store_disk.specs.Meaning.{Meaning}
use Rattle.store_disk.specs.Story.{LeavesOnly}
use Rattle.store_disk.specs.declared.disk.DiskFailed.{DiskFailed}
use Rattle.store_journal.specs.Journal.{disk_of, area_of, birth_of, left, reserved}
use Rattle.store_journal.specs.declared.journal.Journal.{Journal}
use Rattle.gate_store.specs.Deeds.{repair_calls}
use Rattle.gate_store.specs.Entries.{payloads, state_of, StopsAt}
use Rattle.gate_store.specs.Reopening.{MayReopen, MayReopenIn}
use Rattle.gate_store.specs.Store.{IsStore, disk_in, birth_in, rules_in, state_in, unsure_in}
use Rattle.gate_store.specs.declared.store.Store.{Store}
use Rattle.gate_store.specs.declared.store_fault.StoreFault.{StoreFault}
use Rattle.gate_store.specs.declared.store_fault.StoreFault.TheVariants.{Foreign, Disk, Memory}

-- the most octets of a payload
abbrev pub most_payload : ℕ
most_payload = 16777216

-- an entry that a store may record: sound in its state, and of a size that a journal can hold
pub record MayRecord {D : Type 0} (store : Store D) (kept : Recorded) : Type 0 where
  pub sound : IsSound (state_in store) kept
  pub small : length (entry_octets kept) ≤ most_payload

module _ {D : Type 0} (meaning : Meaning D) where
  -- What was left of a journal to hand out is the entries that the store holds, on the same disk, under these rules.
  pub record Loads (rules : Rules) (journal : Journal D) (store : Store D) : Type 0 where
    pub entries : List Recorded
    pub ruled : rules_in store ≡ rules
    pub born : birth_in store ≡ birth_of journal
    pub handed : left journal ≡ payloads entries
    pub holds : IsStore meaning store (birth_of journal) entries
    pub state : state_in store ≡ state_of (birth_of journal) rules entries
    pub sure : unsure_in store ≡ None
    pub disk : disk_in store ≡ disk_of journal

  -- why what is left of a journal isn't loaded: it stops at a payload that is no entry which may come next, or memory was wanting
  abbrev pub IsNotLoaded : Rules → Journal D → StoreFault → Type 0
  IsNotLoaded rules journal (Foreign area at) = (area ≡ area_of journal) × StopsAt (birth_of journal) rules (left journal) at
  IsNotLoaded rules journal Disk = ⊥
  IsNotLoaded rules journal Memory = Unit {0}

  -- Nothing was loaded, and the disk is the journal's.
  pub record LoadsNone (rules : Rules) (journal : Journal D) (disk : D) (fault : StoreFault) : Type 0 where
    pub cause : IsNotLoaded rules journal fault
    pub same : disk ≡ disk_of journal

  -- Memory was taken in the journal, and the store holds what it held.
  pub record Reserves (old new : Store D) : Type 0 where
    pub disk : disk_in new ≡ disk_in old
    pub born : birth_in new ≡ birth_in old
    pub holds : (birth : ℕ) (entries : List Recorded) → IsStore meaning old birth entries → IsStore meaning new birth entries

-- the entries that are put behind others by a commit
abbrev pub put_by : Recorded → Result Reply DiskFailed → List Recorded
put_by kept outcome = if is_ok outcome then kept ∷ [] else []

module _ {D : Type 0} (meaning : Meaning D) where
  -- An entry that was unsure is taken back for good, or, where the disk failed, still is unsure. The store holds what it held.
  pub record Settles {T : Type 0} (old : Store D) (result : Result T DiskFailed) (new : Store D) : Type 0 where
    pub gate : new.gate ≡ old.gate
    pub born : birth_in new ≡ birth_in old
    pub reserved : reserved new.journal ≡ reserved old.journal
    pub sure : OnOk result (unsure_in new ≡ None)
    pub unsure : OnErr result (unsure_in new ≡ unsure_in old)
    pub holds : (birth : ℕ) (entries : List Recorded) → IsStore meaning old birth entries → IsStore meaning new birth entries
    pub stops : OnTrue meaning.tells (LeavesOnly (meaning.story (disk_in old)) (meaning.story (disk_in new)) (MayReopen (birth_in old) (rules_in old) (state_in old) (unsure_in old)))
    pub unfailed : OnOk result (meaning.faults (disk_in new) ≡ meaning.faults (disk_in old))
    pub failed : OnErr result (Rose (meaning.faults (disk_in old)) (meaning.faults (disk_in new)))
    pub kept : meaning.faults (disk_in old) ≤ meaning.faults (disk_in new)
    pub bounded : meaning.calls (disk_in new) ≤ meaning.calls (disk_in old) + repair_calls (unsure_in old)

  -- An entry was put last in the journal and done, or the disk failed in at most so many calls.
  pub record Commits (most : ℕ) (old : Store D) (entry : Recorded) (outcome : Result Reply DiskFailed) (new : Store D) : Type 0 where
    pub reply : IfOk outcome (λ reply. reply ≡ reply_to (rules_in old) (state_in old) entry)
    pub ruled : rules_in new ≡ rules_in old
    pub born : birth_in new ≡ birth_in old
    pub state : state_in new ≡ (if is_ok outcome then does (birth_in old) (state_in old) (recorded entry) else state_in old)
    pub sure : OnOk outcome (unsure_in new ≡ None)
    pub unsure : OnErr outcome ((unsure_in new ≡ unsure_in old) ⊎ (unsure_in new ≡ None) ⊎ (unsure_in new ≡ Some entry))
    pub holds : (birth : ℕ) (entries : List Recorded) → IsStore meaning old birth entries
        → IsStore meaning new birth (entries ++ put_by entry outcome)
    pub stops : OnTrue meaning.tells (LeavesOnly (meaning.story (disk_in old)) (meaning.story (disk_in new)) (MayReopenIn (birth_in old) (rules_in old) (state_in old) (unsure_in old) entry))
    pub unfailed : OnOk outcome (meaning.faults (disk_in new) ≡ meaning.faults (disk_in old))
    pub failed : OnErr outcome (Rose (meaning.faults (disk_in old)) (meaning.faults (disk_in new)))
    pub kept : meaning.faults (disk_in old) ≤ meaning.faults (disk_in new)
    pub bounded : meaning.calls (disk_in new) ≤ meaning.calls (disk_in old) + most
