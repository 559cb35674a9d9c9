-- An entry that is put last in the journal of a store: what is unsure is taken back, then it is appended.
use Rattle.std.proofs.Common.{arith, ◌≡◌, ◌≤◌, ◌+◌, ◌<◌, ◌⊎◌, inl, inr, ℕ, Bool, true, false, List, [], ◌∷◌, ◌++◌, Option, Some, None, Result, Ok, Err, refl, ap, sym, ◌∙◌, subst}
use Rattle.std.specs.Prelude.{option_map, is_some, if◌then◌else◌}
use Rattle.std.specs.Bool.{OnTrue}
use Rattle.std.proofs.lemmas.List.{append-nil}
use Rattle.kn_base.specs.Count.{Rose}
use Rattle.gate_entries.specs.declared.recorded.Recorded.{Recorded}
use Rattle.gate_entries.specs.Entry.{entry_octets}
use Rattle.gate_model.specs.Fold.{does, recorded}
use Rattle.gate_model.specs.Gate.{IsGate, model_of, rules_of}
use Rattle.gate_model.specs.Lawful.{most_entries}
use Rattle.gate_model.specs.Loading.{ComesNext}
use Rattle.gate_model.specs.Replies.{reply_to}
use Rattle.gate_model.specs.Settling.{settle}
use Rattle.gate_model.specs.State.{State}
use Rattle.gate_model.specs.declared.gate.Gate.{Gate}
use Rattle.gate_model.specs.declared.reply.Reply.{Reply}
use Rattle.route_rules.specs.declared.rules.Rules.{Rules}
use Rattle.store_disk.specs.Disk.{Areas}
use Rattle.store_disk.specs.Meaning.{Meaning}
use Rattle.store_disk.specs.Story.{LeavesOnly}
use Rattle.store_disk.specs.declared.disk.DiskFailed.{DiskFailed}
use Rattle.store_journal.specs.Journal.{IsJournal, IsHandedOut, Appends, Repairs, MayHold, area_of, disk_of, is_unsure, left, reserved}
use Rattle.store_journal.specs.declared.journal.Journal.{Journal}
use Rattle.gate_store.specs.Deeds.{repair_calls}
use Rattle.gate_store.specs.Entries.{payloads, start, state_of}
use Rattle.gate_store.specs.Reopening.{ReopensTo, MayReopen, MayReopenIn}
use Rattle.gate_store.specs.Store.{IsStore, IsOpen, disk_in, birth_in, rules_in, state_in, unsure_in}
use Rattle.gate_store.specs.StoreSteps.{MayRecord, Commits, Settles}
use Rattle.gate_store.specs.declared.store.Store.{Store}
use Rattle.gate_model.proofs.SoundLaws.{sound-settle}
use Rattle.gate_store.proofs.Recording.{UnsureComesNext, make_store, reopened_by}
use Rattle.gate_store.proofs.Reopened.{may_reopen_in, settle-does}
use Rattle.gate_store.proofs.Told.{told_leaves_weaker}
use Rattle.gate_store.proofs.Turns.{after_more, in_turn_more, payloads_more}

-- the answer of a call that failed, whatever it would have given
abbrev pub failed_as : (T : Type 0) → DiskFailed → Result T DiskFailed
failed_as T failed = Err failed

-- areas that reopen to what is left of a state may do so whatever is unsure
pub surely : (birth : ℕ) (rules : Rules) (state : State) (unsure : Option Recorded) (areas : Areas) → ReopensTo rules state areas → MayReopen birth rules state unsure areas
surely birth rules state None areas reopens = reopens
surely birth rules state (Some kept) areas reopens = inl reopens

module _ {D : Type 0} (meaning : Meaning D) where
  -- what an append does by its answer
  pub appends_as : {T : Type 0} (old new : Journal D) (result answer : Result T DiskFailed) → result ≡ answer
      → ((birth : ℕ) (there : List (List ℕ)) → IsJournal meaning old birth there None → Appends meaning old new result birth there)
      → (birth : ℕ) (there : List (List ℕ)) → IsJournal meaning old birth there None → Appends meaning old new answer birth there
  appends_as old new result answer is appended birth there held = subst (λ r. Appends meaning old new r birth there) is (appended birth there held)

  -- and what a repair does
  pub repairs_as : {T : Type 0} (old new : Journal D) (result answer : Result T DiskFailed) → result ≡ answer
      → ((birth : ℕ) (there : List (List ℕ)) (unsure : Option (List ℕ)) → IsJournal meaning old birth there unsure → Repairs meaning old new result birth there unsure)
      → (birth : ℕ) (there : List (List ℕ)) (unsure : Option (List ℕ)) → IsJournal meaning old birth there unsure → Repairs meaning old new answer birth there unsure
  repairs_as old new result answer is repaired birth there unsure held = subst (λ r. Repairs meaning old new r birth there unsure) is (repaired birth there unsure held)

  -- an entry that may be recorded may come next behind those that a store holds
  pub comes_next : (store : Store D) (birth : ℕ) (entries : List Recorded) (kept : Recorded) → IsStore meaning store birth entries → MayRecord store kept
      → (state_in store).entries < most_entries → ComesNext (state_of birth (rules_in store) entries) (entry_octets kept) kept
  comes_next store birth entries kept is may few =
      subst (λ (s : State). ComesNext s (entry_octets kept) kept) is.state
      (record { spelled = refl; sound = sound-settle (state_in store) kept may.sound; few = few })

module _ {D : Type 0} (meaning : Meaning D) (old new : Store D) where
  -- a repair makes no call where nothing is unsure
  pub repairs_few : IsOpen meaning old → (is_unsure old.journal ≡ false → new.journal ≡ old.journal) → meaning.calls (disk_in new) ≤ meaning.calls (disk_in old) + 2
      → meaning.calls (disk_in new) ≤ meaning.calls (disk_in old) + repair_calls (unsure_in old)
  repairs_few is_open idle two = by_unsure (unsure_in old) refl
    where
      by_unsure : (unsure : Option Recorded) → unsure_in old ≡ unsure → meaning.calls (disk_in new) ≤ meaning.calls (disk_in old) + repair_calls unsure
      by_unsure None none =
          let same = idle (is_open.2.journal.doubt ∙ ap (λ (u : Option Recorded). is_some (option_map entry_octets u)) none) in
          omega (arith, ap (λ (j : Journal D). meaning.calls (disk_of j)) same)
      by_unsure (Some kept) some = two

  -- what was unsure is taken back, or the disk failed
  module _ (is_open : IsOpen meaning old) (gate : new.gate ≡ old.gate) (born : birth_in new ≡ birth_in old) (stays : left new.journal ≡ left old.journal)
      (same_reserved : reserved new.journal ≡ reserved old.journal) (kept : meaning.faults (disk_in old) ≤ meaning.faults (disk_in new))
      (bounded : meaning.calls (disk_in new) ≤ meaning.calls (disk_in old) + repair_calls (unsure_in old)) where
    store_now : (birth : ℕ) (entries : List Recorded) (unsure : Option Recorded) → IsStore meaning old birth entries → unsure_in new ≡ unsure
        → IsJournal meaning new.journal birth (payloads entries) (option_map entry_octets unsure) → UnsureComesNext birth (rules_in old) entries unsure
        → IsStore meaning new birth entries
    store_now birth entries unsure is doubt journal next =
        make_store meaning new (rules_in old) birth entries unsure (ap rules_of gate) doubt journal (stays ∙ is.handed_out) is.in_turn next
        (subst (λ (g : Gate). IsGate g) (sym gate) is.whole) (ap (λ (g : Gate). settle (model_of g)) gate ∙ is.state)

    -- what a stop on the way leaves
    stops_repaired : {T : Type 0} (result : Result T DiskFailed)
        → ((birth : ℕ) (payloads : List (List ℕ)) (unsure : Option (List ℕ)) → IsJournal meaning old.journal birth payloads unsure
        → Repairs meaning old.journal new.journal result birth payloads unsure)
        → OnTrue meaning.tells (LeavesOnly (meaning.story (disk_in old)) (meaning.story (disk_in new)) (MayReopen (birth_in old) (rules_in old) (state_in old) (unsure_in old)))
    stops_repaired result repaired =
        let is = is_open.2 in
        told_leaves_weaker meaning.tells (meaning.story (disk_in old)) (meaning.story (disk_in new)) _ _ (λ image holds. reopened_by meaning old is_open.0 is_open.1 is image holds)
        (repaired is_open.0 (payloads is_open.1) (option_map entry_octets (unsure_in old)) is.journal).stops

    pub settles_ok : {T : Type 0} (done : T)
        → ((birth : ℕ) (payloads : List (List ℕ)) (unsure : Option (List ℕ)) → IsJournal meaning old.journal birth payloads unsure
        → Repairs meaning old.journal new.journal (Ok done) birth payloads unsure)
        → unsure_in new ≡ None → meaning.faults (disk_in new) ≡ meaning.faults (disk_in old) → Settles meaning old (Ok done) new
    settles_ok done repaired sure unfailed = record {
      gate = gate;
      born = born;
      reserved = same_reserved;
      sure = sure;
      unsure = tt;
      holds = λ birth entries is. store_now birth entries None is sure (repaired birth (payloads entries) _ is.journal).ok tt;
      stops = stops_repaired (Ok done) repaired;
      unfailed = unfailed;
      failed = tt;
      kept = kept;
      bounded = bounded;
    }

    pub settles_err : {T : Type 0} (failed : DiskFailed)
        → ((birth : ℕ) (payloads : List (List ℕ)) (unsure : Option (List ℕ)) → IsJournal meaning old.journal birth payloads unsure
        → Repairs meaning old.journal new.journal (failed_as T failed) birth payloads unsure)
        → unsure_in new ≡ unsure_in old → Rose (meaning.faults (disk_in old)) (meaning.faults (disk_in new)) → Settles meaning old (failed_as T failed) new
    settles_err failed repaired same rose = record {
      gate = gate;
      born = born;
      reserved = same_reserved;
      sure = tt;
      unsure = same;
      holds = λ birth entries is. store_now birth entries (unsure_in old) is same (repaired birth (payloads entries) _ is.journal).failed is.unsure;
      stops = stops_repaired (failed_as _ failed) repaired;
      unfailed = tt;
      failed = rose;
      kept = kept;
      bounded = bounded;
    }

module _ {D : Type 0} (meaning : Meaning D) (old new : Store D) (entry : Recorded) where
  module _ (is_open : IsOpen meaning old) (none : unsure_in old ≡ None) (is_reserved : reserved old.journal ≡ entry_octets entry) (may : MayRecord old entry)
      (few : (state_in old).entries < most_entries) (ruled : rules_in new ≡ rules_in old) (born : birth_in new ≡ birth_in old)
      (handed : IsHandedOut new.journal) (whole : IsGate new.gate) (kept : meaning.faults (disk_in old) ≤ meaning.faults (disk_in new))
      (bounded : meaning.calls (disk_in new) ≤ meaning.calls (disk_in old) + 4) where
    -- the journal of the store before, in which nothing was unsure
    journal_before : (birth : ℕ) (entries : List Recorded) → IsStore meaning old birth entries → IsJournal meaning old.journal birth (payloads entries) None
    journal_before birth entries is = subst (λ (u : Option Recorded). IsJournal meaning old.journal birth (payloads entries) (option_map entry_octets u)) none is.journal

    stops_appended : {T : Type 0} (result : Result T DiskFailed)
        → ((birth : ℕ) (payloads : List (List ℕ)) → IsJournal meaning old.journal birth payloads None → Appends meaning old.journal new.journal result birth payloads)
        → OnTrue meaning.tells (LeavesOnly (meaning.story (disk_in old)) (meaning.story (disk_in new)) (MayReopenIn (birth_in old) (rules_in old) (state_in old) (unsure_in old) entry))
    stops_appended result appended =
        let birth = is_open.0 in
        let entries = is_open.1 in
        let is = is_open.2 in
        let next = comes_next meaning old birth entries entry is may few in
        let stops = (appended birth (payloads entries) (journal_before birth entries is)).stops in
        subst (λ (u : Option Recorded). OnTrue meaning.tells (LeavesOnly (meaning.story (disk_in old)) (meaning.story (disk_in new)) (MayReopenIn (birth_in old) (rules_in old) (state_in old) u entry))) (sym none)
        (told_leaves_weaker meaning.tells (meaning.story (disk_in old)) (meaning.story (disk_in new)) _ _
        (λ image holds. subst (λ b. MayReopenIn b (rules_in old) (state_in old) None entry image) (sym is.journal.born)
        (may_reopen_in birth (rules_in old) entries (state_in old) is.in_turn is.state (area_of old.journal) image entry next
        (subst (λ octets. MayHold birth (area_of old.journal) (payloads entries) (Some octets) image) is_reserved holds)))
        stops)

    -- it was appended, and done
    pub commits_ok : {T : Type 0} (done : T) (reply : Reply)
        → ((birth : ℕ) (payloads : List (List ℕ)) → IsJournal meaning old.journal birth payloads None → Appends meaning old.journal new.journal (Ok done) birth payloads)
        → unsure_in new ≡ None → state_in new ≡ does (birth_in old) (state_in old) (recorded entry) → reply ≡ reply_to (rules_in old) (state_in old) entry
        → meaning.faults (disk_in new) ≡ meaning.faults (disk_in old) → Commits meaning 4 old entry (Ok reply) new
    commits_ok done reply appended sure state replied unfailed = record {
      reply = replied;
      ruled = ruled;
      born = born;
      state = state;
      sure = sure;
      unsure = tt;
      holds = λ birth entries is.
          let journal = subst (λ octets. IsJournal meaning new.journal birth (payloads entries ++ octets ∷ []) None) is_reserved
          (appended birth (payloads entries) (journal_before birth entries is)).ok in
          make_store meaning new (rules_in old) birth (entries ++ entry ∷ []) None ruled sure
          (subst (λ ps. IsJournal meaning new.journal birth ps None) (sym (payloads_more entries entry)) journal) handed
          (in_turn_more birth (start (rules_in old)) entries entry is.in_turn (comes_next meaning old birth entries entry is may few)) tt whole
          (ap settle state ∙ settle-does (birth_in old) (state_in old) entry ∙ ap (λ b. does b (settle (state_in old)) (recorded entry)) is.journal.born
          ∙ ap (λ s. does birth s (recorded entry)) is.state ∙ sym (after_more birth (start (rules_in old)) entries entry));
      stops = stops_appended (Ok done) appended;
      unfailed = unfailed;
      failed = tt;
      kept = kept;
      bounded = bounded;
    }

    -- the disk failed, and the entry is unsure or stands nowhere
    pub commits_err : {T : Type 0} (failed : DiskFailed) (doubt : Bool)
        → ((birth : ℕ) (payloads : List (List ℕ)) → IsJournal meaning old.journal birth payloads None → Appends meaning old.journal new.journal (failed_as T failed) birth payloads)
        → is_unsure new.journal ≡ doubt → unsure_in new ≡ (if doubt then Some entry else None) → state_in new ≡ state_in old
        → Rose (meaning.faults (disk_in old)) (meaning.faults (disk_in new)) → Commits meaning 4 old entry (Err failed) new
    commits_err failed doubt appended is_doubt now state rose = record {
      reply = tt;
      ruled = ruled;
      born = born;
      state = state;
      sure = tt;
      unsure = inr (either doubt now);
      holds = λ birth entries is.
          subst (IsStore meaning new birth) (sym (append-nil entries))
          (make_store meaning new (rules_in old) birth entries (if doubt then Some entry else None) ruled now
          (in_doubt birth entries doubt
          (subst (λ b. IsJournal meaning new.journal birth (payloads entries) (if b then Some (reserved old.journal) else None)) is_doubt
          (appended birth (payloads entries) (journal_before birth entries is)).failed))
          handed is.in_turn (next_in_doubt birth doubt entries (comes_next meaning old birth entries entry is may few)) whole (ap settle state ∙ is.state));
      stops = stops_appended (failed_as _ failed) appended;
      unfailed = tt;
      failed = rose;
      kept = kept;
      bounded = bounded;
    }
      where
        either : (b : Bool) → unsure_in new ≡ (if b then Some entry else None) → (unsure_in new ≡ None) ⊎ (unsure_in new ≡ Some entry)
        either true is = inr is
        either false is = inl is

        in_doubt : (birth : ℕ) (entries : List Recorded) (b : Bool) → IsJournal meaning new.journal birth (payloads entries) (if b then Some (reserved old.journal) else None)
            → IsJournal meaning new.journal birth (payloads entries) (option_map entry_octets (if b then Some entry else None))
        in_doubt birth entries true is = subst (λ octets. IsJournal meaning new.journal birth (payloads entries) (Some octets)) is_reserved is
        in_doubt birth entries false is = is

        next_in_doubt : (birth : ℕ) (b : Bool) (entries : List Recorded) → ComesNext (state_of birth (rules_in old) entries) (entry_octets entry) entry
            → UnsureComesNext birth (rules_in old) entries (if b then Some entry else None)
        next_in_doubt birth true entries next = next
        next_in_doubt birth false entries next = tt
