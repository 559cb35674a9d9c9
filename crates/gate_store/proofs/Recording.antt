-- A store on which an entry is performed, by how far that came.
use Rattle.std.proofs.Common.{◌≡◌, ◌≤◌, ◌+◌, inl, ℕ, false, List, Option, Some, None, IfSome, Result, Err, refl, ap, sym, ◌∙◌, subst, arith}
use Rattle.std.specs.Prelude.{option_map}
use Rattle.std.specs.Bool.{OnTrue}
use Rattle.std.proofs.lemmas.List.{append-nil}
use Rattle.gate_entries.specs.declared.recorded.Recorded.{Recorded}
use Rattle.gate_entries.specs.Entry.{entry_octets}
use Rattle.gate_model.specs.Gate.{IsGate, KeepsAll}
use Rattle.gate_model.specs.Lawful.{refusal}
use Rattle.gate_model.specs.Loading.{ComesNext}
use Rattle.gate_model.specs.Settling.{settle}
use Rattle.gate_model.specs.State.{State}
use Rattle.gate_model.specs.declared.reply.Refusal.{Refusal}
use Rattle.gate_model.specs.declared.reply.Refusal.TheVariants.{NoRoute, Full, Disk, Memory}
use Rattle.gate_model.specs.declared.reply.Reply.{Reply}
use Rattle.route_rules.specs.declared.rules.Rules.{Rules}
use Rattle.store_disk.specs.Disk.{Areas}
use Rattle.store_disk.specs.Meaning.{Meaning}
use Rattle.store_disk.specs.Story.{IsImage, LeavesOnly}
use Rattle.store_journal.specs.Journal.{IsJournal, IsHandedOut, HoldsSame, MayHold, area_of, left}
use Rattle.store_journal.specs.declared.journal.Journal.{Journal}
use Rattle.store_journal.proofs.Kept.{holds}
use Rattle.gate_store.specs.Deeds.{Performs, LeavesUnsure, IsReason, CountsFault, is_by_disk, is_disk, is_untried, most_calls, state_behind}
use Rattle.gate_store.specs.Entries.{payloads, start, state_of, AreInTurn}
use Rattle.gate_store.specs.Reopening.{MayReopen, MayReopenIn}
use Rattle.gate_store.specs.Store.{IsStore, IsOpen, disk_in, birth_in, rules_in, state_in, unsure_in}
use Rattle.gate_store.specs.declared.store.Store.{Store}
use Rattle.gate_store.proofs.Refusals.{reason_named}
use Rattle.gate_store.proofs.Reopened.{may_reopen}
use Rattle.gate_store.proofs.Told.{told_anyhow, told_weaker, told_leaves_none}

-- an entry that is unsure may come next behind entries, under rules
abbrev pub UnsureComesNext : (birth : ℕ) → Rules → List Recorded → Option Recorded → Type 0
UnsureComesNext birth rules entries unsure = IfSome unsure (λ kept. ComesNext (state_of birth rules entries) (entry_octets kept) kept)

module _ {D : Type 0} (meaning : Meaning D) where
  -- a store of these entries, by its parts
  pub make_store : (store : Store D) (rules : Rules) (birth : ℕ) (entries : List Recorded) (unsure : Option Recorded) → rules_in store ≡ rules → unsure_in store ≡ unsure
      → IsJournal meaning store.journal birth (payloads entries) (option_map entry_octets unsure) → IsHandedOut store.journal
      → AreInTurn birth (start rules) entries → UnsureComesNext birth rules entries unsure → IsGate store.gate → settle (state_in store) ≡ state_of birth rules entries
      → IsStore meaning store birth entries
  make_store store rules birth entries unsure ruled doubt journal handed in_turn next whole state = record {
    journal = subst (λ (u : Option Recorded). IsJournal meaning store.journal birth (payloads entries) (option_map entry_octets u)) (sym doubt) journal;
    handed_out = handed;
    in_turn = subst (λ (r : Rules). AreInTurn birth (start r) entries) (sym ruled) in_turn;
    unsure = subst (λ (r : Rules). UnsureComesNext birth r entries (unsure_in store)) (sym ruled)
        (subst (λ (u : Option Recorded). UnsureComesNext birth rules entries u) (sym doubt) next);
    whole = whole;
    state = state ∙ ap (λ (r : Rules). state_of birth r entries) (sym ruled);
  }

  -- a store whose journal holds what it held, and whose gate holds what it held but for what passes, holds what it held
  pub holds_on : (old new : Store D) → HoldsSame meaning old.journal new.journal → left new.journal ≡ left old.journal → rules_in new ≡ rules_in old
      → settle (state_in new) ≡ settle (state_in old) → unsure_in new ≡ unsure_in old → IsGate new.gate
      → (birth : ℕ) (entries : List Recorded) → IsStore meaning old birth entries → IsStore meaning new birth entries
  holds_on old new same left ruled settled unsure whole birth entries is =
      make_store new (rules_in old) birth entries (unsure_in old) ruled unsure (same birth (payloads entries) (option_map entry_octets old.unsure) is.journal)
      (left ∙ is.handed_out) is.in_turn is.unsure whole (settled ∙ is.state)

  -- what areas that may hold a store's payloads reopen to
  pub reopened_by : (store : Store D) (birth : ℕ) (entries : List Recorded) → IsStore meaning store birth entries
      → (image : Areas) → MayHold birth (area_of store.journal) (payloads entries) (option_map entry_octets (unsure_in store)) image
      → MayReopen (birth_in store) (rules_in store) (state_in store) (unsure_in store) image
  reopened_by store birth entries is image holds =
      subst (λ b. MayReopen b (rules_in store) (state_in store) (unsure_in store) image) (sym is.journal.born)
      (may_reopen birth (rules_in store) entries (state_in store) is.in_turn is.state (area_of store.journal) image (unsure_in store) is.unsure holds)

  -- whatever a stop now leaves of a store reopens to what is left of its state, or to that with the unsure entry
  pub stops_now : (store : Store D) (birth : ℕ) (entries : List Recorded) → IsStore meaning store birth entries
      → OnTrue meaning.tells ((image : Areas) → IsImage (meaning.story (disk_in store)) image → MayReopen (birth_in store) (rules_in store) (state_in store) (unsure_in store) image)
  stops_now store birth entries is =
      told_weaker meaning.tells _ _ (λ may image now. reopened_by store birth entries is image (may image now)) (holds meaning store.journal birth (payloads entries) _ is.journal)

-- an entry that wasn't done for want of something else than the disk leaves unsure what was
unsure_kept : (before now : Option Recorded) (kept : Recorded) (why : Refusal) → is_disk why ≡ false → now ≡ before → LeavesUnsure before kept (Err why) now
unsure_kept before now kept (NoRoute part) other same = same
unsure_kept before now kept (Full held limit) other same = same
unsure_kept before now kept Disk other same = absurd cc
unsure_kept before now kept Memory other same = same

module _ {D : Type 0} (meaning : Meaning D) where
  -- an entry that was refused before any disk call
  pub unmoved : (old new : Store D) (kept : Recorded) (why : Refusal) → is_disk why ≡ false → IsReason (rules_in old) (state_in old) kept (Err why)
      → rules_in new ≡ rules_in old → birth_in new ≡ birth_in old → state_in new ≡ state_in old → unsure_in new ≡ unsure_in old → disk_in new ≡ disk_in old
      → ((birth : ℕ) (entries : List Recorded) → IsStore meaning old birth entries → IsStore meaning new birth entries)
      → IsOpen meaning old → Performs meaning old kept (Err why) new
  unmoved old new kept why other reason ruled born state unsure disk holds is_open =
      let none = told_leaves_none meaning.tells (meaning.story (disk_in old)) (MayReopenIn (birth_in old) (rules_in old) (state_in old) (unsure_in old) kept)
      (told_weaker meaning.tells _ _ (λ now image is. inl (now image is)) (stops_now meaning old is_open.0 is_open.1 is_open.2)) in
      record {
        reason = reason;
        ruled = ruled;
        born = born;
        state = state;
        unsure = unsure_kept (unsure_in old) (unsure_in new) kept why other unsure;
        holds = λ birth entries is. subst (IsStore meaning new birth) (sym (append-nil entries)) (holds birth entries is);
        stops = subst (λ (d : D). OnTrue meaning.tells (LeavesOnly (meaning.story (disk_in old)) (meaning.story d) (MayReopenIn (birth_in old) (rules_in old) (state_in old) (unsure_in old) kept))) (sym disk) none;
        counted = subst (λ b. CountsFault b (meaning.faults (disk_in old)) (meaning.faults (disk_in new))) (sym other) (ap meaning.faults disk);
        bounded = let same : meaning.calls (disk_in new) ≡ meaning.calls (disk_in old) = ap meaning.calls disk in omega arith;
        settled = ap settle state;
        untried = told_anyhow (is_untried {T = Reply} (Err why)) (disk_in new ≡ disk_in old) disk;
      }

  -- an entry that the model refuses
  pub refused : (store : Store D) (kept : Recorded) (why : Refusal) → IsOpen meaning store → refusal (rules_in store) (state_in store) kept ≡ Some why
      → Performs meaning store kept (Err why) store
  refused store kept why is_open is =
      let named = reason_named (rules_in store) (state_in store) kept why is in
      unmoved store store kept why named.1 named.0 refl refl refl refl refl (λ birth entries held. held) is_open

  -- a store whose gate took memory holds what it held
  pub prepared_on : (old new : Store D) → new ≡ record old { gate = new.gate } → KeepsAll old.gate new.gate
      → (birth : ℕ) (entries : List Recorded) → IsStore meaning old birth entries → IsStore meaning new birth entries
  prepared_on old new same keeps birth entries is =
      let journal : new.journal ≡ old.journal = ap (λ (s : Store D). s.journal) same in
      holds_on meaning old new
      (subst (λ (j : Journal D). HoldsSame meaning old.journal j) (sym journal) (λ b p u held. held))
      (ap left journal) keeps.rules (ap settle keeps.holds) (ap unsure_in same) new.gate.whole birth entries is

  -- an entry for which there was no memory, by what the store became
  pub unremembered : (old new : Store D) (kept : Recorded) → IsOpen meaning old → new ≡ record old { gate = new.gate } → KeepsAll old.gate new.gate
      → refusal (rules_in old) (state_in old) kept ≡ None → Performs meaning old kept (Err Memory) new
  unremembered old new kept is_open same keeps taken =
      unmoved old new kept Memory refl taken keeps.rules (ap birth_in same) keeps.holds (ap unsure_in same) (ap disk_in same) (prepared_on old new same keeps) is_open

  -- an entry that was performed on a store that took memory before, and holds what it held
  pub performed_on : (old mid new : Store D) (kept : Recorded) (outcome : Result Reply Refusal)
      → rules_in mid ≡ rules_in old → birth_in mid ≡ birth_in old → state_in mid ≡ state_in old → unsure_in mid ≡ unsure_in old → disk_in mid ≡ disk_in old
      → ((birth : ℕ) (entries : List Recorded) → IsStore meaning old birth entries → IsStore meaning mid birth entries)
      → Performs meaning mid kept outcome new → Performs meaning old kept outcome new
  performed_on old mid new kept outcome ruled born state unsure disk held done =
      let P : ℕ → Rules → State → Option Recorded → D → Type 0 = λ b r s u d. OnTrue meaning.tells (LeavesOnly (meaning.story d) (meaning.story (disk_in new)) (MayReopenIn b r s u kept)) in
      record {
        reason = subst (λ (s : State). IsReason (rules_in old) s kept outcome) state (subst (λ (r : Rules). IsReason r (state_in mid) kept outcome) ruled done.reason);
        ruled = done.ruled ∙ ruled;
        born = done.born ∙ born;
        state = done.state ∙ ap (λ b. state_behind b (state_in mid) kept outcome) born ∙ ap (λ (s : State). state_behind (birth_in old) s kept outcome) state;
        unsure = subst (λ (u : Option Recorded). LeavesUnsure u kept outcome (unsure_in new)) unsure done.unsure;
        holds = λ birth entries is. done.holds birth entries (held birth entries is);
        stops = subst (λ (d : D). P (birth_in old) (rules_in old) (state_in old) (unsure_in old) d) disk
            (subst (λ (u : Option Recorded). P (birth_in old) (rules_in old) (state_in old) u (disk_in mid)) unsure
            (subst (λ (s : State). P (birth_in old) (rules_in old) s (unsure_in mid) (disk_in mid)) state
            (subst (λ (r : Rules). P (birth_in old) r (state_in mid) (unsure_in mid) (disk_in mid)) ruled
            (subst (λ b. P b (rules_in mid) (state_in mid) (unsure_in mid) (disk_in mid)) born done.stops))));
        counted = subst (λ (d : D). CountsFault (is_by_disk outcome) (meaning.faults d) (meaning.faults (disk_in new))) disk done.counted;
        bounded = subst (λ (d : D). meaning.calls (disk_in new) ≤ meaning.calls d + most_calls (unsure_in old) outcome) disk
            (subst (λ (u : Option Recorded). meaning.calls (disk_in new) ≤ meaning.calls (disk_in mid) + most_calls u outcome) unsure done.bounded);
        settled = done.settled ∙ ap (λ b. state_behind b (settle (state_in mid)) kept outcome) born ∙ ap (λ (s : State). state_behind (birth_in old) (settle s) kept outcome) state;
        untried = told_weaker (is_untried outcome) _ _ (λ same. same ∙ disk) done.untried;
      }
