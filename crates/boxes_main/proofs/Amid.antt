-- What a stop in a session leaves.
use Rattle.std.proofs.Common.{◌≡◌, ◌≤◌, ◌+◌, ◌⊎◌, inl, inr, ⊎_elim, ℕ, List, [], ◌∷◌, ◌++◌, Option, Some, None, Result, Ok, Err, refl, ap, sym, ◌∙◌, append_assoc, arith, subst}
use Rattle.std.specs.Prelude.{IfSome}
use Rattle.std.specs.Bool.{OnTrue}
use Rattle.std.proofs.lemmas.List.{append-nil}
use Rattle.gate_entries.specs.declared.recorded.Recorded.{Recorded}
use Rattle.gate_model.specs.Acceptor.{Deed}
use Rattle.gate_model.specs.Fold.{does, recorded}
use Rattle.gate_model.specs.State.{State}
use Rattle.gate_model.specs.declared.reply.Refusal.{Refusal}
use Rattle.gate_model.specs.declared.reply.Reply.{Reply}
use Rattle.gate_store.specs.Deeds.{Leads, done_of, entries_of, entry_of, put_behind, repair_calls, state_behind}
use Rattle.gate_store.specs.Entries.{start, state_of}
use Rattle.gate_store.specs.Reopening.{ReopensTo, MayReopen, MayReopenIn}
use Rattle.gate_store.specs.Store.{birth_in, disk_in, rules_in, state_in, unsure_in}
use Rattle.gate_store.specs.declared.store.Store.{Store}
use Rattle.gate_store.proofs.Told.{told_leaves_weaker, told_leaves_both}
use Rattle.gate_store.proofs.Turns.{after_more}
use Rattle.route_rules.specs.declared.rules.Rules.{Rules}
use Rattle.store_disk.specs.Meaning.{Meaning}
use Rattle.store_disk.specs.Disk.{Areas}
use Rattle.store_disk.specs.Story.{Story, LeavesOnly}
use Rattle.boxes_main.specs.Door.{calls_in, IsInDoubt, IsNext, ReopensAmid}
use Rattle.boxes_main.specs.Kept.{MayLeave}
use Rattle.boxes_main.proofs.Answered.{done_of-append}
use Rattle.boxes_main.proofs.Doubts.{in_doubt_more}
use Rattle.boxes_main.proofs.KeptLemmas.{costs}

-- ---- the state behind deeds

-- behind one outcome
state_more : (birth : ℕ) (rules : Rules) (entries : List Recorded) (kept : Recorded) (outcome : Result Reply Refusal)
    → state_behind birth (state_of birth rules entries) kept outcome ≡ state_of birth rules (entries ++ put_behind kept outcome)
state_more birth rules entries kept (Ok reply) = sym (after_more birth (start rules) entries kept)
state_more birth rules entries kept (Err refusal) = ap (state_of birth rules) (sym (append-nil entries))

-- the entries behind one deed more
done_more : (entries : List Recorded) (earlier : List Deed) (deed : Deed)
    → (entries ++ done_of earlier) ++ entries_of deed ≡ entries ++ done_of (earlier ++ deed ∷ [])
done_more entries earlier deed =
    append_assoc entries (done_of earlier) (entries_of deed)
    ∙ ap (λ es. entries ++ es) (ap (λ es. done_of earlier ++ es) (sym (append-nil (entries_of deed))) ∙ sym (done_of-append earlier (deed ∷ [])))

state_next : (birth : ℕ) (rules : Rules) (entries : List Recorded) (earlier : List Deed) (deed : Deed)
    → state_behind birth (state_of birth rules (entries ++ done_of earlier)) (entry_of deed) deed.outcome ≡ state_of birth rules (entries ++ done_of (earlier ++ deed ∷ []))
state_next birth rules entries earlier deed =
    state_more birth rules (entries ++ done_of earlier) (entry_of deed) deed.outcome ∙ ap (state_of birth rules) (done_more entries earlier deed)

module _ {D : Type 0} (meaning : Meaning D) (birth : ℕ) (rules : Rules) (entries : List Recorded) where
  state_from : (earlier deeds : List Deed) (a c : Store D) → birth_in a ≡ birth → state_in a ≡ state_of birth rules (entries ++ done_of earlier) → Leads meaning a deeds c
      → state_in c ≡ state_of birth rules (entries ++ done_of (earlier ++ deeds))
  state_from earlier [] a c born state leads =
      ap state_in leads ∙ state ∙ ap (λ ds. state_of birth rules (entries ++ done_of ds)) (sym (append-nil earlier))
  state_from earlier (deed ∷ deeds) a c born state leads =
      state_from (earlier ++ deed ∷ []) deeds leads.0 c (leads.1.born ∙ born)
      (leads.1.state ∙ ap (λ b. state_behind b (state_in a) (entry_of deed) deed.outcome) born ∙ ap (λ s. state_behind birth s (entry_of deed) deed.outcome) state
      ∙ state_next birth rules entries earlier deed) leads.2
      ∙ ap (λ ds. state_of birth rules (entries ++ done_of ds)) (append_assoc earlier (deed ∷ []) deeds)

  -- the state behind all deeds
  pub state_after : (deeds : List Deed) (a c : Store D) → birth_in a ≡ birth → state_in a ≡ state_of birth rules entries → Leads meaning a deeds c
      → state_in c ≡ state_of birth rules (entries ++ done_of deeds)
  state_after deeds a c born state leads = state_from [] deeds a c born (state ∙ ap (state_of birth rules) (sym (append-nil entries))) leads

  -- what they cost
  pub calls_after : (deeds : List Deed) (a c : Store D) → Leads meaning a deeds c
      → meaning.calls (disk_in c) + repair_calls (unsure_in c) ≤ meaning.calls (disk_in a) + repair_calls (unsure_in a) + calls_in deeds
  calls_after [] a c leads =
      let same : meaning.calls (disk_in c) ≡ meaning.calls (disk_in a) = ap (λ s. meaning.calls (disk_in s)) leads in
      let unsure : repair_calls (unsure_in c) ≡ repair_calls (unsure_in a) = ap (λ s. repair_calls (unsure_in s)) leads in
      omega (arith, same, unsure)
  calls_after (deed ∷ deeds) a c leads =
      let first = costs meaning a leads.0 (entry_of deed) deed.outcome leads.1 in
      let rest = calls_after deeds leads.0 c leads.2 in
      omega (arith, first, rest)

-- ---- stops

module _ (birth : ℕ) (rules : Rules) (entries : List Recorded) (all earlier : List Deed) (deed : Deed) (deeds : List Deed) where
  -- a stop in the call of a deed
  amid_one : all ≡ earlier ++ deed ∷ deeds → (born : ℕ) (ruled : Rules) (state : State) (unsure : Option Recorded) → born ≡ birth → ruled ≡ rules → state ≡ state_of birth rules (entries ++ done_of earlier)
      → IfSome unsure (IsInDoubt earlier) → (image : Areas) → MayReopenIn born ruled state unsure (entry_of deed) image → ReopensAmid birth rules entries all image
  amid_one split born ruled state unsure alike same is doubt image may =
      ⊎_elim
      (λ before. record {
        front = earlier;
        rest = deed ∷ deeds;
        split = split;
        more = unsure;
        doubt = in_doubt_before unsure doubt;
        reopens = subst (λ (s : State). MayReopen birth rules s unsure image) is (subst (λ (r : Rules). MayReopen birth r state unsure image) same
            (subst (λ b. MayReopen b ruled state unsure image) alike before));
      })
      (λ with_it. record {
        front = earlier;
        rest = deed ∷ deeds;
        split = split;
        more = Some (entry_of deed);
        doubt = inr refl;
        reopens = inr (subst (λ (s : State). ReopensTo rules (does birth s (recorded (entry_of deed))) image) is
            (subst (λ (r : Rules). ReopensTo r (does birth state (recorded (entry_of deed))) image) same
            (subst (λ b. ReopensTo ruled (does b state (recorded (entry_of deed))) image) alike with_it)));
      })
      may
    where
      in_doubt_before : (unsure : Option Recorded) → IfSome unsure (IsInDoubt earlier) → IfSome unsure (λ kept. IsInDoubt earlier kept ⊎ IsNext (deed ∷ deeds) kept)
      in_doubt_before None doubt = tt
      in_doubt_before (Some kept) doubt = inl doubt

module _
    {D : Type 0} (meaning : Meaning D) (birth : ℕ) (rules : Rules) (entries : List Recorded) (all : List Deed) (first : Story) where
  abbrev leaves : List Deed → Areas → Type 0
  leaves deeds = MayLeave rules first (ReopensAmid birth rules entries deeds)

  -- a stop in the calls of deeds, behind what came before
  pub amid : (earlier deeds : List Deed) (a c : Store D) → all ≡ earlier ++ deeds → birth_in a ≡ birth → rules_in a ≡ rules → state_in a ≡ state_of birth rules (entries ++ done_of earlier)
      → IfSome (unsure_in a) (IsInDoubt earlier) → OnTrue meaning.tells (LeavesOnly first (meaning.story (disk_in a)) (leaves all))
      → Leads meaning a deeds c → OnTrue meaning.tells (LeavesOnly first (meaning.story (disk_in c)) (leaves all))
  amid earlier [] a c split born ruled state doubt so_far leads =
      subst (λ (s : Store D). OnTrue meaning.tells (LeavesOnly first (meaning.story (disk_in s)) (leaves all))) (sym leads) so_far
  amid earlier (deed ∷ deeds) a c split born ruled state doubt so_far leads =
      amid (earlier ++ deed ∷ []) deeds leads.0 c (split ∙ sym (append_assoc earlier (deed ∷ []) deeds)) (leads.1.born ∙ born) (leads.1.ruled ∙ ruled)
      (leads.1.state ∙ ap (λ b. state_behind b (state_in a) (entry_of deed) deed.outcome) born ∙ ap (λ s. state_behind birth s (entry_of deed) deed.outcome) state
      ∙ state_next birth rules entries earlier deed)
      (in_doubt_more earlier deed (unsure_in a) (unsure_in leads.0) doubt leads.1.unsure)
      (told_leaves_both meaning.tells first (meaning.story (disk_in a)) (meaning.story (disk_in leads.0)) (leaves all) so_far
      (told_leaves_weaker meaning.tells (meaning.story (disk_in a)) (meaning.story (disk_in leads.0)) (MayReopenIn (birth_in a) (rules_in a) (state_in a) (unsure_in a) (entry_of deed)) (leaves all)
      (λ image may. inr (amid_one birth rules entries all earlier deed deeds split (birth_in a) (rules_in a) (state_in a) (unsure_in a) born ruled state doubt image may)) leads.1.stops))
      leads.2
