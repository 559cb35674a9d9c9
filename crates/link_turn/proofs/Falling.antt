-- What a session has still to do falls with each thing that is done.
use Rattle.std.proofs.Common.{◌≡◌, ◌∙◌, refl, sym, ap, subst, ℕ, ◌+◌, ◌<◌, ◌≤◌, Bool, true, false, inl, inr, List, [], ◌∷◌, arith}
use Rattle.std.specs.Prelude.{Option, Some, None, Result, Ok, Err, ◌==◌}
use Rattle.std.proofs.lemmas.Bool.{cases_Bool, eqb-true}
use Rattle.gate_entries.specs.declared.passing.Passing.{Passing}
use Rattle.gate_entries.specs.declared.passing.Passing.TheVariants.{Up, Down, Took, Returned}
use Rattle.gate_entries.specs.declared.passing.Passing.TheVariants as passing
use Rattle.gate_entries.specs.declared.recorded.Recorded.{Recorded}
use Rattle.gate_entries.specs.declared.recorded.Recorded.TheVariants as entry
use Rattle.gate_model.specs.Fold.{does, first_under, passes as passes_so, recorded}
use Rattle.gate_model.specs.Lawful.{is_expired}
use Rattle.gate_model.specs.Numbers.{value_under, without, with_change, Rise}
use Rattle.gate_model.specs.Routing.{next}
use Rattle.gate_model.specs.State.{State, IsInOrder}
use Rattle.gate_model.specs.declared.reply.Refusal.{Refusal}
use Rattle.gate_model.specs.declared.reply.Reply.{Reply}
use Rattle.gate_model.specs.declared.waiting.Waiting.{Waiting}
use Rattle.gate_store.specs.Deeds.{Performs, Passes, Takes, TakesNext, TakesMessage, Withholds}
use Rattle.gate_store.specs.Store.{IsOpen, birth_in, rules_in, state_in}
use Rattle.gate_store.specs.declared.store.Store.{Store}
use Rattle.gate_store.specs.declared.taken.Taken.{Taken}
use Rattle.gate_store.specs.declared.taken.Taken.TheVariants as taken
use Rattle.store_disk.specs.Meaning.{Meaning}
use Rattle.link_turn.specs.Turn.{IsReading}
use Rattle.link_turn.specs.TurnSteps.{one_free, free_in}
use Rattle.link_turn.proofs.Holding.{IsOfLink, IsOfThis, next_waits, in_order}
use Rattle.link_turn.proofs.Stored.{hears_waiting}

-- ---- messages that no link has taken

fewer_without : (message : ℕ) (pairs : List (ℕ × Waiting)) → free_in (without message pairs) ≤ free_in pairs
fewer_without message [] = omega arith
fewer_without message (pair ∷ pairs) =
    let rest = fewer_without message pairs in
    elim (cases_Bool (pair.0 == message)) [
      | inl is ↦ rw is (omega (arith, rest))
      | inr other ↦ rw other (omega (arith, rest))
    ]

-- one that was free is gone
one_without : (message : ℕ) (waiting : Waiting) (pairs : List (ℕ × Waiting)) → value_under message pairs ≡ Some waiting → waiting.lease ≡ None
    → free_in (without message pairs) + 1 ≤ free_in pairs
one_without message waiting [] found free = absurd (let e : None ≡ Some waiting = found in cc)
one_without message waiting (pair ∷ pairs) found free =
    elim (cases_Bool (pair.0 == message)) [
      | inl is ↦
          let e : Some pair.1 ≡ Some waiting = sym (rw is) ∙ found in
          let same : pair.1 ≡ waiting = cc in
          let counted : one_free pair.1.lease ≡ 1 = ap (λ (w : Waiting). one_free w.lease) same ∙ ap one_free free in
          let rest = fewer_without message pairs in
          rw is (omega (arith, counted, rest))
      | inr other ↦
          let rest = one_without message waiting pairs (rw other at found) free in
          rw other (omega (arith, rest))
    ]

abbrev taking : ℕ → Waiting → Waiting
taking link waiting = record waiting { lease = Some link }

abbrev freeing : Waiting → Waiting
freeing waiting = record waiting { lease = None }

fewer_taken : (link message : ℕ) (pairs : List (ℕ × Waiting)) → free_in (with_change message (taking link) pairs) ≤ free_in pairs
fewer_taken link message [] = omega arith
fewer_taken link message (pair ∷ pairs) =
    let rest = fewer_taken link message pairs in
    elim (cases_Bool (pair.0 == message)) [
      | inl is ↦ rw is (omega (arith, rest))
      | inr other ↦ rw other (omega (arith, rest))
    ]

-- one that was free is taken
one_taken : (link message : ℕ) (waiting : Waiting) (pairs : List (ℕ × Waiting)) → value_under message pairs ≡ Some waiting → waiting.lease ≡ None
    → free_in (with_change message (taking link) pairs) + 1 ≤ free_in pairs
one_taken link message waiting [] found free = absurd (let e : None ≡ Some waiting = found in cc)
one_taken link message waiting (pair ∷ pairs) found free =
    elim (cases_Bool (pair.0 == message)) [
      | inl is ↦
          let e : Some pair.1 ≡ Some waiting = sym (rw is) ∙ found in
          let same : pair.1 ≡ waiting = cc in
          let counted : one_free pair.1.lease ≡ 1 = ap (λ (w : Waiting). one_free w.lease) same ∙ ap one_free free in
          let rest = fewer_taken link message pairs in
          rw is (omega (arith, counted, rest))
      | inr other ↦
          let rest = one_taken link message waiting pairs (rw other at found) free in
          rw other (omega (arith, rest))
    ]

-- what isn't there isn't changed
unchanged : (from below message : ℕ) (change : Waiting → Waiting) (pairs : List (ℕ × Waiting)) → Rise from below pairs → message < from → with_change message change pairs ≡ pairs
unchanged from below message change [] rise before = refl
unchanged from below message change (pair ∷ pairs) rise before =
    let rest = unchanged (pair.0 + 1) below message change pairs rise.2 (omega (arith, rise.0, before)) in
    elim (cases_Bool (pair.0 == message)) [
      | inl is ↦ absurd (let e = eqb-true pair.0 message is in omega (arith, e, rise.0, before))
      | inr other ↦ rw other (ap (λ (ps : List (ℕ × Waiting)). pair ∷ ps) rest)
    ]

one_free_most : (lease : Option ℕ) → one_free lease ≤ 1
one_free_most None = omega arith
one_free_most (Some link) = omega arith

-- at most one more is free that is given back
one_freed : (from below message : ℕ) (pairs : List (ℕ × Waiting)) → Rise from below pairs → free_in (with_change message freeing pairs) ≤ free_in pairs + 1
one_freed from below message [] rise = omega arith
one_freed from below message (pair ∷ pairs) rise =
    elim (cases_Bool (pair.0 == message)) [
      | inl is ↦
          let e = eqb-true pair.0 message is in
          let rest : free_in (with_change message freeing pairs) ≡ free_in pairs = ap free_in (unchanged (pair.0 + 1) below message freeing pairs rise.2 (omega (arith, e))) in
          rw is (omega (arith, rest))
      | inr other ↦
          let rest = one_freed (pair.0 + 1) below message pairs rise.2 in
          rw other (omega (arith, rest))
    ]

-- ---- behind a deed

recorded_free : (birth : ℕ) (state : State) (kept : Recorded) → IsOfLink kept → free_in (does birth state (recorded kept)).waiting ≤ free_in state.waiting
recorded_free birth state (entry.Acked acked) is = fewer_without acked.message state.waiting
recorded_free birth state (entry.Rejected rejected) is = fewer_without rejected.message state.waiting
recorded_free birth state (entry.Reported r) is =
    let same = ap free_in (hears_waiting r (first_under r state) state) in
    subst (λ (n : ℕ). n ≤ free_in state.waiting) (sym same) (omega arith)
recorded_free birth state (entry.Arrived arrived) is = omega arith
recorded_free birth state (entry.Accept accept) is = absurd is
recorded_free birth state (entry.Answered answered) is = absurd is
recorded_free birth state (entry.Called called) is = absurd is
recorded_free birth state (entry.CallDropped dropped) is = absurd is

-- what it gives back may be one more
abbrev pub freed_by : Passing → ℕ
freed_by (passing.Returned message) = 1
freed_by brief = 0

passed_free : (link : ℕ) (state : State) (brief : Passing) → IsInOrder state → IsOfThis link brief → free_in (passes_so brief state).waiting ≤ free_in state.waiting + freed_by brief
passed_free link state (passing.Up other) order is = omega arith
passed_free link state (passing.Down other) order is = omega arith
passed_free link state (passing.Returned message) order is = one_freed 1 (state.last_message + 1) message state.waiting order.waiting
passed_free link state (passing.Took other message time) order is = absurd is
passed_free link state (passing.TookJob job) order is = absurd is
passed_free link state (passing.ReturnedJob job) order is = absurd is
passed_free link state (passing.TookArrival arrival) order is = absurd is
passed_free link state (passing.ReturnedArrival arrival) order is = absurd is

-- what is taken is one less
abbrev pub taken_by : Result (Option Taken) Refusal → ℕ
taken_by (Ok None) = 0
taken_by (Ok (Some message)) = 1
taken_by (Err refusal) = 0

module _ {D : Type 0} (meaning : Meaning D) where
  abbrev pub free_of : Store D → ℕ
  free_of store = free_in (state_in store).waiting

  pub free_performed : (old new : Store D) (kept : Recorded) (outcome : Result Reply Refusal) → IsOfLink kept → Performs meaning old kept outcome new → free_of new ≤ free_of old
  free_performed old new kept (Ok reply) is done =
      subst (λ (s : State). free_in s.waiting ≤ free_of old) (sym done.state) (recorded_free (birth_in old) (state_in old) kept is)
  free_performed old new kept (Err refusal) is done = subst (λ (s : State). free_in s.waiting ≤ free_of old) (sym done.state) (omega arith)

  pub free_passed : (old new : Store D) (link : ℕ) (brief : Passing) → IsOpen meaning old → IsOfThis link brief → Passes meaning old brief new
      → free_of new ≤ free_of old + freed_by brief
  free_passed old new link brief open_ is done =
      subst (λ (s : State). free_in s.waiting ≤ free_of old + freed_by brief) (sym done.state) (passed_free link (state_in old) brief (in_order meaning old open_) is)

  free_withheld : (expired : Bool) (old new : Store D) (link now message : ℕ) (refusal : Refusal) → Withholds meaning expired old link now message refusal new
      → free_of new ≤ free_of old
  free_withheld true old new link now message refusal (inl done) = subst (λ (s : State). free_in s.waiting ≤ free_of old) (sym done.state) (omega arith)
  free_withheld true old new link now message refusal (inr none) = subst (λ (s : Store D). free_of s ≤ free_of old) (sym none.1) (omega arith)
  free_withheld false old new link now message refusal none = subst (λ (s : Store D). free_of s ≤ free_of old) (sym none.1) (omega arith)

  free_taken_one : (old new : Store D) (link now message : ℕ) (outcome : Result (Option Taken) Refusal) → IsOpen meaning old → IsReading now
      → next (rules_in old) (state_in old) link now ≡ Some message → TakesMessage meaning old link now message outcome new → free_of new + taken_by outcome ≤ free_of old
  free_taken_one old new link now message (Ok None) open_ soon next_is takes_ = absurd takes_
  free_taken_one old new link now message (Ok (Some (taken.Send number sms))) open_ soon next_is takes_ =
      let w = next_waits meaning old link now message open_ soon next_is in
      subst (λ (s : State). free_in s.waiting + 1 ≤ free_of old) (sym takes_.3.state) (one_taken link message w.0 (state_in old).waiting w.1 w.2.0)
  free_taken_one old new link now message (Ok (Some (taken.Expired number))) open_ soon next_is takes_ =
      let w = next_waits meaning old link now message open_ soon next_is in
      subst (λ (s : State). free_in s.waiting + 1 ≤ free_of old) (sym takes_.3.state) (one_without message w.0 (state_in old).waiting w.1 w.2.0)
  free_taken_one old new link now message (Err refusal) open_ soon next_is takes_ =
      let few = free_withheld (is_expired message now (state_in old)) old new link now message refusal takes_ in omega (arith, few)

  free_takes_next : (old new : Store D) (link now : ℕ) (found : Option ℕ) (outcome : Result (Option Taken) Refusal) → IsOpen meaning old → IsReading now
      → next (rules_in old) (state_in old) link now ≡ found → TakesNext meaning old link now found outcome new → free_of new + taken_by outcome ≤ free_of old
  free_takes_next old new link now None outcome open_ soon next_is takes_ =
      subst (λ (s : Store D). free_of s + taken_by outcome ≤ free_of old) (sym takes_.1)
      (subst (λ (o : Result (Option Taken) Refusal). free_of old + taken_by o ≤ free_of old) (sym takes_.0) (omega arith))
  free_takes_next old new link now (Some message) outcome open_ soon next_is takes_ = free_taken_one old new link now message outcome open_ soon next_is takes_

  pub free_takes : (old new : Store D) (link now : ℕ) (outcome : Result (Option Taken) Refusal) → IsOpen meaning old → IsReading now → Takes meaning old link now outcome new
      → free_of new + taken_by outcome ≤ free_of old
  free_takes old new link now outcome open_ soon takes_ = free_takes_next old new link now (next (rules_in old) (state_in old) link now) outcome open_ soon refl takes_
