-- The messages that wait in a store are messages: each came with an entry that may come next.
use Rattle.std.proofs.Common.{◌≡◌, ◌∙◌, refl, sym, subst, ℕ, ◌+◌, inl, inr, List, [], ◌∷◌, ◌++◌, map}
use Rattle.std.specs.Prelude.{Option, Some, None, true, false, All, ⊤, ◌==◌, if◌then◌else◌}
use Rattle.std.proofs.lemmas.Bool.{cases_Bool}
use Rattle.std.proofs.lemmas.List.Elements.{All-head, All-tail}
use Rattle.dlr_table.specs.declared.awaited.Awaited.{Awaited}
use Rattle.gate_entries.specs.declared.recorded.Recorded.{Recorded}
use Rattle.gate_entries.specs.declared.recorded.Recorded.TheVariants as entry
use Rattle.gate_entries.specs.declared.reported.Reported.{Reported}
use Rattle.gate_model.specs.declared.waiting.Waiting.{Waiting}
use Rattle.gate_model.specs.Fold.{does, moves, hears, closes, first_under, is_last, recorded, after, unleased}
use Rattle.gate_model.specs.Lawful.{IsSound}
use Rattle.gate_model.specs.Numbers.{value_under, without, with_changes, numbered_from}
use Rattle.gate_model.specs.Settling.{settle, free_waiting}
use Rattle.gate_model.specs.State.{State}
use Rattle.gate_store.specs.Entries.{AreInTurn}
use Rattle.sms_record.specs.Record.{IsSms}
use Rattle.sms_record.specs.declared.sms.Sms.{Sms}

-- each message that waits has a record
abbrev pub AreMessages : List (ℕ × Waiting) → Type 0
AreMessages [] = ⊤
AreMessages (pair ∷ pairs) = IsSms pair.1.sms × AreMessages pairs

are_more : (xs ys : List (ℕ × Waiting)) → AreMessages xs → AreMessages ys → AreMessages (xs ++ ys)
are_more [] ys first then_ = then_
are_more (x ∷ xs) ys first then_ = (first.0, are_more xs ys first.1 then_)

are_numbered : (number : ℕ) (parts : List Sms) → All IsSms parts → AreMessages (numbered_from number (map unleased parts))
are_numbered number [] each = tt
are_numbered number (part ∷ parts) each = (All-head IsSms part parts each, are_numbered (number + 1) parts (All-tail IsSms part parts each))

are_without : (number : ℕ) (pairs : List (ℕ × Waiting)) → AreMessages pairs → AreMessages (without number pairs)
are_without number [] are = tt
are_without number (pair ∷ pairs) are =
    let rest = are_without number pairs are.1 in
    elim (cases_Bool (pair.0 == number)) [
      | inl is ↦ rw is rest
      | inr other ↦ rw other (are.0, rest)
    ]

are_freed : (pairs : List (ℕ × Waiting)) → AreMessages (with_changes free_waiting pairs) → AreMessages pairs
are_freed [] are = tt
are_freed (pair ∷ pairs) are = (are.0, are_freed pairs are.1)

pub hears_waiting : (reported : Reported) (one : Option Awaited) (state : State) → (hears reported one state).waiting ≡ state.waiting
hears_waiting reported None state = refl
hears_waiting reported (Some awaited) state =
    elim (is_last reported.kind) as (λ last. (if last then closes reported.smsc reported.foreign state else state).waiting ≡ state.waiting) [
      | true ↦ refl
      | false ↦ refl
    ]

moves_messages : (state : State) (kept : Recorded) → IsSound state kept → AreMessages state.waiting → AreMessages (moves kept state).waiting
moves_messages state (entry.Accept accept) sound are =
    are_more state.waiting (numbered_from (state.last_message + 1) (map unleased accept.parts)) are (are_numbered (state.last_message + 1) accept.parts sound.0.each)
moves_messages state (entry.Acked acked) sound are = are_without acked.message state.waiting are
moves_messages state (entry.Rejected rejected) sound are = are_without rejected.message state.waiting are
moves_messages state (entry.Reported reported) sound are =
    subst AreMessages (sym (hears_waiting reported (first_under reported state) state)) are
moves_messages state (entry.Arrived arrived) sound are = are
moves_messages state (entry.Answered answered) sound are =
    are_more state.waiting (numbered_from (state.last_message + 1) (map unleased answered.parts)) are (are_numbered (state.last_message + 1) answered.parts sound.0.each)
moves_messages state (entry.Called called) sound are = are
moves_messages state (entry.CallDropped dropped) sound are = are

pub after_messages : (birth : ℕ) (entries : List Recorded) (state : State) → AreInTurn birth state entries → AreMessages state.waiting
    → AreMessages (after birth state (map recorded entries)).waiting
after_messages birth [] state turn are = are
after_messages birth (kept ∷ entries) state turn are =
    after_messages birth entries (does birth state (recorded kept)) turn.1 (moves_messages state kept turn.0.sound are)

-- also those that some link has taken
pub settled_messages : (state settled : State) → settle state ≡ settled → AreMessages settled.waiting → AreMessages state.waiting
settled_messages state settled is are = are_freed state.waiting (subst (λ (s : State). AreMessages s.waiting) (sym is) are)

pub message_of : (number : ℕ) (pairs : List (ℕ × Waiting)) (waiting : Waiting) → AreMessages pairs → value_under number pairs ≡ Some waiting → IsSms waiting.sms
message_of number [] waiting are found = absurd (let e : None ≡ Some waiting = found in cc)
message_of number (pair ∷ pairs) waiting are found =
    elim (cases_Bool (pair.0 == number)) [
      | inl is ↦
          let e : Some pair.1 ≡ Some waiting = sym (rw is) ∙ found in
          let same : pair.1 ≡ waiting = cc in
          subst (λ (w : Waiting). IsSms w.sms) same are.0
      | inr other ↦ message_of number pairs waiting are.1 (rw other at found)
    ]
