-- Messages are put last, one after the other.
use Rattle.std.proofs.Common.{◌≡◌, sym, ap, ◌∙◌, subst, ℕ, ◌+◌, ◌<◌, List, [], ◌∷◌, ◌++◌, length, map, append_assoc, arith}
use Rattle.std.proofs.lemmas.List.Elements.{All-push, All-weaker}
use Rattle.sms_record.specs.declared.sms.Sms.{Sms}
use Rattle.numbered_table.specs.Pairs.{AllBelow}
use Rattle.gate_model.specs.declared.waiting.Waiting.{Waiting}
use Rattle.gate_model.specs.Fold.{unleased, accepts, counts_entry}
use Rattle.gate_model.specs.Numbers.{numbered_from}
use Rattle.gate_model.specs.State.{State}

module _ (pairs next : List (ℕ × Waiting)) (number : ℕ) (sms : Sms) (put : next ≡ pairs ++ (number, unleased sms) ∷ []) where
  -- with those that are left, the pairs are what they were
  pub put-joined : (all : List (ℕ × Waiting)) (left rest : List Sms) → left ≡ sms ∷ rest → pairs ++ numbered_from number (map unleased left) ≡ all
      → next ++ numbered_from (number + 1) (map unleased rest) ≡ all
  put-joined all left rest took joined =
      ap (λ ps. ps ++ numbered_from (number + 1) (map unleased rest)) put
      ∙ append_assoc pairs ((number, unleased sms) ∷ []) (numbered_from (number + 1) (map unleased rest))
      ∙ subst (λ xs. pairs ++ numbered_from number (map unleased xs) ≡ all) took joined

  -- all are below the next number
  pub put-above : AllBelow number pairs → AllBelow (number + 1) next
  put-above below =
      subst (AllBelow (number + 1)) (sym put)
      (All-push (λ (pair : ℕ × Waiting). pair.0 < number + 1) pairs (number, unleased sms)
      (All-weaker (λ (pair : ℕ × Waiting). pair.0 < number) (λ (pair : ℕ × Waiting). pair.0 < number + 1) (λ pair lt. omega arith) pairs below) (omega arith))

-- messages were accepted
pub accepted-state : (state : State) (parts same : List Sms) (pairs : List (ℕ × Waiting)) (count : ℕ) → pairs ≡ state.waiting ++ numbered_from (state.last_message + 1) (map unleased same) → same ≡ parts → count ≡ length parts
    → record state { waiting = pairs; accepted = state.accepted + count; last_message = state.last_message + count; entries = state.entries + 1 } ≡ counts_entry (accepts parts state)
accepted-state state parts same pairs count put are many =
    ap (λ ps. record state { waiting = ps; accepted = state.accepted + count; last_message = state.last_message + count; entries = state.entries + 1 })
    (put ∙ ap (λ xs. state.waiting ++ numbered_from (state.last_message + 1) (map unleased xs)) are)
    ∙ ap (λ n. record (counts_entry (accepts parts state)) { accepted = state.accepted + n; last_message = state.last_message + n }) many
