-- A store that is closed and opened again holds what is left of its state.
use Rattle.std.proofs.Common.{◌≡◌, ⊎_elim, inl, inr, ℕ, true, List, Option, Some, None, sym, ◌∙◌, subst}
use Rattle.std.specs.Bool.{OnTrue}
use Rattle.std.proofs.lemmas.Bool.{OnTrue_at, OnTrue_from}
use Rattle.gate_entries.specs.declared.recorded.Recorded.{Recorded}
use Rattle.gate_model.specs.Fold.{does, recorded}
use Rattle.gate_model.specs.State.{State}
use Rattle.route_rules.specs.declared.rules.Rules.{Rules}
use Rattle.store_disk.specs.Disk.{Areas}
use Rattle.store_disk.specs.Meaning.{Meaning}
use Rattle.store_disk.specs.Story.{IsImage}
use Rattle.store_journal.specs.Area.{stands}
use Rattle.gate_store.specs.Entries.{start, AreInTurn, StandsFor}
use Rattle.gate_store.specs.Reopening.{ReopensTo, MayReopen}
use Rattle.gate_store.specs.Store.{HoldsLeft, IsStore, MayHoldLeft, birth_in, disk_in, rules_in, state_in, unsure_in}
use Rattle.gate_store.specs.declared.store.Store.{Store}
use Rattle.gate_store.proofs.Recording.{stops_now}
use Rattle.gate_store.proofs.Turns.{same_state}

module _ {D : Type 0} (meaning : Meaning D) (tells : meaning.tells ≡ true) where
  -- what reopens to a state is opened to it
  left_of : (rules : Rules) (state : State) (areas : Areas) → ReopensTo rules state areas → HoldsLeft meaning rules state areas
  left_of rules state areas reopens disk birth store same is =
      let stood = subst (λ a. StandsFor (stands a) (birth_in store) is.entries) same (OnTrue_at tells is.stood) in
      let turn = subst (λ (r : Rules). AreInTurn (birth_in store) (start r) is.entries) is.ruled is.holds.in_turn in
      is.state ∙ same_state rules (stands areas) (birth_in store) reopens.birth is.entries reopens.entries stood reopens.stood turn reopens.in_turn ∙ sym reopens.makes

  may_left : (birth : ℕ) (rules : Rules) (state : State) (unsure : Option Recorded) (areas : Areas) → MayReopen birth rules state unsure areas
      → MayHoldLeft meaning birth rules state unsure areas
  may_left birth rules state None areas reopens = left_of rules state areas reopens
  may_left birth rules state (Some kept) areas reopens = ⊎_elim
      (λ before. inl (left_of rules state areas before))
      (λ with_it. inr (left_of rules (does birth state (recorded kept)) areas with_it)) reopens

-- whatever a stop leaves of a store is opened to what is left of its state
pub left_now : {D : Type 0} (meaning : Meaning D) (store : Store D) (birth : ℕ) (entries : List Recorded) → IsStore meaning store birth entries
    → OnTrue meaning.tells ((image : Areas) → IsImage (meaning.story (disk_in store)) image
    → MayHoldLeft meaning (birth_in store) (rules_in store) (state_in store) (unsure_in store) image)
left_now meaning store birth entries is = OnTrue_from meaning.tells _ (λ told image stopped.
    may_left meaning told (birth_in store) (rules_in store) (state_in store) (unsure_in store) image (OnTrue_at told (stops_now meaning store birth entries is) image stopped))
