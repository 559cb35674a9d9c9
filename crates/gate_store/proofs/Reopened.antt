-- What a stop leaves of a store reopens to.
use Rattle.std.proofs.Common.{◌≡◌, inl, inr, ⊎_elim, ℕ, List, [], ◌∷◌, ◌++◌, Option, Some, None, IfSome, Result, Ok, Err, refl, ap, sym, ◌∙◌, subst}
use Rattle.std.specs.Prelude.{option_map}
use Rattle.gate_entries.specs.declared.recorded.Recorded.{Recorded}
use Rattle.gate_entries.specs.Entry.{entry_octets}
use Rattle.gate_model.specs.Fold.{does, recorded, counts_entry}
use Rattle.gate_model.specs.Loading.{ComesNext}
use Rattle.gate_model.specs.Settling.{settle}
use Rattle.gate_model.specs.State.{State}
use Rattle.gate_model.proofs.SettlingLaws.{settle-keeps}
use Rattle.route_rules.specs.declared.rules.Rules.{Rules}
use Rattle.store_disk.specs.Disk.{Areas}
use Rattle.store_disk.specs.declared.area.Area.{Area}
use Rattle.store_journal.specs.Area.{born, stands}
use Rattle.store_journal.specs.Journal.{MayHold}
use Rattle.gate_model.specs.declared.reply.Refusal.{Refusal}
use Rattle.gate_model.specs.declared.reply.Reply.{Reply}
use Rattle.gate_store.specs.Deeds.{state_behind}
use Rattle.gate_store.specs.Entries.{payloads, start, state_of, AreInTurn, StandsFor}
use Rattle.gate_store.specs.Reopening.{ReopensTo, MayReopen, MayReopenIn}
use Rattle.gate_store.proofs.Turns.{after_more, in_turn_more, payloads_more}

-- what is kept does to what is left of a state what it does to the state
pub settle-does : (birth : ℕ) (state : State) (kept : Recorded) → settle (does birth state (recorded kept)) ≡ does birth (settle state) (recorded kept)
settle-does birth state kept = ap counts_entry (settle-keeps birth state kept)

-- and so does an outcome
pub settle-behind : (birth : ℕ) (state : State) (kept : Recorded) (outcome : Result Reply Refusal)
    → settle (state_behind birth state kept outcome) ≡ state_behind birth (settle state) kept outcome
settle-behind birth state kept (Ok reply) = settle-does birth state kept
settle-behind birth state kept (Err why) = refl

module _
    (birth : ℕ) (rules : Rules) (entries : List Recorded) (state : State)
    (in_turn : AreInTurn birth (start rules) entries) (settled : settle state ≡ state_of birth rules entries)
    (area : Area) (areas : Areas) where
  -- areas that stand for the entries
  pub reopens_to : stands areas ≡ born birth area (payloads entries) → ReopensTo rules state areas
  reopens_to stood = record {
    birth = birth;
    entries = entries;
    stood = subst (λ s. StandsFor s birth entries) (sym stood) (refl, refl);
    in_turn = in_turn;
    makes = settled;
  }

  -- and for one more, which may come next
  pub reopens_with : (kept : Recorded) → ComesNext (state_of birth rules entries) (entry_octets kept) kept
      → stands areas ≡ born birth area (payloads entries ++ entry_octets kept ∷ []) → ReopensTo rules (does birth state (recorded kept)) areas
  reopens_with kept next stood = record {
    birth = birth;
    entries = entries ++ kept ∷ [];
    stood = subst (λ s. StandsFor s birth (entries ++ kept ∷ [])) (sym stood) (refl, sym (payloads_more entries kept));
    in_turn = in_turn_more birth (start rules) entries kept in_turn next;
    makes = settle-does birth state kept ∙ ap (λ s. does birth s (recorded kept)) settled ∙ sym (after_more birth (start rules) entries kept);
  }

  -- areas that may hold what is unsure
  pub may_reopen : (unsure : Option Recorded) → IfSome unsure (λ kept. ComesNext (state_of birth rules entries) (entry_octets kept) kept)
      → MayHold birth area (payloads entries) (option_map entry_octets unsure) areas → MayReopen birth rules state unsure areas
  may_reopen None next holds = reopens_to holds
  may_reopen (Some kept) next holds = ⊎_elim (λ before. inl (reopens_to before)) (λ with_it. inr (reopens_with kept next with_it)) holds

  -- areas that may hold the entry of a call, where nothing was unsure
  pub may_reopen_in : (kept : Recorded) → ComesNext (state_of birth rules entries) (entry_octets kept) kept
      → MayHold birth area (payloads entries) (Some (entry_octets kept)) areas → MayReopenIn birth rules state None kept areas
  may_reopen_in kept next holds = ⊎_elim (λ before. inl (reopens_to before)) (λ with_it. inr (reopens_with kept next with_it)) holds
