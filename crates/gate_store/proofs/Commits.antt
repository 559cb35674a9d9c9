-- What deeds that lead from one store to another did, all together.
use Rattle.std.proofs.Common.{◌≡◌, ℕ, List, [], ◌∷◌, ◌++◌, length, ap, sym, ◌∙◌, append_assoc, subst}
use Rattle.std.proofs.lemmas.List.{append-nil}
use Rattle.gate_entries.specs.declared.recorded.Recorded.{Recorded}
use Rattle.gate_model.specs.Acceptor.{Deed}
use Rattle.gate_model.specs.Settling.{settle}
use Rattle.gate_model.specs.State.{State}
use Rattle.gate_model.proofs.SettlingLaws.{settled_since_birth}
use Rattle.route_rules.specs.declared.rules.Rules.{Rules}
use Rattle.store_disk.specs.Meaning.{Meaning}
use Rattle.gate_store.specs.Deeds.{Leads, IsReason, AreReasoned, MayBeUnsure, entry_of, entries_of, state_behind, done_of}
use Rattle.gate_store.specs.Entries.{state_of}
use Rattle.gate_store.specs.Store.{IsStore, birth_in, rules_in, state_in, unsure_in}
use Rattle.gate_store.specs.declared.store.Store.{Store}

-- nothing is left out of what entries make that are kept
pub settle-state_of : (birth : ℕ) (rules : Rules) (entries : List Recorded) → settle (state_of birth rules entries) ≡ state_of birth rules entries
settle-state_of birth rules entries = settled_since_birth birth (length rules.links) entries

module _ {D : Type 0} (meaning : Meaning D) where
  -- each outcome has its reason
  pub reasoned : (birth : ℕ) (rules : Rules) (state : State) (a c : Store D) (deeds : List Deed) → Leads meaning a deeds c → birth_in a ≡ birth
      → rules_in a ≡ rules → state_in a ≡ state → AreReasoned birth rules state deeds
  reasoned birth rules state a c [] leads born ruled holds = tt
  reasoned birth rules state a c (deed ∷ deeds) leads born ruled holds = (
    subst (λ r. IsReason r state (entry_of deed) deed.outcome) ruled (subst (λ s. IsReason (rules_in a) s (entry_of deed) deed.outcome) holds leads.1.reason),
    reasoned birth rules (state_behind birth state (entry_of deed) deed.outcome) leads.0 c deeds leads.2 (leads.1.born ∙ born) (leads.1.ruled ∙ ruled)
        (leads.1.state ∙ ap (λ b. state_behind b (state_in a) (entry_of deed) deed.outcome) born ∙ ap (λ s. state_behind birth s (entry_of deed) deed.outcome) holds),
  )

  -- the rules stay
  pub ruled_on : (a c : Store D) (deeds : List Deed) → Leads meaning a deeds c → rules_in c ≡ rules_in a
  ruled_on a c [] leads = ap rules_in leads
  ruled_on a c (deed ∷ deeds) leads = ruled_on leads.0 c deeds leads.2 ∙ leads.1.ruled

  -- and the birth
  pub born_on : (a c : Store D) (deeds : List Deed) → Leads meaning a deeds c → birth_in c ≡ birth_in a
  born_on a c [] leads = ap birth_in leads
  born_on a c (deed ∷ deeds) leads = born_on leads.0 c deeds leads.2 ∙ leads.1.born

  -- the store holds the entries of those that were done behind those that it held
  pub gained : (a c : Store D) (deeds : List Deed) → Leads meaning a deeds c
      → (birth : ℕ) (entries : List Recorded) → IsStore meaning a birth entries → IsStore meaning c birth (entries ++ done_of deeds)
  gained a c [] leads birth entries is =
      subst (λ x. IsStore meaning c birth x) (sym (append-nil entries)) (subst (λ s. IsStore meaning s birth entries) (sym leads) is)
  gained a c (deed ∷ deeds) leads birth entries is =
      subst (λ x. IsStore meaning c birth x) (append_assoc entries (entries_of deed) (done_of deeds))
      (gained leads.0 c deeds leads.2 birth (entries ++ entries_of deed) (leads.1.holds birth entries is))

  -- what is unsure behind them
  pub doubted : (a c : Store D) (deeds : List Deed) → Leads meaning a deeds c → MayBeUnsure (unsure_in a) deeds (unsure_in c)
  doubted a c [] leads = ap unsure_in leads
  doubted a c (deed ∷ deeds) leads = (unsure_in leads.0, leads.1.unsure, doubted leads.0 c deeds leads.2)
