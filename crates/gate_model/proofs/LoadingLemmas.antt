-- A payload is the octets of one entry alone.
use Rattle.std.proofs.Common.{◌≡◌, sym, ap, ◌∙◌, subst, ℕ, Bool, true, false, List, [], ◌++◌, lt-ltb}
use Rattle.std.specs.Prelude.{◌&&◌, nat_lt}
use Rattle.gate_entries.specs.declared.recorded.Recorded.{Recorded}
use Rattle.gate_entries.specs.Entry.{IsEntry, entry_octets}
use Rattle.gate_entries.proofs.Alone.{one_entry}
use Rattle.gate_model.specs.Lawful.{suits, most_entries}
use Rattle.gate_model.specs.Loading.{IsOutside}
use Rattle.gate_model.specs.State.{State}

both : (a b : Bool) → a ≡ true → b ≡ true → (a && b) ≡ false → ⊥
both true true x y none = cc
both true false x y none = cc
both false b x y none = cc

-- where the entry that a payload is doesn't come next, none does
pub outside : (payload : List ℕ) (state : State) (one : Recorded) → IsEntry one → payload ≡ entry_octets one
    → (suits state one && nat_lt state.entries most_entries) ≡ false → IsOutside payload state
outside payload state one is spelled none = λ kept next.
    let same : one ≡ kept = (one_entry one kept [] [] is next.sound.0 (ap (λ octets. octets ++ []) (sym spelled ∙ next.spelled))).0 in
    both (suits state kept) (nat_lt state.entries most_entries) next.sound.1 (lt-ltb state.entries most_entries next.few)
    (subst (λ e. (suits state e && nat_lt state.entries most_entries) ≡ false) same none)
