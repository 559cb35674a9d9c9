-- What a link holds in a store, as entries come.
use Rattle.std.proofs.Common.{◌≡◌, ◌≢◌, ◌∙◌, refl, sym, ap, subst, ℕ, zero, suc, ◌+◌, ◌≤◌, Bool, false, cond, inl, inr, List, [], ◌∷◌, ◌++◌, arith}
use Rattle.std.specs.Prelude.{◌==◌, Option, Some, None, IsSomeAnd, option_map, slice_get, slice_set}
use Rattle.std.specs.Option.{option_and_then}
use Rattle.std.proofs.lemmas.Bool.{cases_Bool, cases_eq, eqb-true}
use Rattle.gate_model.specs.Gate.{lease_under}
use Rattle.gate_model.specs.Lawful.{IsLeased}
use Rattle.gate_model.specs.Numbers.{value_under, without, with_change, Rise}
use Rattle.gate_model.specs.State.{State, is_link, flight_of}
use Rattle.gate_model.specs.declared.waiting.Waiting.{Waiting}
use Rattle.numbered_table.proofs.PairLists.{value_under-without, value_under-without_other}
use Rattle.link_turn.specs.Back.{IsAmong, without_message}
use Rattle.link_turn.specs.Turn.{IsOf}
use Rattle.link_turn.proofs.Uses.{other, same, among_without, among_before, not_among_without, among_push_cases, among_more, among_last}

-- ---- a message that is held is leased

lease_there : (o : Option Waiting) (link : ℕ) → option_and_then (λ w. w.lease) o ≡ Some link → (w : Waiting) × (o ≡ Some w) × (w.lease ≡ Some link)
lease_there None link is = absurd (let e : None ≡ Some link = is in cc)
lease_there (Some w) link is = (w, refl, is)

pub held_is_leased : (link message : ℕ) (held : List ℕ) (up : Bool) (state : State) → IsOf link held up state → IsAmong message held → IsLeased state message
held_is_leased link message held up state of among =
    let there = lease_there (value_under message state.waiting) link ((of.leased message).1 among) in
    subst (λ (o : Option Waiting). IsSomeAnd o (λ w. w.lease ≢ None)) (sym there.1) (λ none. let e : None ≡ Some link = sym none ∙ there.2 in cc)

-- ---- a message ends

gone_lease : (message : ℕ) (pairs : List (ℕ × Waiting)) → lease_under message (without message pairs) ≡ None
gone_lease message pairs = ap (option_and_then (λ (w : Waiting). w.lease)) (value_under-without message pairs)

other_lease : (k message : ℕ) (pairs : List (ℕ × Waiting)) → message ≢ k → lease_under k (without message pairs) ≡ lease_under k pairs
other_lease k message pairs differ = ap (option_and_then (λ (w : Waiting). w.lease)) (value_under-without_other k message pairs differ)

-- it was held
pub of_ended : (link message : ℕ) (held : List ℕ) (up : Bool) (old new : State) → IsOf link held up old → new.waiting ≡ without message old.waiting → new.up ≡ old.up
    → IsOf link (without_message message held) up new
of_ended link message held up old new of we ue = record {
  leased = λ k. (
    (λ leased. elim (cases_eq k message) [
      | inl here ↦ absurd (let e : None ≡ Some link = sym (gone_lease message old.waiting) ∙ sym (ap (lease_under message) we) ∙ subst (λ (n : ℕ). lease_under n new.waiting ≡ Some link) here leased in cc)
      | inr differ ↦ among_without k message held (λ e. differ (sym e)) ((of.leased k).0 (sym (other_lease k message old.waiting (λ e. differ (sym e))) ∙ sym (ap (lease_under k) we) ∙ leased))
    ]),
    (λ among.
        let differ : message ≢ k = λ e. not_among_without message held (subst (λ (n : ℕ). IsAmong n (without_message message held)) (sym e) among) in
        ap (lease_under k) we ∙ other_lease k message old.waiting differ ∙ (of.leased k).1 (among_before k message held among)),
  );
  is_up = ap (λ (ups : List Bool). slice_get ups link) ue ∙ of.is_up;
}

-- no link had taken it
pub of_expired : (link message : ℕ) (held : List ℕ) (up : Bool) (old new : State) → IsOf link held up old → lease_under message old.waiting ≡ None → new.waiting ≡ without message old.waiting
    → new.up ≡ old.up → IsOf link held up new
of_expired link message held up old new of free we ue = record {
  leased = λ k. (
    (λ leased. elim (cases_eq k message) [
      | inl here ↦ absurd (let e : None ≡ Some link = sym (gone_lease message old.waiting) ∙ sym (ap (lease_under message) we) ∙ subst (λ (n : ℕ). lease_under n new.waiting ≡ Some link) here leased in cc)
      | inr differ ↦ (of.leased k).0 (sym (other_lease k message old.waiting (λ e. differ (sym e))) ∙ sym (ap (lease_under k) we) ∙ leased)
    ]),
    (λ among.
        let here = (of.leased k).1 among in
        let differ : message ≢ k = λ e. let e2 : None ≡ Some link = sym free ∙ subst (λ (n : ℕ). lease_under n old.waiting ≡ Some link) (sym e) here in cc in
        ap (lease_under k) we ∙ other_lease k message old.waiting differ ∙ here),
  );
  is_up = ap (λ (ups : List Bool). slice_get ups link) ue ∙ of.is_up;
}

-- ---- the lease of a message changes

change_other : (k message : ℕ) (change : Waiting → Waiting) (pairs : List (ℕ × Waiting)) → message ≢ k → value_under k (with_change message change pairs) ≡ value_under k pairs
change_other k message change [] differ = refl
change_other k message change (pair ∷ pairs) differ =
    let rest = change_other k message change pairs differ in
    elim (cases_Bool (pair.0 == message)) [
      | inl is ↦
          let not_here : (pair.0 == k) ≡ false = other pair.0 k (λ e. differ (sym (eqb-true pair.0 message is) ∙ e)) in
          rw (is, not_here) rest
      | inr stays ↦ rw stays (ap (cond (pair.0 == k) (Some pair.1)) rest)
    ]

change_same : (message : ℕ) (change : Waiting → Waiting) (pairs : List (ℕ × Waiting)) → value_under message (with_change message change pairs) ≡ option_map change (value_under message pairs)
change_same message change [] = refl
change_same message change (pair ∷ pairs) =
    elim (cases_Bool (pair.0 == message)) [
      | inl is ↦ rw (is, is)
      | inr stays ↦ rw (stays, stays) (change_same message change pairs)
    ]

change_lease_other : (k message : ℕ) (change : Waiting → Waiting) (pairs : List (ℕ × Waiting)) → message ≢ k → lease_under k (with_change message change pairs) ≡ lease_under k pairs
change_lease_other k message change pairs differ = ap (option_and_then (λ (w : Waiting). w.lease)) (change_other k message change pairs differ)

-- a link has taken it
pub of_taken : (link message : ℕ) (waiting : Waiting) (held : List ℕ) (up : Bool) (old new : State) → IsOf link held up old → value_under message old.waiting ≡ Some waiting
    → new.waiting ≡ with_change message (λ w. record w { lease = Some link }) old.waiting → new.up ≡ old.up → IsOf link (held ++ message ∷ []) up new
of_taken link message waiting held up old new of there we ue =
    let change : Waiting → Waiting = λ w. record w { lease = Some link } in
    let here : lease_under message new.waiting ≡ Some link =
    ap (lease_under message) we ∙ ap (option_and_then (λ (w : Waiting). w.lease)) (change_same message change old.waiting ∙ ap (option_map change) there) in record {
      leased = λ k. (
        (λ leased. elim (cases_eq k message) [
          | inl is ↦ subst (λ (n : ℕ). IsAmong n (held ++ message ∷ [])) (sym is) (among_last message held)
          | inr differ ↦ among_more k held (message ∷ []) ((of.leased k).0
              (sym (change_lease_other k message change old.waiting (λ e. differ (sym e))) ∙ sym (ap (lease_under k) we) ∙ leased))
        ]),
        (λ among. elim (cases_eq k message) [
          | inl is ↦ subst (λ (n : ℕ). lease_under n new.waiting ≡ Some link) (sym is) here
          | inr differ ↦ elim (among_push_cases k message held among) [
            | inl before ↦ ap (lease_under k) we ∙ change_lease_other k message change old.waiting (λ e. differ (sym e)) ∙ (of.leased k).1 before
            | inr is ↦ absurd (differ (sym is))
          ]
        ]),
      );
      is_up = ap (λ (ups : List Bool). slice_get ups link) ue ∙ of.is_up;
    }

no_lease : (o : Option Waiting) → option_and_then (λ (w : Waiting). w.lease) (option_map (λ (w : Waiting). record w { lease = None }) o) ≡ None
no_lease None = refl
no_lease (Some w) = refl

-- it is given back
pub of_returned : (link message : ℕ) (held : List ℕ) (up : Bool) (old new : State) → IsOf link held up old
    → new.waiting ≡ with_change message (λ w. record w { lease = None }) old.waiting → new.up ≡ old.up → IsOf link (without_message message held) up new
of_returned link message held up old new of we ue =
    let change : Waiting → Waiting = λ w. record w { lease = None } in
    let gone : lease_under message new.waiting ≡ None =
    ap (lease_under message) we ∙ ap (option_and_then (λ (w : Waiting). w.lease)) (change_same message change old.waiting) ∙ no_lease (value_under message old.waiting) in record {
      leased = λ k. (
        (λ leased. elim (cases_eq k message) [
          | inl is ↦ absurd (let e : None ≡ Some link = sym gone ∙ subst (λ (n : ℕ). lease_under n new.waiting ≡ Some link) is leased in cc)
          | inr differ ↦ among_without k message held (λ e. differ (sym e))
              ((of.leased k).0 (sym (change_lease_other k message change old.waiting (λ e. differ (sym e))) ∙ sym (ap (lease_under k) we) ∙ leased))
        ]),
        (λ among.
            let differ : message ≢ k = λ e. not_among_without message held (subst (λ (n : ℕ). IsAmong n (without_message message held)) (sym e) among) in
            ap (lease_under k) we ∙ change_lease_other k message change old.waiting differ ∙ (of.leased k).1 (among_before k message held among)),
      );
      is_up = ap (λ (ups : List Bool). slice_get ups link) ue ∙ of.is_up;
    }

-- ---- the link comes up, or goes down

get_set : (ups : List Bool) (link : ℕ) (was up : Bool) → slice_get ups link ≡ Some was → slice_get (slice_set ups link up) link ≡ Some up
get_set [] link was up there = absurd (let e : None ≡ Some was = there in cc)
get_set (x ∷ ups) zero was up there = refl
get_set (x ∷ ups) (suc link) was up there = get_set ups link was up there

pub of_moved : (link : ℕ) (held : List ℕ) (was up : Bool) (old new : State) → IsOf link held was old → new.waiting ≡ old.waiting → new.up ≡ slice_set old.up link up → IsOf link held up new
of_moved link held was up old new of we ue = record {
  leased = λ k. ((λ leased. (of.leased k).0 (sym (ap (lease_under k) we) ∙ leased)), (λ among. ap (lease_under k) we ∙ (of.leased k).1 among));
  is_up = ap (λ (ups : List Bool). slice_get ups link) ue ∙ get_set old.up link was up of.is_up;
}

-- ---- a link that holds nothing has nothing in flight

at_least : (from below k : ℕ) (pairs : List (ℕ × Waiting)) (waiting : Waiting) → Rise from below pairs → value_under k pairs ≡ Some waiting → from ≤ k
at_least from below k [] waiting rise found = absurd (let e : None ≡ Some waiting = found in cc)
at_least from below k (pair ∷ pairs) waiting rise found =
    elim (cases_Bool (pair.0 == k)) [
      | inl is ↦ let e = eqb-true pair.0 k is in omega (arith, rise.0, e)
      | inr differs ↦
          let later = at_least (pair.0 + 1) below k pairs waiting rise.2 (rw differs at found) in
          omega (arith, later, rise.0)
    ]

not_its : (link : ℕ) (lease : Option ℕ) → lease ≢ Some link → is_link link lease ≡ false
not_its link None other = refl
not_its link (Some one) differs =
    elim (cases_Bool (one == link)) [
      | inl is ↦ absurd (differs (ap Some (eqb-true one link is)))
      | inr isnt ↦ isnt
    ]

count_none : (link : ℕ) (pair : ℕ × Waiting) (pairs : List (ℕ × Waiting)) → is_link link pair.1.lease ≡ false → flight_of pairs link ≡ 0 → flight_of (pair ∷ pairs) link ≡ 0
count_none link pair pairs first rest = rw first rest

pub no_flight : (link from below : ℕ) (pairs : List (ℕ × Waiting)) → Rise from below pairs → ((k : ℕ) → lease_under k pairs ≢ Some link) → flight_of pairs link ≡ 0
no_flight link from below [] rise none = refl
no_flight link from below (pair ∷ pairs) rise none =
    let first : is_link link pair.1.lease ≡ false =
    not_its link pair.1.lease (λ e. none pair.0 (rw (same pair.0) e)) in
    let rest : flight_of pairs link ≡ 0 = no_flight link (pair.0 + 1) below pairs rise.2 (λ k leased.
    let there = lease_there (value_under k pairs) link leased in
    let above = at_least (pair.0 + 1) below k pairs there.0 rise.2 there.1 in
    none k (rw (other pair.0 k (λ e. omega (arith, above, e))) leased)) in
    count_none link pair pairs first rest
