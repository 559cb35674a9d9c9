use Rattle.std.proofs.Common.{◌≡◌, ◌≤◌, ◌<◌, ◌-◌, ◌+◌, Bool, true, length, take, drop, get_or, ℕ, List, [], ◌∷◌, ◌++◌, ap, sym, ◌∙◌, subst, arith, append_assoc, length-drop, take_all}
use Rattle.std.proofs.lemmas.List.{take_more, take-append-drop}
use Rattle.http_text.specs.declared.head.place.Place.{Place}
use Rattle.http_text.specs.Place.{EndsAt}
use Rattle.http_text.specs.PlaceSteps.{goes_on, next}
use Rattle.http_text.proofs.PlaceFollows.{ends_next, open_at}
use Rattle.http_text.proofs.head.place.place_behind.Goals as goal

one_more : (p q : Place) (test : Bool) (front octets : List ℕ) (i : ℕ) → i < length octets → test ≡ goes_on p (get_or octets i 0) → test ≡ true
    → q ≡ next p (get_or octets i 0) → EndsAt p (front ++ take i octets) → EndsAt q (front ++ take (i + 1) octets)
one_more p q test front octets i within is passes here at =
    let b = get_or octets i 0 in
    let same : (front ++ take i octets) ++ b ∷ [] ≡ front ++ take (i + 1) octets =
    append_assoc front (take i octets) (b ∷ []) ∙ ap (λ (t : List ℕ). front ++ t) (sym (take_more octets i 0 within)) in
    subst (EndsAt q) same
    (subst (λ r. EndsAt r ((front ++ take i octets) ++ b ∷ [])) (sym here) (ends_next p b (front ++ take i octets) (sym is ∙ passes) at))

at_end : (p : Place) (octets : List ℕ) (before i : ℕ) → before ≤ length octets → length (take (length octets - before) (drop before octets)) ≤ i
    → EndsAt p (take before octets ++ take i (take (length octets - before) (drop before octets))) → EndsAt p octets
at_end p octets before i within past at =
    let behind = drop before octets in
    let all : take (length octets - before) behind ≡ behind = take_all (length octets - before) behind (omega (arith, length-drop before octets)) in
    let same : take i (take (length octets - before) behind) ≡ behind = take_all i (take (length octets - before) behind) past ∙ all in
    subst (EndsAt p) (ap (λ (t : List ℕ). take before octets ++ t) same ∙ take-append-drop before octets) at

pub loop-octet-preserved : goal.loop-octet-preserved
loop-octet-preserved c =
    let octets = c.args.octets.now in
    one_more c.loop-octet.found c.next-found.result c.goes_on.result (take c.args.before octets)
    (take (length octets - c.args.before) (drop c.args.before octets)) c.loop-octet.octet-index
    c.loop-octet-test.true c.goes_on.ensures c.if-not-goes_on.false c.next-found.ensures c.loop-octet.invariant

pub returns-in_default : goal.returns-in_default
returns-in_default c =
    let at = at_end c.loop-octet.found c.args.octets.now c.args.before c.loop-octet.octet-index c.requires.within c.loop-octet-test.false c.loop-octet.invariant in
    record { place = at; «open» = open_at c.loop-octet.found c.args.octets.now c.in_default.not-Unknown at }
