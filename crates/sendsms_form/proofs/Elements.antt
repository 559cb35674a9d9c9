-- Elements that fill octets, one after the other.
use Rattle.std.proofs.Common.{◌≡◌, ◌≢◌, ℕ, zero, suc, ◌+◌, ◌-◌, ◌<◌, true, false, List, [], ◌∷◌, Some, None, refl, ap, sym, ◌∙◌, arith}
use Rattle.sendsms_form.specs.Variables.{behind_element, fill_by, fill}

-- an element is left behind
pub fill_goes : (most k : ℕ) (rest behind : List ℕ) → k < most → rest ≢ [] → Some behind ≡ behind_element rest → fill (most - k) rest ≡ fill (most - (k + 1)) behind
fill_goes most k [] behind below some is = absurd (some refl)
fill_goes most k (octet ∷ octets) behind below some is =
    let step : most - k ≡ suc (most - (k + 1)) = omega (arith, below) in
    ap (λ n. fill n (octet ∷ octets)) step ∙ ap (fill_by (fill (most - (k + 1)))) (sym is)

-- no element stands there
pub fill_ends : (n : ℕ) (rest : List ℕ) → rest ≢ [] → None ≡ behind_element rest → fill n rest ≡ false
fill_ends n [] some is = absurd (some refl)
fill_ends zero (octet ∷ octets) some is = refl
fill_ends (suc n) (octet ∷ octets) some is = ap (fill_by (fill n)) (sym is)

-- none are left
pub fill_empty : (n : ℕ) (rest : List ℕ) → rest ≡ [] → fill n rest ≡ true
fill_empty n rest is = ap (fill n) is
