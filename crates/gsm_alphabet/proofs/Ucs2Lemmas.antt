-- Units of UTF-16, one pair of octets at a time.
use Rattle.std.proofs.Common.{◌≡◌, ℕ, ◌+◌, ◌*◌, ◌<◌, ◌≤◌, List, [], ◌∷◌, length, drop, get_or, refl, ap, ◌∙◌, arith}
use Rattle.std.specs.Int.{w16, from_be_bytes}
use Rattle.std.proofs.lemmas.List.{drop_more}
use Rattle.gsm_alphabet.specs.Ucs2.{units_of}

units_of-pair : (high low : ℕ) (rest : List ℕ) → units_of (high ∷ low ∷ rest) ≡ from_be_bytes w16 (high ∷ low ∷ []) ∷ units_of rest
unfolding units_of
units_of-pair high low rest = refl

-- one octet alone is no unit
pub units_of-short : (xs : List ℕ) → length xs ≤ 1 → units_of xs ≡ []
unfolding units_of
units_of-short [] short = refl
units_of-short (x ∷ []) short = refl
units_of-short (x ∷ y ∷ xs) short = absurd (omega arith)

-- the unit at a place, and those behind it
pub units_of-drop : (xs : List ℕ) (i : ℕ) → 2 * i + 1 < length xs
    → units_of (drop (2 * i) xs) ≡ from_be_bytes w16 (get_or xs (2 * i) 0 ∷ get_or xs (2 * i + 1) 0 ∷ []) ∷ units_of (drop (2 * (i + 1)) xs)
units_of-drop xs i within =
    let next : 2 * i + 1 + 1 ≡ 2 * (i + 1) = omega arith in
    ap units_of (drop_more xs (2 * i) 0 (omega arith) ∙ ap (λ l. get_or xs (2 * i) 0 ∷ l) (drop_more xs (2 * i + 1) 0 within))
    ∙ units_of-pair (get_or xs (2 * i) 0) (get_or xs (2 * i + 1) 0) (drop (2 * i + 1 + 1) xs)
    ∙ ap (λ n. from_be_bytes w16 (get_or xs (2 * i) 0 ∷ get_or xs (2 * i + 1) 0 ∷ []) ∷ units_of (drop n xs)) next
