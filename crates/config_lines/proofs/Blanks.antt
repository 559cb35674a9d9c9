-- Blanks at the end of octets.
use Rattle.std.proofs.Common.{◌≡◌, ◌∙◌, refl, sym, ap, suc, List, [], ◌∷◌, ◌++◌, ℕ, ◌-◌, ◌<◌, length, take, drop, arith, true, false, slice_index}
use Rattle.std.proofs.Math.Seq.{split_at, drop-length}
use Rattle.config_lines.specs.Line.{is_blank, before_blanks}

-- octets end with the last of them
pub ends_with : (octets : List ℕ) → 0 < length octets → octets ≡ take (length octets - 1) octets ++ slice_index octets (length octets - 1) ∷ []
ends_with octets h =
    let e : suc (length octets - 1) ≡ length octets = omega arith in
    split_at octets (length octets - 1) 0 (omega arith)
    ∙ ap (λ rest. take (length octets - 1) octets ++ slice_index octets (length octets - 1) ∷ rest) (ap (λ n. drop n octets) e ∙ drop-length octets)

-- a blank behind octets goes
blank_behind : (octets : List ℕ) (last : ℕ) → is_blank last ≡ true → before_blanks (octets ++ last ∷ []) ≡ before_blanks octets
blank_behind [] last h = rw h refl
blank_behind (octet ∷ rest) last h = rw (blank_behind rest last h) refl

-- and nothing goes where another octet stands there
other_behind : (octets : List ℕ) (last : ℕ) → is_blank last ≡ false → before_blanks (octets ++ last ∷ []) ≡ octets ++ last ∷ []
other_behind [] last h = rw h refl
other_behind (octet ∷ []) last h = rw h refl
other_behind (octet ∷ next ∷ rest) last h = rw (other_behind (next ∷ rest) last h) refl

-- a blank at the end goes
pub blank_goes : (octets : List ℕ) → 0 < length octets → is_blank (slice_index octets (length octets - 1)) ≡ true → before_blanks octets ≡ before_blanks (take (length octets - 1) octets)
blank_goes octets some h = ap before_blanks (ends_with octets some) ∙ blank_behind (take (length octets - 1) octets) (slice_index octets (length octets - 1)) h

-- and nothing goes where another octet stands there
pub other_stays : (octets : List ℕ) → 0 < length octets → is_blank (slice_index octets (length octets - 1)) ≡ false → before_blanks octets ≡ octets
other_stays octets some h =
    ap before_blanks (ends_with octets some)
    ∙ (other_behind (take (length octets - 1) octets) (slice_index octets (length octets - 1)) h ∙ sym (ends_with octets some))
