-- What the tests of octets mean.
use Rattle.std.proofs.Common.{◌≡◌, ℕ, ◌≤◌, Bool, true, false, leb, refl}
use Rattle.std.specs.Prelude.{◌&&◌}
use Rattle.std.proofs.lemmas.Bool.{leb-true, le-leb, ltb-true, lt-ltb}
use Rattle.exact_octets.specs.declared.alphabet.Alphabet.{Alphabet}
use Rattle.exact_octets.specs.declared.alphabet.Alphabet.TheVariants.{Any, Septet, Digit}
use Rattle.exact_octets.specs.Alphabet.{within, is_in, IsIn}

pub and_true : (a b : Bool) → (a && b) ≡ true → (a ≡ true) × (b ≡ true)
and_true true b e = (refl, e)
and_true false b e = absurd cc

pub both_true : (a b : Bool) → a ≡ true → b ≡ true → (a && b) ≡ true
both_true a b p q = rw (p, q) refl

-- between two bounds
abbrev pub Between : ℕ → ℕ → ℕ → Type 0
Between least most x = (least ≤ x) × (x ≤ most)

pub within_means : (least most x : ℕ) → within least most x ≡ true → Between least most x
within_means least most x e =
    let t = and_true (leb least x) (leb x most) e in
    (leb-true least x t.0, leb-true x most t.1)

pub within_tests : (least most x : ℕ) → Between least most x → within least most x ≡ true
within_tests least most x good = both_true (leb least x) (leb x most) (le-leb least x good.0) (le-leb x most good.1)

pub is_in_means : (alphabet : Alphabet) (x : ℕ) → is_in alphabet x ≡ true → IsIn alphabet x
is_in_means Any x e = tt
is_in_means Septet x e = ltb-true x 128 e
is_in_means Digit x e = within_means 48 57 x e

pub is_in_tests : (alphabet : Alphabet) (x : ℕ) → IsIn alphabet x → is_in alphabet x ≡ true
is_in_tests Any x good = refl
is_in_tests Septet x good = lt-ltb x 128 good
is_in_tests Digit x good = within_tests 48 57 x good
