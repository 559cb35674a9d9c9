-- Digits of a number in a base, the lowest first, and what packing makes of them.
use Rattle.std.proofs.Common.{◌≡◌, ℕ, zero, suc, ◌+◌, ◌-◌, ◌*◌, ◌/◌, ◌%◌, ◌^◌, ◌<◌, ◌≤◌, List, [], ◌∷◌, ◌++◌, length, All, refl, sym, ap, ◌∙◌, arith, append_assoc}
use Rattle.std.proofs.Math.Nat.{pow-suc, pow-zero, mul-le-mul_right}
use Rattle.std.proofs.lemmas.Nat.{div_below, mod_below, mod-mul-add, div-mul-add, div-add-mod'}
use Rattle.std.proofs.lemmas.List.Elements.{All-head, All-tail, All-nil, All-cons}
use Rattle.std.proofs.lemmas.List.{length_push}
use Rattle.gsm_alphabet.specs.Packing.{number_of, lowest_digits}
use Rattle.gsm_alphabet.specs.Bits.{completed}

-- so many digits were asked for
pub length-lowest_digits : (b k n : ℕ) → length (lowest_digits b k n) ≡ k
length-lowest_digits b zero n = refl
length-lowest_digits b (suc k) n = ap suc (length-lowest_digits b k (n / b))

-- the lowest digit of a number, and the number of the others
pub mod-digit : (b d m : ℕ) → d < b → (d + b * m) % b ≡ d
mod-digit b d m small = let e : d + b * m ≡ m * b + d = omega arith in ap (λ x. x % b) e ∙ mod-mul-add m b d small

pub div-digit : (b d m : ℕ) → d < b → (d + b * m) / b ≡ m
div-digit b d m small = let e : d + b * m ≡ m * b + d = omega arith in ap (λ x. x / b) e ∙ div-mul-add m b d small

pub lowest_digits-more : (b k d m : ℕ) → d < b → lowest_digits b (suc k) (d + b * m) ≡ d ∷ lowest_digits b k m
lowest_digits-more b k d m small =
    ap (λ x. x ∷ lowest_digits b k ((d + b * m) / b)) (mod-digit b d m small)
    ∙ ap (λ x. d ∷ lowest_digits b k x) (div-digit b d m small)

-- the digits of the number that digits write are these digits
pub lowest_digits-number_of : (b : ℕ) (ds : List ℕ) → All (λ d. d < b) ds → lowest_digits b (length ds) (number_of b ds) ≡ ds
lowest_digits-number_of b [] small = refl
lowest_digits-number_of b (d ∷ ds) small =
    lowest_digits-more b (length ds) d (number_of b ds) (All-head (λ x. x < b) d ds small)
    ∙ ap (λ xs. d ∷ xs) (lowest_digits-number_of b ds (All-tail (λ x. x < b) d ds small))

-- digits enough for a number write it
pub number_of-lowest_digits : (b k n : ℕ) → 0 < b → n < b ^ k → number_of b (lowest_digits b k n) ≡ n
number_of-lowest_digits b zero n pos fits = omega (arith, pow-zero b)
number_of-lowest_digits b (suc k) n pos fits =
    let below : n / b < b ^ k = div_below n b (b ^ k) pos (omega (arith, pow-suc b k)) in
    ap (λ x. n % b + b * x) (number_of-lowest_digits b k (n / b) pos below) ∙ omega (arith, div-add-mod' n b)

-- each digit is below the base
pub All-lowest_digits : (b k n : ℕ) → 0 < b → All (λ d. d < b) (lowest_digits b k n)
All-lowest_digits b zero n pos = All-nil (λ d. d < b)
All-lowest_digits b (suc k) n pos =
    All-cons (λ d. d < b) (n % b) (lowest_digits b k (n / b)) (mod_below n b pos) (All-lowest_digits b k (n / b) pos)

-- a number is below the base's power of its count of digits
pub number_of-lt : (b : ℕ) (ds : List ℕ) → All (λ d. d < b) ds → number_of b ds < b ^ length ds
number_of-lt b [] small = omega (arith, pow-zero b)
number_of-lt b (d ∷ ds) small =
    let rest : number_of b ds < b ^ length ds = number_of-lt b ds (All-tail (λ x. x < b) d ds small) in
    let more : (number_of b ds + 1) * b ≤ b ^ length ds * b = mul-le-mul_right b (omega arith) in
    let low : d < b = All-head (λ x. x < b) d ds small in
    omega (arith, pow-suc b (length ds))

-- one more digit has come out
pub completed_push : (b total : ℕ) (ds : List ℕ) (d m : ℕ) → d < b → length ds < total
    → completed b total (ds ++ d ∷ []) m ≡ completed b total ds (d + b * m)
completed_push b total ds d m small room =
    let k = total - length ds - 1 in
    let after : total - length (ds ++ d ∷ []) ≡ k = omega (arith, length_push ds d) in
    let before : total - length ds ≡ suc k = omega arith in
    append_assoc ds (d ∷ []) (lowest_digits b (total - length (ds ++ d ∷ [])) m)
    ∙ ap (λ j. ds ++ (d ∷ lowest_digits b j m)) after
    ∙ ap (λ xs. ds ++ xs) (sym (lowest_digits-more b k d m small))
    ∙ ap (λ j. ds ++ lowest_digits b j (d + b * m)) (sym before)

-- where nothing is left to come out
pub completed_full : (b total : ℕ) (ds : List ℕ) (m : ℕ) → total ≤ length ds → ds ++ [] ≡ completed b total ds m
completed_full b total ds m full = let none : 0 ≡ total - length ds = omega arith in ap (λ j. ds ++ lowest_digits b j m) none
