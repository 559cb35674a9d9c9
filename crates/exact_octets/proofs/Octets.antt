-- Reading so many octets of an alphabet: what it gives by the first octet that is outside.
use Rattle.std.proofs.Common.{◌≡◌, ℕ, zero, suc, ◌-◌, ◌<◌, ◌≤◌, Bool, true, false, List, [], ◌∷◌, length, take, drop, get_or, Result, Ok, Err, refl, ap, arith}
use Rattle.exact_octets.specs.declared.read_fault.ReadFault.{ReadFault}
use Rattle.exact_octets.specs.declared.read_fault.ReadFault.TheVariants as faults
use Rattle.exact_octets.specs.Reading.{octet_at, repeated}

-- all are there, and allowed
pub all_allowed : (allowed : ℕ → Bool) (n : ℕ) (octets : List ℕ) → n ≤ length octets → ((k : ℕ) → k < n → allowed (get_or octets k 0) ≡ true) → repeated (octet_at allowed) n octets ≡ Ok (take n octets, drop n octets)
unfolding repeated
all_allowed allowed zero octets le each = refl
all_allowed allowed (suc n) [] le each = absurd (omega arith)
all_allowed allowed (suc n) (octet ∷ rest) le each =
    let here : allowed octet ≡ true = each 0 (omega arith) in
    rw (here, all_allowed allowed n rest (omega arith) (λ k lt. each (suc k) (omega arith))) refl

-- fewer are there, and they are allowed
pub too_few : (allowed : ℕ → Bool) (n : ℕ) (octets : List ℕ) → length octets < n → ((k : ℕ) → k < length octets → allowed (get_or octets k 0) ≡ true) → repeated (octet_at allowed) n octets ≡ Err faults.Short
unfolding repeated
too_few allowed zero octets le each = absurd (omega arith)
too_few allowed (suc n) [] le each = refl
too_few allowed (suc n) (octet ∷ rest) le each =
    let here : allowed octet ≡ true = each 0 (omega arith) in
    rw (here, too_few allowed n rest (omega arith) (λ k lt. each (suc k) (omega arith))) refl

abbrev wrong_at : ℕ → Result (List ℕ × List ℕ) ReadFault
wrong_at left = Err (faults.Malformed left)

-- the first that isn't allowed
pub not_allowed : (allowed : ℕ → Bool) (n : ℕ) (octets : List ℕ) (i : ℕ) → i < n → i < length octets → ((k : ℕ) → k < i → allowed (get_or octets k 0) ≡ true) → allowed (get_or octets i 0) ≡ false
    → repeated (octet_at allowed) n octets ≡ Err (faults.Malformed (length octets - i))
unfolding repeated
not_allowed allowed zero octets i lt lt' each wrong = absurd (omega arith)
not_allowed allowed (suc n) [] i lt lt' each wrong = absurd (omega arith)
not_allowed allowed (suc n) (octet ∷ rest) zero lt lt' each wrong =
    let all : suc (length rest) ≡ suc (length rest) - 0 = omega arith in
    rw wrong (ap wrong_at all)
not_allowed allowed (suc n) (octet ∷ rest) (suc i) lt lt' each wrong =
    let here : allowed octet ≡ true = each 0 (omega arith) in
    let left : length rest - i ≡ suc (length rest) - suc i = omega arith in
    rw (here, not_allowed allowed n rest i (omega arith) (omega arith) (λ k lt. each (suc k) (omega arith)) wrong) (ap wrong_at left)
