-- What packed septets and unpacked octets are as numbers, and that packed septets unpack.
use Rattle.std.proofs.Common.{◌≡◌, ℕ, zero, suc, ◌+◌, ◌*◌, ◌^◌, ◌<◌, ◌≤◌, ◌-◌, List, [], ◌++◌, length, All, sym, ap, ◌∙◌, arith}
use Rattle.std.proofs.Math.Nat.{pow-zero, pow-suc, pow-le-pow_right}
use Rattle.std.proofs.lemmas.Nat.{pow-add}
use Rattle.gsm_alphabet.specs.Packing.{number_of, lowest_digits, octets_for, packed, unpacked}
use Rattle.gsm_alphabet.proofs.DigitLemmas.{lowest_digits-number_of, number_of-lowest_digits, number_of-lt, All-lowest_digits, length-lowest_digits}

-- a power of a power
pow-pow : (b j k : ℕ) → b ^ (j * k) ≡ (b ^ j) ^ k
pow-pow b j zero = ap (λ x. b ^ x) (omega arith) ∙ pow-zero b ∙ sym (pow-zero (b ^ j))
pow-pow b j (suc k) =
    let e : j * suc k ≡ j * k + j = omega arith in
    ap (λ x. b ^ x) e ∙ pow-add b (j * k) j ∙ ap (λ x. x * b ^ j) (pow-pow b j k) ∙ sym (pow-suc (b ^ j) k)

-- so many septets are numbers of seven bits for each
pub septets-lt : (xs : List ℕ) → All (λ x. x < 128) xs → number_of 128 xs < 2 ^ (7 * length xs)
septets-lt xs small =
    let bits : 2 ^ (7 * length xs) ≡ 128 ^ length xs = pow-pow 2 7 (length xs) in
    rw bits (number_of-lt 128 xs small)

-- the octets write the number of the septets
pub number_of-packed : (xs : List ℕ) → All (λ x. x < 128) xs → number_of 256 (packed xs) ≡ number_of 128 xs
unfolding packed
number_of-packed xs small =
    let k = octets_for (length xs) in
    let bits : 2 ^ (8 * k) ≡ 256 ^ k = pow-pow 2 8 k in
    let wide : 2 ^ (7 * length xs) ≤ 2 ^ (8 * k) = pow-le-pow_right {n = 2} (omega arith) {i = 7 * length xs} {j = 8 * k} (omega arith) in
    let fits = septets-lt xs small in
    number_of-lowest_digits 256 k (number_of 128 xs) (omega arith) (omega arith)

-- packed septets unpack
pub unpacked-packed : (xs : List ℕ) → All (λ x. x < 128) xs → unpacked (packed xs) (length xs) ≡ xs
unfolding unpacked
unpacked-packed xs small =
    ap (lowest_digits 128 (length xs)) (number_of-packed xs small) ∙ lowest_digits-number_of 128 xs small

-- the bits left over are 0
pub packed-lt : (xs : List ℕ) → All (λ x. x < 128) xs → number_of 256 (packed xs) < 2 ^ (7 * length xs)
packed-lt xs small = rw (number_of-packed xs small) (septets-lt xs small)

-- no digit is cut off where the number's digits are all there
pub unpacked-small : (octets : List ℕ) (count : ℕ) → All (λ x. x < 128) (unpacked octets count)
unfolding unpacked
unpacked-small octets count = All-lowest_digits 128 count (number_of 256 octets) (omega arith)

pub length-unpacked : (octets : List ℕ) (count : ℕ) → length (unpacked octets count) ≡ count
unfolding unpacked
length-unpacked octets count = length-lowest_digits 128 count (number_of 256 octets)

-- before the first septet, and before the first octet
start : (b total number : ℕ) (ds : List ℕ) (n c : ℕ) → ds ≡ [] → n ≡ 0 → c ≡ 0
    → ds ++ lowest_digits b (total - length ds) (n + 2 ^ c * number) ≡ lowest_digits b total number
start b total number ds n c none zero_bits no_bits =
    let all : total - 0 ≡ total = omega arith in
    let same : 0 + 1 * number ≡ number = omega arith in
    rw (none, zero_bits, no_bits) (ap (λ k. lowest_digits b k (0 + 1 * number)) all ∙ ap (lowest_digits b total) same)

pub packed_start : (xs octets : List ℕ) (n c : ℕ) → octets ≡ [] → n ≡ 0 → c ≡ 0
    → octets ++ lowest_digits 256 (octets_for (length xs) - length octets) (n + 2 ^ c * number_of 128 xs) ≡ packed xs
unfolding packed
packed_start xs octets n c = start 256 (octets_for (length xs)) (number_of 128 xs) octets n c

pub unpacked_start : (octets septets : List ℕ) (count n c : ℕ) → septets ≡ [] → n ≡ 0 → c ≡ 0
    → septets ++ lowest_digits 128 (count - length septets) (n + 2 ^ c * number_of 256 octets) ≡ unpacked octets count
unfolding unpacked
unpacked_start octets septets count n c = start 128 count (number_of 256 octets) septets n c
