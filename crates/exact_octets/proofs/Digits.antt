-- Numbers are read exactly, in any number of octets.
use Rattle.std.proofs.Common.{◌≡◌, ℕ, zero, suc, ◌+◌, ◌-◌, ◌*◌, ◌/◌, ◌%◌, ◌^◌, ◌<◌, ◌≤◌, max, Bool, true, false, eqb, List, [], ◌∷◌, ◌++◌, Ok, refl, sym, ap, ◌∙◌, arith}
use Rattle.std.specs.Prelude.{◌||◌, not}
use Rattle.std.specs.Int.{byte_at}
use Rattle.std.proofs.lemmas.Bool.{eqb-true, eq-eqb}
use Rattle.std.proofs.Math.Nat.{div-div-eq-div-mul, pow-suc, pow-succ'}
use Rattle.exact_octets.specs.declared.number.Numbers.{Numbers}
use Rattle.exact_octets.specs.Alphabet.{within}
use Rattle.exact_octets.specs.Numbers.{from_to, is_among, IsAmong, high_of, number}
use Rattle.exact_octets.specs.Reading.{both, made, octet_at, number_at}
use Rattle.exact_octets.proofs.Readers.{IsReader, then_reads, made_reads, octet_reads, given_reads, renamed_reads, reworded_reads}
use Rattle.exact_octets.proofs.Tests.{and_true, both_true, Between, within_means, within_tests}

-- ---- the test

even_means : (even : Bool) (n : ℕ) → (not even || eqb (n % 2) 0) ≡ true → even ≡ true → n % 2 ≡ 0
even_means true n e h = eqb-true (n % 2) 0 e
even_means false n e h = absurd cc

even_tests : (even : Bool) (n : ℕ) → (even ≡ true → n % 2 ≡ 0) → (not even || eqb (n % 2) 0) ≡ true
even_tests true n h = eq-eqb (n % 2) 0 (h refl)
even_tests false n h = refl

among_means : (numbers : Numbers) (n : ℕ) → is_among numbers n ≡ true → IsAmong numbers n
among_means numbers n e =
    let t = and_true (within numbers.least numbers.most n) (not numbers.even || eqb (n % 2) 0) e in
    let w = within_means numbers.least numbers.most n t.0 in
    (w.0, w.1, even_means numbers.even n t.1)

among_tests : (numbers : Numbers) (n : ℕ) → IsAmong numbers n → is_among numbers n ≡ true
among_tests numbers n good = both_true (within numbers.least numbers.most n) (not numbers.even || eqb (n % 2) 0) (within_tests numbers.least numbers.most n (good.0, good.1)) (even_tests numbers.even n good.2)

-- ---- the spelling: the number without its last octet, and that octet

byte_at-suc : (i n : ℕ) → byte_at (suc i) n ≡ byte_at i (n / 256)
byte_at-suc zero n = refl
byte_at-suc (suc i) n = ap (λ (d : ℕ). n / d % 256) (pow-succ' 256 (suc i)) ∙ ap (λ (q : ℕ). q % 256) (sym (div-div-eq-div-mul n 256 (256 ^ suc i)))

number-suc : (width n : ℕ) → number (suc width) n ≡ number width (n / 256) ++ n % 256 ∷ []
number-suc zero n = refl
number-suc (suc width) n = ap (λ (b : ℕ). b ∷ number (suc width) n) (byte_at-suc width n) ∙ ap (λ (t : List ℕ). byte_at width (n / 256) ∷ t) (number-suc width n)

number-joined : (width high low : ℕ) → low < 256 → number (suc width) (high * 256 + low) ≡ number width high ++ low ∷ []
number-joined width high low lt =
    let h : (high * 256 + low) / 256 ≡ high = omega arith in
    let l : (high * 256 + low) % 256 ≡ low = omega arith in
    number-suc width (high * 256 + low) ∙ ap (λ (n : ℕ). number width n ++ (high * 256 + low) % 256 ∷ []) h ∙ ap (λ (n : ℕ). number width high ++ n ∷ []) l

-- ---- the law

-- there are such numbers, and they have so many octets
pub record Fit (width : ℕ) (numbers : Numbers) : Type 0 where
  pub some : numbers.least ≤ numbers.most
  pub short : numbers.most < 256 ^ width
  pub even : numbers.even ≡ true → numbers.least % 2 ≡ 0

fit_high : (width : ℕ) (numbers : Numbers) → Fit (suc width) numbers → Fit width (high_of numbers)
fit_high width numbers fit =
    let all : numbers.most < 256 ^ width * 256 = rw pow-suc at fit.short in
    record { some = omega (arith, fit.some); short = omega (arith, all); even = λ e. cc }

-- a last octet behind the others
abbrev Low : Numbers → ℕ → ℕ → Type 0
Low numbers high low = (low < 256) × IsAmong numbers (high * 256 + low)

low_example : (numbers : Numbers) (high : ℕ) → (numbers.least ≤ numbers.most) → (numbers.even ≡ true → numbers.least % 2 ≡ 0) → IsAmong (high_of numbers) high → (low : ℕ) × Low numbers high low
low_example numbers high some even good =
    let within : (numbers.least / 256 ≤ high) × (high ≤ numbers.most / 256) = (good.0, good.1) in
    (max numbers.least (high * 256) - high * 256, (omega (arith, within.0, within.1), (omega arith, omega (arith, some, within.0, within.1), λ e. let z : numbers.least % 2 ≡ 0 = even e in omega arith)))

low_reads : (numbers : Numbers) (high : ℕ) → numbers.least ≤ numbers.most → (numbers.even ≡ true → numbers.least % 2 ≡ 0) → IsAmong (high_of numbers) high
    → IsReader (Low numbers high) (λ x. x ∷ []) (octet_at (λ low. is_among numbers (high * 256 + low)))
low_reads numbers high some even good =
    octet_reads (λ low. is_among numbers (high * 256 + low)) (Low numbers high)
    (λ x below e. (below, among_means numbers (high * 256 + x) e))
    (λ x good. among_tests numbers (high * 256 + x) good.1)
    (low_example numbers high some even good)

-- a number of so many octets is read exactly
pub number_reads : (width : ℕ) (numbers : Numbers) → Fit width numbers → IsReader (IsAmong numbers) (number width) (number_at width numbers)
unfolding number_at
number_reads zero numbers fit =
    let zeros : (numbers.least ≡ 0) × (numbers.most ≡ 0) = (omega (arith, fit.some, fit.short), omega (arith, fit.short)) in
    renamed_reads (given_reads 0)
    (λ n e. (omega (arith, zeros.0), omega (arith, e), λ h. ap (λ (m : ℕ). m % 2) e))
    (λ n good. omega (arith, good.1, zeros.1))
    (λ n e. refl)
number_reads (suc width) numbers fit =
    made_reads (λ (x : ℕ × ℕ). x.0 * 256 + x.1)
    (then_reads (number_reads width (high_of numbers) (fit_high width numbers fit)) (λ high good. low_reads numbers high fit.some fit.even good))
    (record {
      there = λ p good. (good.1.1, number-joined width p.0 p.1 good.1.0);
      back = λ n good.
          let whole : n / 256 * 256 + n % 256 ≡ n = omega arith in
          ((n / 256, n % 256), ((omega (arith, good.0), omega (arith, good.1), λ e. cc), (omega arith, (omega (arith, whole, good.0), omega (arith, whole, good.1), λ e. ap (λ (m : ℕ). m % 2) whole ∙ good.2 e))), whole, sym (number-suc width n));
    })

-- a number between two bounds
pub from_to_reads : (width least most : ℕ) → least ≤ most → most < 256 ^ width → IsReader (Between least most) (number width) (number_at width (from_to least most))
from_to_reads width least most some short =
    reworded_reads (number_reads width (from_to least most) (record { some = some; short = short; even = λ e. cc })) (λ n good. (good.0, good.1)) (λ n good. (good.0, good.1, λ e. cc))

-- a number up to another
pub up_to_reads : (width most : ℕ) → most < 256 ^ width → IsReader (λ n. n ≤ most) (number width) (number_at width (from_to 0 most))
up_to_reads width most short = reworded_reads (from_to_reads width 0 most (omega arith) short) (λ n good. good.1) (λ n good. (omega arith, good))

-- ---- for the function that reads it

pub number_none : (width : ℕ) (numbers : Numbers) (octets : List ℕ) → width ≡ 0 → number_at width numbers octets ≡ Ok (0, octets)
unfolding number_at
number_none zero numbers octets none = refl
number_none (suc width) numbers octets none = absurd (omega arith)

pub number_some : (width : ℕ) (numbers : Numbers) (octets : List ℕ) → (width ≡ 0 → ⊥)
    → number_at width numbers octets ≡ made (λ (x : ℕ × ℕ). x.0 * 256 + x.1) (both (number_at (width - 1) (high_of numbers)) (λ high. octet_at (λ low. is_among numbers (high * 256 + low)))) octets
unfolding number_at
number_some zero numbers octets some = absurd (some refl)
number_some (suc width) numbers octets some =
    let e : suc width - 1 ≡ width = omega arith in
    rw e refl
