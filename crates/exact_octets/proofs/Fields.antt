-- The fields that formats are made of are read exactly.
use Rattle.std.proofs.Common.{◌≡◌, ℕ, ◌^◌, ◌<◌, ◌≤◌, List, [], ◌∷◌, ◌++◌, length, All, refl, sym, ap, subst, arith}
use Rattle.std.specs.List.{flat_map}
use Rattle.std.proofs.lemmas.List.Elements.{All-from_recursion, recursion_from_All}
use Rattle.exact_octets.specs.declared.alphabet.Alphabet.{Alphabet}
use Rattle.exact_octets.specs.declared.alphabet.Alphabet.TheVariants.{Any, Septet, Digit}
use Rattle.exact_octets.specs.declared.number.Numbers.{Numbers}
use Rattle.exact_octets.specs.Alphabet.{within, is_in, IsIn}
use Rattle.exact_octets.specs.Numbers.{from_to, IsAmong, number}
use Rattle.exact_octets.specs.Spelling.{short, counted}
use Rattle.exact_octets.specs.Reading.{octet_at, octets_at, short_at, counted_at}
use Rattle.exact_octets.proofs.Readers.{IsReader, then_reads, made_reads, octet_reads, repeated_reads, renamed_reads, reworded_reads}
use Rattle.exact_octets.proofs.Tests.{Between, within_means, within_tests, is_in_means, is_in_tests}
use Rattle.exact_octets.proofs.Digits.{Fit, number_reads}

-- one octet between two bounds
pub between_reads : (least most : ℕ) → least ≤ most → IsReader (Between least most) (λ x. x ∷ []) (octet_at (within least most))
between_reads least most le = octet_reads (within least most) (Between least most) (λ x fits e. within_means least most x e) (within_tests least most) (least, (omega arith, le))

-- ---- so many octets of an alphabet

example : (alphabet : Alphabet) → (x : ℕ) × IsIn alphabet x
example Any = (0, tt)
example Septet = (0, omega arith)
example Digit = (48, (omega arith, omega arith))

-- one octet of an alphabet
pub letter_reads : (alphabet : Alphabet) → IsReader (IsIn alphabet) (λ x. x ∷ []) (octet_at (is_in alphabet))
letter_reads alphabet = octet_reads (is_in alphabet) (IsIn alphabet) (λ x fits e. is_in_means alphabet x e) (is_in_tests alphabet) (example alphabet)

singles : (xs : List ℕ) → flat_map (λ (x : ℕ). x ∷ []) xs ≡ xs
singles [] = refl
singles (x ∷ xs) = ap (λ (t : List ℕ). x ∷ t) (singles xs)

-- so many octets of an alphabet
abbrev pub Text : Alphabet → ℕ → List ℕ → Type 0
Text alphabet n xs = (length xs ≡ n) × All (IsIn alphabet) xs

pub text_reads : (alphabet : Alphabet) (n : ℕ) → IsReader (Text alphabet n) (λ xs. xs) (octets_at alphabet n)
text_reads alphabet n =
    renamed_reads (repeated_reads (letter_reads alphabet) n)
    (λ xs good. (good.0, All-from_recursion (IsIn alphabet) xs good.1))
    (λ xs good. (good.0, recursion_from_All (IsIn alphabet) xs good.1))
    (λ xs good. singles xs)

-- ---- octets behind their number

pub short_reads : (least most : ℕ) (alphabet : Alphabet) → least ≤ most → IsReader (λ xs. Between least most (length xs) × All (IsIn alphabet) xs) short (short_at least most alphabet)
unfolding short_at
short_reads least most alphabet le =
    made_reads (λ (x : ℕ × List ℕ). x.1) (then_reads (between_reads least most le) (λ n good. text_reads alphabet n))
    (record {
      there = λ p good. (((omega (arith, good.1.0, good.0.0), omega (arith, good.1.0, good.0.1)), good.1.1), ap (λ (n : ℕ). n ∷ p.1) good.1.0);
      back = λ xs good. ((length xs, xs), (good.0, (refl, good.1)), refl, refl);
    })

pub counted_reads : (width : ℕ) (numbers : Numbers) (alphabet : Alphabet) → Fit width numbers → IsReader (λ xs. IsAmong numbers (length xs) × All (IsIn alphabet) xs) (counted width) (counted_at width numbers alphabet)
unfolding counted_at
counted_reads width numbers alphabet fit =
    made_reads (λ (x : ℕ × List ℕ). x.1) (then_reads (number_reads width numbers fit) (λ n good. text_reads alphabet n))
    (record {
      there = λ p good. ((subst (IsAmong numbers) (sym good.1.0) good.0, good.1.1), ap (λ (n : ℕ). number width n ++ p.1) good.1.0);
      back = λ xs good. ((length xs, xs), (good.0, (refl, good.1)), refl, refl);
    })

-- at most so many octets of any kind, behind an octet that counts them
pub octets_reads : (most : ℕ) → IsReader (λ xs. length xs ≤ most) short (short_at 0 most Any)
octets_reads most = reworded_reads (short_reads 0 most Any (omega arith)) (λ xs good. good.0.1) (λ xs good. ((omega arith, good), λ k d lt. tt))

-- the same behind a number of so many octets
pub counted_octets_reads : (width most : ℕ) → most < 256 ^ width → IsReader (λ xs. length xs ≤ most) (counted width) (counted_at width (from_to 0 most) Any)
counted_octets_reads width most lt =
    reworded_reads (counted_reads width (from_to 0 most) Any (record { some = omega arith; short = lt; even = λ e. cc })) (λ xs good. good.0.1) (λ xs good. ((omega arith, good, λ e. cc), λ k d lt. tt))
