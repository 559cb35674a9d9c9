-- The header of an area and its units are read exactly.
use Rattle.std.proofs.Common.{◌≡◌, ℕ, ◌-◌, ◌≤◌, ◌^◌, leb, List, [], ◌∷◌, length, refl, ap, arith}
use Rattle.std.proofs.lemmas.Bool.{and_parts, and_from, leb-true, le-leb}
use Rattle.exact_octets.specs.declared.alphabet.Alphabet.TheVariants.{Any}
use Rattle.exact_octets.specs.Alphabet.{within}
use Rattle.exact_octets.specs.Numbers.{from_to}
use Rattle.exact_octets.proofs.Readers.{IsReader, ◌&◌, made_reads, reworded_reads}
use Rattle.exact_octets.proofs.Digits.{up_to_reads}
use Rattle.exact_octets.proofs.Fields.{between_reads, counted_reads}
use Rattle.exact_octets.proofs.Choices.{kind_reads}
use Rattle.store_journal.specs.Area.{magic, header, header_at, word_at, unit, unit_at, greatest, IsPayload}

word_reads : (word : List ℕ) → IsReader (λ (x : Unit {0}). Unit {0}) (λ x. word) (word_at word)
unfolding word_at
word_reads [] = record { one = (tt, tt); again = λ x rest good. refl; answers = λ octets fits. (tt, refl) }
word_reads (octet ∷ word) =
    made_reads (λ (x : ℕ × Unit {0}). tt) (between_reads octet octet (omega arith) & word_reads word)
    (record {
      there = λ p good. (tt, let same : octet ≡ p.0 = omega (arith, good.0.0, good.0.1) in ap (λ (n : ℕ). n ∷ word) same);
      back = λ x good. ((octet, tt), ((omega arith, omega arith), tt), refl, refl);
    })

-- a header, whatever birth it tells
pub header_reads : IsReader (λ birth. birth ≤ 2 ^ 64 - 1) header header_at
unfolding header_at
header_reads =
    made_reads (λ (x : Unit {0} × ℕ). x.1) (word_reads magic & up_to_reads 8 (2 ^ 64 - 1) (omega arith))
    (record { there = λ p good. (good.1, refl); back = λ birth good. ((tt, birth), (tt, good), refl, refl) })

-- a unit, whatever payload it has
pub unit_reads : IsReader IsPayload unit unit_at
unfolding unit_at
unit_reads =
    kind_reads (within 1 1) (λ payload. 1)
    (λ gate is_open. reworded_reads (counted_reads 4 (from_to 1 greatest) Any (record { some = omega arith; short = omega arith; even = λ e. cc }))
    (λ payload good. (and_from _ _ (le-leb 1 (length payload) good.0.0) (le-leb (length payload) greatest good.0.1), let parts = and_parts (leb 1 gate) (leb gate 1) is_open in omega (arith, leb-true 1 gate parts.0, leb-true gate 1 parts.1)))
    (λ payload good. let parts = and_parts (leb 1 (length payload)) (leb (length payload) greatest) good.0 in ((leb-true 1 (length payload) parts.0, leb-true (length payload) greatest parts.1, λ e. cc), λ k d lt. tt)))
    (λ payload good. refl) (0 ∷ [], refl)
