-- Readings of a clock in memory, one after another.
use Rattle.std.proofs.Common.{◌≡◌, ℕ, zero, suc, ◌+◌, ◌-◌, ◌≤◌, min, max, List, [], ◌∷◌, length, take, slice_index, add-one, arith, sym, ap, ◌∙◌}
use Rattle.std.proofs.lemmas.List.{take_min}
use Rattle.std.proofs.Math.Seq.{take-nil}
use Rattle.kn_base.specs.Count.{last_count, next_count}
use Rattle.kn_base.specs.Readings.{clock_end, greatest, reading_at}

-- the greatest of one answer more
greatest-take-suc : (answers : List ℕ) (n : ℕ) → greatest (take (suc n) answers) ≡ max (min (slice_index answers n) (clock_end - 1)) (greatest (take n answers))
greatest-take-suc [] n = rw take-nil (omega arith)
greatest-take-suc (a ∷ rest) zero = omega arith
greatest-take-suc (a ∷ rest) (suc n) = omega (arith, greatest-take-suc rest n)

-- where the count of calls stands still, all answers were read
greatest-take-next : (answers : List ℕ) (n : ℕ) → length answers ≤ last_count → greatest (take (next_count n) answers) ≡ greatest (take (n + 1) answers)
greatest-take-next answers n few =
    let same : min (next_count n) (length answers) ≡ min (n + 1) (length answers) = omega arith in
    ap greatest (sym (take_min (next_count n) answers) ∙ ap (λ k. take k answers) same ∙ take_min (n + 1) answers)

-- a reading, from what stood before it
pub reads_next : (answers : List ℕ) (n next answer latest reading : ℕ) → length answers ≤ last_count → answer ≡ slice_index answers n
    → latest ≡ greatest (take n answers) → reading ≡ max (min answer (clock_end - 1)) latest → next ≡ next_count n
    → (reading ≡ reading_at answers n) × (reading ≡ greatest (take next answers))
reads_next answers n next answer latest reading few is so_far read made =
    let now : reading ≡ reading_at answers n = rw add-one (omega (arith, greatest-take-suc answers n)) in
    (now, now ∙ sym (greatest-take-next answers n few) ∙ ap (λ k. greatest (take k answers)) (sym made))
