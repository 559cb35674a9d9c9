-- The readings of a clock whose answers stand beforehand.
use Rattle.std.specs.Prelude.{ℕ, zero, suc, ◌+◌, ◌-◌, min, max, List, [], ◌∷◌, ◌++◌, take, Option, Some, None, nat_lt, if◌then◌else◌}
use Rattle.kn_base.specs.Count.{last_count}

-- behind the last second of a clock: 2^37 seconds from 1970 on, the year 6325
abbrev pub clock_end : ℕ
clock_end = 137438953472

-- the greatest of some answers, each of them counted for no more than the last second of a clock; 0 where there are none
abbrev pub greatest : List ℕ → ℕ
greatest [] = 0
greatest (answer ∷ answers) = max (min answer (clock_end - 1)) (greatest answers)

-- what the call of that number reads, from 0: the greatest of the answers up to its own
abbrev pub reading_at : List ℕ → ℕ → ℕ
reading_at answers call = greatest (take (call + 1) answers)

-- what the first calls read, in order
abbrev pub first_readings : List ℕ → ℕ → List ℕ
first_readings answers zero = []
first_readings answers (suc calls) = first_readings answers calls ++ reading_at answers calls ∷ []

-- what so many calls read, until the count of them stands still
abbrev pub told_readings : List ℕ → ℕ → Option (List ℕ)
told_readings answers calls = if nat_lt calls last_count then Some (first_readings answers calls) else None
