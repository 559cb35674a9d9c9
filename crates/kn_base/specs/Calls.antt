-- Calls that are numbered from 0, some of which are to fail.
use Rattle.std.specs.Prelude.{ℕ, List, Contains}
use Rattle.kn_base.specs.Count.{next_count}

-- the numbers of the calls that are to fail, and how many calls were made, which is the number of the next one
pub record Calls : Type 0 where
  pub failing : List ℕ
  pub made : ℕ

-- the next call is to fail
abbrev pub IsFailing : Calls → Type 0
IsFailing calls = Contains calls.failing calls.made

-- one call more
abbrev pub one_more : Calls → Calls
one_more calls = record calls { made = next_count calls.made }
