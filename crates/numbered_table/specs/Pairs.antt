-- What a table is to its callers: a list of pairs of a number and its value.
use Rattle.std.specs.Prelude.{ℕ, ◌<◌, ◌==◌, not, ⊤, List, [], ◌∷◌, map, filter, Option, Some, None, All, if◌then◌else◌}
use Rattle.std.specs.Coded.{Coded, coded×, coded_list, coded_ℕ, code_by}
use Rattle.std.proofs.Common.{refl}

-- the pairs, and how many more surely find a place
pub record Numbered (T : Type 0) : Type 0 where
  pub pairs : List (ℕ × T)
  pub room : ℕ

abbrev pub numbered_code : {T : Type 0} → Coded T → Coded (Numbered T)
numbered_code {T} value =
    code_by (List (ℕ × T) × ℕ) (coded× (coded_list (coded× coded_ℕ value)) coded_ℕ) (λ table. (table.pairs, table.room)) (λ parts. record { pairs = parts.0; room = parts.1 }) (λ _. refl)

module _ {T : Type 0} where
  -- the value under a number
  abbrev pub value_under : ℕ → List (ℕ × T) → Option T
  value_under number [] = None
  value_under number (pair ∷ pairs) = if pair.0 == number then Some pair.1 else value_under number pairs

  -- the pairs under every other number
  abbrev pub without : ℕ → List (ℕ × T) → List (ℕ × T)
  without number pairs = filter (λ pair. not (pair.0 == number)) pairs

  -- the pairs, with this value under a number that is there
  abbrev pub with_value : ℕ → T → List (ℕ × T) → List (ℕ × T)
  with_value number value pairs = map (λ pair. if pair.0 == number then (number, value) else pair) pairs

  -- each number is below this one
  abbrev pub AllBelow : ℕ → List (ℕ × T) → Type 0
  AllBelow number pairs = All (λ pair. pair.0 < number) pairs

  -- each number is below those behind it
  abbrev pub IsAscending : List (ℕ × T) → Type 0
  IsAscending [] = ⊤
  IsAscending (pair ∷ pairs) = All (λ later. pair.0 < later.0) pairs × IsAscending pairs
