-- Pairs of a number and a value in the order of their numbers, as a table keeps them: what is changed in them.
use Rattle.std.specs.Prelude.{ℕ, ◌+◌, ◌<◌, ◌≤◌, ◌==◌, List, [], ◌∷◌, map, Bool, is_some, IsSome, if◌then◌else◌, ⊤}
pub use Rattle.numbered_table.specs.Pairs.{value_under, without, AllBelow, IsAscending}

-- whether there is a value under this number
abbrev pub is_held : {T : Type 0} → (number : ℕ) → List (ℕ × T) → Bool
is_held number pairs = is_some (value_under number pairs)

-- there is
abbrev pub Has : {T : Type 0} → List (ℕ × T) → (number : ℕ) → Type 0
Has pairs number = IsSome (value_under number pairs)

-- the value under a number is changed
abbrev pub with_change : {T : Type 0} → (number : ℕ) → (T → T) → List (ℕ × T) → List (ℕ × T)
with_change number change pairs = map (λ pair. if pair.0 == number then (pair.0, change pair.1) else pair) pairs

-- each value is changed
abbrev pub with_changes : {T : Type 0} → (T → T) → List (ℕ × T) → List (ℕ × T)
with_changes change pairs = map (λ pair. (pair.0, change pair.1)) pairs

-- values under the numbers from this one on
abbrev pub numbered_from : {T : Type 0} → (first : ℕ) → List T → List (ℕ × T)
numbered_from first [] = []
numbered_from first (value ∷ values) = (first, value) ∷ numbered_from (first + 1) values

-- the numbers rise from the first of these on, and stay below the second
abbrev pub Rise : {T : Type 0} → (from below : ℕ) → List (ℕ × T) → Type 0
Rise from below [] = ⊤
Rise from below (pair ∷ pairs) = (from ≤ pair.0) × (pair.0 < below) × Rise (pair.0 + 1) below pairs
