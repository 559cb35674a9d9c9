-- The readings of a clock.
use Rattle.std.specs.Prelude.{◌≡◌, ℕ, List, [], ◌∷◌, ◌++◌, Option, Some, IfSome}

-- where the readings are told now, they were told before, and this one was added
abbrev pub Adds : ℕ → Option (List ℕ) → Option (List ℕ) → Type 0
Adds reading old new = IfSome new (λ now. (before : List ℕ) × (old ≡ Some before) × (now ≡ before ++ reading ∷ []))

-- the same of these readings, in their order
abbrev pub AddsAll : List ℕ → Option (List ℕ) → Option (List ℕ) → Type 0
AddsAll readings old new = IfSome new (λ now. (before : List ℕ) × (old ≡ Some before) × (now ≡ before ++ readings))
