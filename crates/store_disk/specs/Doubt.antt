-- Two forms of a past in which little is in doubt.
use Rattle.std.specs.Prelude.{◌≡◌, ◌≤◌, ◌<◌, ◌+◌, ℕ, List, ◌∷◌, ◌++◌, length, take, drop}
use Rattle.std.specs.List.{AllByRecursion}
use Rattle.store_disk.specs.Story.{Past}

-- Of the first n octets of an area none is in doubt: all that was written since its last good sync lies behind them.
pub record IsFirm (n : ℕ) (past : Past) : Type 0 where
  pub behind : AllByRecursion (λ range. n ≤ range.0) past.ranges
  pub least : n ≤ past.least
  pub settled : n ≤ length past.settled
  pub within : n ≤ length past.octets
  pub front : take n past.octets ≡ take n past.settled

-- octets that are these but for the one at a place
abbrev pub IsButFor : ℕ → List ℕ → List ℕ → Type 0
IsButFor place settled octets = (gate : ℕ) × (octets ≡ take place settled ++ gate ∷ drop (place + 1) settled)

-- Of an area nothing but the octet at one place is in doubt: nothing else was written since its last good sync.
pub record IsGate (place : ℕ) (past : Past) : Type 0 where
  pub inside : place < length past.settled
  pub alone : AllByRecursion (λ range. (range.0 ≡ place) × (range.1 ≡ 1)) past.ranges
  pub least : past.least ≡ length past.settled
  pub greatest : past.greatest ≡ length past.settled
  pub reads : IsButFor place past.settled past.octets
