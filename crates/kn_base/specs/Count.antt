-- Counts of what went wrong, each a u64 that never falls.
use Rattle.std.specs.Prelude.{◌≡◌, ◌⊎◌, ℕ, ◌+◌, ◌-◌, ◌^◌, ◌≤◌, min, Bool, false}

-- the greatest count, at which a count stands still
abbrev pub last_count : ℕ
last_count = 2 ^ 64 - 1

-- the count after one more
abbrev pub next_count : ℕ → ℕ
next_count count = min (count + 1) last_count

-- a call raised the count by one at least, or it stood at its end
abbrev pub Rose : ℕ → ℕ → Type 0
Rose before now = next_count before ≤ now

-- How many calls had a fault, how many found no memory, how often nothing came in time, and whether it was answered that
-- nothing more comes.
pub record Counts : Type 0 where
  pub faults : ℕ
  pub starved : ℕ
  pub quiets : ℕ
  pub ended : Bool

-- before the first call
abbrev pub no_counts : Counts
no_counts = record { faults = 0; starved = 0; quiets = 0; ended = false }

-- No count fell.
pub record NoneFell (old new : Counts) : Type 0 where
  pub faults : old.faults ≤ new.faults
  pub starved : old.starved ≤ new.starved
  pub quiets : old.quiets ≤ new.quiets

-- A call failed: a fault or a want of memory was counted, and nothing else.
pub record CountsFailure (old new : Counts) : Type 0 where
  pub cause : Rose old.faults new.faults ⊎ Rose old.starved new.starved
  pub faults : old.faults ≤ new.faults
  pub starved : old.starved ≤ new.starved
  pub same : new ≡ record old { faults = new.faults; starved = new.starved }

-- Nothing came in time: a quiet was counted, and nothing else.
pub record CountsQuiet (old new : Counts) : Type 0 where
  pub quiets : Rose old.quiets new.quiets
  pub kept : old.quiets ≤ new.quiets
  pub same : new ≡ record old { quiets = new.quiets }
