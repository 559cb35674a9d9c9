-- The tags of what is said unasked, one after the other.
use Rattle.std.specs.Prelude.{◌≡◌, ◌≢◌, ℕ, zero, suc, ◌+◌, ◌<◌, Option, Some, None}

-- the tag of a number, from 0, where each is the one behind the last
unfoldable pub nth_tag : (Option ℕ → ℕ) → ℕ → ℕ
nth_tag next zero = next None
nth_tag next (suc n) = next (Some (nth_tag next n))

-- what the tags of each protocol keep to
pub record AreTags (next : Option ℕ → ℕ) (count : ℕ) (holds : ℕ → Type 0) : Type 0 where
  -- each is one that a frame has room for
  pub held : (n : ℕ) → holds (nth_tag next n)
  -- one comes again only after all the others
  pub apart : (n m : ℕ) → n < m → m < n + count → nth_tag next n ≢ nth_tag next m
  -- and then it does
  pub around : (n : ℕ) → nth_tag next (n + count) ≡ nth_tag next n
