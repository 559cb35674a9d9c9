-- How many messages each link has in flight, as it changes.
use Rattle.std.specs.Prelude.{ℕ, ◌+◌, ◌-◌, List, Option, Some, None, slice_index, slice_set}

-- a link has one message more
abbrev pub raised : (link : ℕ) → List ℕ → List ℕ
raised link flight = slice_set flight link (slice_index flight link + 1)

-- a link, where there is one, has one message less
abbrev pub lowered : Option ℕ → List ℕ → List ℕ
lowered None flight = flight
lowered (Some link) flight = slice_set flight link (slice_index flight link - 1)
