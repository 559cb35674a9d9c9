-- How long a message is worth sending.
use Rattle.std.specs.Prelude.{ℕ, ◌+◌, ◌-◌, ◌*◌, ◌/◌, max}

-- the minutes that are left at a reading of the clock, begun ones counted whole, and one at least
abbrev pub minutes_left : (time validity now : ℕ) → ℕ
minutes_left time validity now = max 1 ((time + 60 * validity - now + 59) / 60)
