-- The sequence numbers of what is said unasked (SMPP 3.4, 5.1.4): 1 to 7FFFFFFF, and then 1 again.
use Rattle.std.specs.Prelude.{ℕ, ◌+◌, nat_lt, Option, Some, None, if◌then◌else◌}

abbrev pub last_tag : ℕ
last_tag = 0x7FFFFFFF

unfoldable pub next_tag : Option ℕ → ℕ
next_tag None = 1
next_tag (Some tag) = if nat_lt tag last_tag then tag + 1 else 1
