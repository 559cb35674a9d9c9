-- Numbers in decimal digits.
use Rattle.std.specs.Prelude.{ℕ, ◌<◌, ◌≤◌, List, length}
use Rattle.std.specs.Str.Parse.{AllDigits, digits_value}

-- 1 to 20 decimal digits, and nothing else
abbrev pub IsDecimal : List ℕ → Type 0
IsDecimal text = (0 < length text) × (length text ≤ 20) × AllDigits 10 text

-- the number that decimal digits write
abbrev pub decimal_value : List ℕ → ℕ
decimal_value text = digits_value 10 text
