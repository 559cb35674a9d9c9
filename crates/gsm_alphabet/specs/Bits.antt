-- Bits on their way from one list of digits to the other: what waits, what has come out, and what is still to come.
use Rattle.std.specs.Prelude.{ℕ, ◌+◌, ◌-◌, ◌*◌, ◌^◌, List, ◌++◌, length}
use Rattle.gsm_alphabet.specs.declared.bits.Waiting.{Waiting}
use Rattle.gsm_alphabet.specs.Packing.{lowest_digits}

-- the number whose lowest bits are those that wait, and whose other bits are those of rest
abbrev pub bits_then : Waiting → ℕ → ℕ
bits_then waiting rest = waiting.bits + 2 ^ waiting.count * rest

-- these digits, and behind them those of number, up to a total
abbrev pub completed : ℕ → ℕ → List ℕ → ℕ → List ℕ
completed base total digits number = digits ++ lowest_digits base (total - length digits) number
