-- Decimal digits, one after another.
use Rattle.std.proofs.Common.{◌≡◌, ℕ, zero, suc, ◌+◌, ◌*◌, ◌^◌, ◌<◌, ◌≤◌, List, [], ◌∷◌, length, get_or, take, arith}
use Rattle.std.specs.Char.{digit_value}
use Rattle.std.specs.Str.Parse.{AllDigits, digits_value}
use Rattle.std.proofs.lemmas.Int.Digits.{digits_value_more, digits_more}
use Rattle.std.proofs.lemmas.Str.Parse.{digits_value-take-le}
use Rattle.kn_base.specs.Decimal.{IsDecimal, decimal_value}

-- each octet of a numeral is a digit
digit_at : (text : List ℕ) (i : ℕ) → AllDigits 10 text → i < length text → digit_value (get_or text i 0) < 10
digit_at [] i all within = absurd (omega arith)
digit_at (c ∷ cs) zero all within = all.0
digit_at (c ∷ cs) (suc i) all within = digit_at cs i all.1 (omega arith)

-- where the next octet is no digit, or makes the number too large, the whole text writes no number up to a u64
pub no_number : (text : List ℕ) (i value most : ℕ) → i < length text → value ≡ digits_value 10 (take i text) → most < 2 ^ 64
    → ((digit_value (get_or text i 0) < 10) × (value * 10 + digit_value (get_or text i 0) < 2 ^ 64) → ⊥)
    → IsDecimal text × (decimal_value text ≤ most) → ⊥
no_number text i value most within so_far small stops number =
    let more = digits_value_more 10 text i within in
    let front = digits_value-take-le 10 text (i + 1) (omega arith) in
    stops (digit_at text i number.0.2 within, omega (arith, more, front, so_far, number.1, small))

-- one digit more
pub one_more : (text : List ℕ) (i value : ℕ) → i < length text → AllDigits 10 (take i text) → value ≡ digits_value 10 (take i text)
    → digit_value (get_or text i 0) < 10
    → AllDigits 10 (take (i + 1) text) × (value * 10 + digit_value (get_or text i 0) ≡ digits_value 10 (take (i + 1) text))
one_more text i value within all so_far digit =
    (digits_more 10 text i within all digit, omega (arith, digits_value_more 10 text i within, so_far))
