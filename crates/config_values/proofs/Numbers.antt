-- A number of a configuration is a decimal number below 2^64.
use Rattle.std.proofs.Common.{◌≡◌, List, [], ◌∷◌, ℕ, ◌<◌, ◌≤◌, ◌^◌, length, true, arith, leb-true}
use Rattle.std.specs.List.{list_all}
use Rattle.std.specs.Char.{is_ascii_digit, digit_value}
use Rattle.std.specs.Str.Parse.{AllDigits}
use Rattle.std.proofs.lemmas.Bool.{and_parts}
use Rattle.std.proofs.lemmas.Bool.Decides.{nat_tests}
use Rattle.std.proofs.lemmas.Str.Parse.{digits_value_short, numerals_by_value, tells_digits}
use Rattle.kn_base.specs.Decimal.{IsDecimal, decimal_value}
use Rattle.config_values.specs.Values.{is_number, is_within}

digit_below : (octet : ℕ) → is_ascii_digit octet ≡ true → digit_value octet < 10
digit_below octet digit = grind (arith, nat_tests)

all_digits : (value : List ℕ) → list_all is_ascii_digit value ≡ true → AllDigits 10 value
all_digits [] all = tt
all_digits (first ∷ rest) all =
    let parts = and_parts (is_ascii_digit first) (list_all is_ascii_digit rest) all in
    (digit_below first parts.0, all_digits rest parts.1)

within_bounds : (least most number : ℕ) → is_within least most number ≡ true → (least ≤ number) × (number ≤ most)
within_bounds least most number within =
    let parts = and_parts _ _ within in
    (leb-true least number parts.0, leb-true number most parts.1)

-- what 1 to 9 digits write is read
pub number_reads : (value : List ℕ) → is_number value ≡ true → IsDecimal value × (decimal_value value ≤ 18446744073709551615)
number_reads value number =
    let parts = and_parts (is_within 1 9 (length value)) (list_all is_ascii_digit value) number in
    let bounds = within_bounds 1 9 (length value) parts.0 in
    let all = all_digits value parts.1 in
    let small : decimal_value value < 10 ^ 9 = digits_value_short (numerals_by_value (AllDigits 10) tells_digits) value 9 all bounds.1 in
    ((omega arith, omega arith, all), omega arith)
