use Rattle.std.proofs.Common.{◌≡◌, take}
use Rattle.std.specs.Str.Parse.{AllDigits, digits_value}
use Rattle.kn_base.proofs.decimal.read_decimal.Given as goal

-- the digits so far, and what they write
abbrev pub invariant-loop-octet : goal.invariant-loop-octet
invariant-loop-octet l = AllDigits 10 (take l.octet-index l.text) × (l.value ≡ digits_value 10 (take l.octet-index l.text))
