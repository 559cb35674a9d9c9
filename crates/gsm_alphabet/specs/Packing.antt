-- Septets packed into octets (GSM 03.38 6.1.2.1). The bits of the septets, lowest bit and first septet first, are the
-- bits of the octets in the same order: so both are the digits of one number, the first the lowest.
use Rattle.std.specs.Prelude.{ℕ, zero, suc, ◌+◌, ◌*◌, ◌/◌, ◌%◌, List, [], ◌∷◌, length}

-- the number that digits write in a base, the lowest digit first
abbrev pub number_of : ℕ → List ℕ → ℕ
number_of base [] = 0
number_of base (digit ∷ digits) = digit + base * number_of base digits

-- the lowest digits of a number in a base, so many of them, the lowest first
abbrev pub lowest_digits : ℕ → ℕ → ℕ → List ℕ
lowest_digits base zero number = []
lowest_digits base (suc count) number = number % base ∷ lowest_digits base count (number / base)

-- how many octets so many septets fill, the last one perhaps in part
abbrev pub octets_for : ℕ → ℕ
octets_for count = (7 * count + 7) / 8

-- the octets of septets
unfoldable pub packed : List ℕ → List ℕ
packed septets = lowest_digits 256 (octets_for (length septets)) (number_of 128 septets)

-- the first septets of octets
unfoldable pub unpacked : List ℕ → ℕ → List ℕ
unpacked octets count = lowest_digits 128 count (number_of 256 octets)
