-- Text as UCS-2 octets: units of UTF-16, the high octet of each first (GSM 03.38 6.2.3, RFC 2781 2.1 and 3.1).
use Rattle.std.specs.Prelude.{ℕ, List, [], ◌∷◌}
use Rattle.std.specs.List.{flat_map}
use Rattle.std.specs.Int.{w16, to_be_bytes, from_be_bytes}
use Rattle.std.specs.Char.Escape.{encode_utf16}

-- the octets of a character's one or two units
unfoldable pub ucs2_of : ℕ → List ℕ
ucs2_of c = flat_map (to_be_bytes w16) (encode_utf16 c)

-- the units that pairs of octets write; an octet without a partner writes none
unfoldable pub units_of : List ℕ → List ℕ
units_of [] = []
units_of (high ∷ []) = []
units_of (high ∷ low ∷ rest) = from_be_bytes w16 (high ∷ low ∷ []) ∷ units_of rest
