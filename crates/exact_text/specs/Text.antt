-- How fields of text are spelled, and how they are read from left to right.
use Rattle.std.specs.Prelude.{ℕ, zero, suc, ◌+◌, ◌-◌, ◌*◌, ◌/◌, ◌%◌, Bool, ◌&&◌, not, ◌==◌, nat_lt, if◌then◌else◌, List, [], ◌∷◌, ◌++◌}
use Rattle.std.specs.List.{sum}
use Rattle.exact_octets.specs.Alphabet.{within}
use Rattle.exact_octets.specs.Reading.{Reader, both, made, given, octet_at, repeated}
use Rattle.exact_text.specs.declared.characters.Characters.{Characters}
use Rattle.exact_text.specs.declared.characters.Characters.TheVariants.{Text, Field}

-- ---- what there is

-- STX (02) begins a frame, ETX (03) ends one; a slash (2F) ends a field
abbrev pub is_of : Characters → ℕ → Bool
is_of Text octet = not (octet == 2) && not (octet == 3)
is_of Field octet = not (octet == 2) && (not (octet == 3) && not (octet == 47))

-- a number in so many decimal digits, with zeros in front
unfoldable pub decimal : ℕ → ℕ → List ℕ
decimal zero n = []
decimal (suc width) n = decimal width (n / 10) ++ (48 + n % 10) ∷ []

-- a hex digit, its letter in upper case
abbrev pub digit : ℕ → ℕ
digit n = if nat_lt n 10 then 48 + n else 55 + n

-- an octet in two of them, the high one first
abbrev pub hex_octet : ℕ → List ℕ
hex_octet octet = digit (octet / 16) ∷ digit (octet % 16) ∷ []

-- the low eight bits of a sum
abbrev pub checksum : List ℕ → ℕ
checksum octets = sum octets % 256

-- ---- how it is read

-- this octet
abbrev pub mark_at : ℕ → Reader ℕ
mark_at mark = octet_at (within mark mark)

-- a value, and the mark behind it
abbrev pub ended_at : {A : Type 0} → ℕ → Reader A → Reader A
ended_at mark read = made (λ x. x.0) (both read (λ value. mark_at mark))

-- a last digit behind a number, with which it is between two bounds: that number
abbrev pub last_at : ℕ → ℕ → ℕ → Reader ℕ
last_at least most high =
    made (λ octet. high * 10 + (octet - 48)) (octet_at (λ octet. within 48 57 octet && within least most (high * 10 + (octet - 48))))

-- a number of so many decimal digits between two bounds: the number in all of them but the last, and a digit with which it is within them
unfoldable pub decimal_at : ℕ → ℕ → ℕ → Reader ℕ
decimal_at zero least most = given 0
decimal_at (suc width) least most =
    made (λ x. x.0 * 10 + (x.1 - 48))
    (both (decimal_at width (least / 10) (most / 10)) (λ high. octet_at (λ octet. within 48 57 octet && within least most (high * 10 + (octet - 48)))))

-- so many characters
abbrev pub characters_at : Characters → ℕ → Reader (List ℕ)
characters_at characters = repeated (octet_at (is_of characters))

-- the two digits of an octet
unfoldable pub hex_octet_at : ℕ → Reader (ℕ × ℕ)
hex_octet_at octet = both (mark_at (digit (octet / 16))) (λ high. mark_at (digit (octet % 16)))
