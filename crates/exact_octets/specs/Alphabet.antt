-- Which octets a field may have.
use Rattle.std.specs.Prelude.{ℕ, ◌<◌, ◌≤◌, ⊤, Bool, true, nat_lt, nat_le, ◌&&◌}
use Rattle.exact_octets.specs.declared.alphabet.Alphabet.{Alphabet}
use Rattle.exact_octets.specs.declared.alphabet.Alphabet.TheVariants.{Any, Septet, Digit}

-- between two bounds, and at each of them
abbrev pub within : ℕ → ℕ → ℕ → Bool
within least most n = nat_le least n && nat_le n most

-- whether an octet is in an alphabet: any octet, a septet, a decimal digit
abbrev pub is_in : Alphabet → ℕ → Bool
is_in Any octet = true
is_in Septet octet = nat_lt octet 128
is_in Digit octet = within 48 57 octet

-- a decimal digit in ASCII
abbrev pub IsDigit : ℕ → Type 0
IsDigit octet = (48 ≤ octet) × (octet ≤ 57)

-- what an octet of an alphabet is
abbrev pub IsIn : Alphabet → ℕ → Type 0
IsIn Any octet = ⊤
IsIn Septet octet = octet < 128
IsIn Digit octet = IsDigit octet
