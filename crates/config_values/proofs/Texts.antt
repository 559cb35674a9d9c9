-- Octets that are UTF-8, and others.
use Rattle.std.proofs.Common.{◌≡◌, refl, ap, List, [], ◌∷◌, ℕ, ◌*◌, ◌≤◌, length, true, false, inl, inr, IsUtf8, chars, arith, length-append}
use Rattle.std.proofs.Math.Utf8.{encode, encodes}
use Rattle.std.specs.Str.{is_utf8}
use Rattle.std.proofs.lemmas.Bool.{cases_Bool}
use Rattle.std.proofs.lemmas.Str.{IsUtf8-from_is_utf8, is_utf8-from_IsUtf8, encodes-chars, length-encode, len_utf8_bounds}
use Rattle.config_values.specs.Values.{characters}

pub some_utf8 : (octets : List ℕ) → IsUtf8 octets → is_utf8 octets ≡ true
some_utf8 octets utf8 = is_utf8-from_IsUtf8 octets utf8

pub no_utf8 : (octets : List ℕ) → ¬ (IsUtf8 octets) → is_utf8 octets ≡ false
no_utf8 octets other = elim (cases_Bool (is_utf8 octets)) [ inl utf8 ↦ absurd (other (IsUtf8-from_is_utf8 octets utf8)) | inr none ↦ none ]

-- the characters of UTF-8 are counted
pub some_characters : (octets : List ℕ) → IsUtf8 octets → characters octets ≡ length (chars octets)
some_characters octets utf8 = rw (some_utf8 octets utf8) refl

-- and other octets have none
pub no_characters : (octets : List ℕ) → ¬ (IsUtf8 octets) → characters octets ≡ 0
no_characters octets other = rw (no_utf8 octets other) refl

-- a character has at most four octets (RFC 3629, section 3)
few_each : (characters : List ℕ) → length (encodes characters) ≤ 4 * length characters
few_each [] = omega arith
few_each (first ∷ rest) = omega (arith, length-append (encode first) (encodes rest), length-encode first, (len_utf8_bounds first).1, few_each rest)

pub few_octets : (octets : List ℕ) → IsUtf8 octets → length octets ≤ 4 * characters octets
few_octets octets utf8 = omega (arith, ap length (encodes-chars octets utf8), few_each (chars octets), some_characters octets utf8)
