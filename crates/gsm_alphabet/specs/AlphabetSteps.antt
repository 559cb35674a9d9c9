-- How the code's tables write septets, and what one septet of a text shows.
use Rattle.std.specs.Prelude.{ℕ, ◌-◌, ◌==◌, nat_lt, Bool, List, [], ◌∷◌, if◌then◌else◌}
use Rattle.gsm_alphabet.specs.Alphabet.{escape, plain_character, extended_character}

-- the septets of a code: a septet below 128, or 128 more than one that stands behind the escape
abbrev pub septets_of_code : ℕ → List ℕ
septets_of_code code = if nat_lt code 0x80 then code ∷ [] else escape ∷ (code - 0x80) ∷ []

-- the characters that a septet shows, behind an escape or not: an escape alone shows none yet
abbrev pub shown : Bool → ℕ → List ℕ
shown behind septet = if behind then extended_character septet ∷ [] else (if septet == escape then [] else plain_character septet ∷ [])
