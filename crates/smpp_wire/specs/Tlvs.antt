-- What is looked up in optional parameters.
use Rattle.std.specs.Prelude.{◌≡◌, ℕ, List, [], ◌∷◌, Option, Some, None, ◌==◌, if◌then◌else◌, MatchOption}
use Rattle.std.specs.Borrow.{Bor}
use Rattle.smpp_wire.specs.Grammar.{Tlv}

-- the value of the first parameter with a tag
abbrev pub first_value : ℕ → List Tlv → Option (List ℕ)
first_value tag [] = None
first_value tag (t ∷ ts) = if t.tag == tag then Some t.value else first_value tag ts

-- what is borrowed is this value, or nothing where there is none
abbrev pub IsValue : Option (List ℕ) → Option (Bor (List ℕ)) → Type 0
IsValue value result = MatchOption result (value ≡ None) (λ octets. value ≡ Some octets.now)
