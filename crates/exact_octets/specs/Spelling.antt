-- How fields are spelled that say how long they are.
use Rattle.std.specs.Prelude.{ℕ, List, ◌∷◌, ◌++◌, length}
use Rattle.exact_octets.specs.Numbers.{number}

-- octets behind one octet that says how many they are
abbrev pub short : List ℕ → List ℕ
short octets = length octets ∷ octets

-- octets behind a number of so many octets that says how many they are
abbrev pub counted : ℕ → List ℕ → List ℕ
counted width octets = number width (length octets) ++ octets

-- the same behind a number of two octets
abbrev pub long : List ℕ → List ℕ
long octets = counted 2 octets
