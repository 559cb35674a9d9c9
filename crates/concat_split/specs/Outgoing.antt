-- The user data header that goes out with a part.
use Rattle.std.specs.Prelude.{ℕ, ◌+◌, ◌-◌, ◌%◌, nat_lt, List, [], ◌∷◌, ◌++◌, if◌then◌else◌}

-- what the parts of one message share: message numbers follow each other as the parts do
abbrev pub reference : ℕ → ℕ → ℕ
reference number part = (number + 257 - part) % 256

-- the element for concatenated short messages
abbrev pub joint_element : ℕ → ℕ → ℕ → List ℕ
joint_element reference total part = 0 ∷ 3 ∷ reference ∷ total ∷ part ∷ []

-- a header with five octets of an element at its end
abbrev pub with_element : List ℕ → List ℕ → List ℕ
with_element [] added = 5 ∷ added
with_element (octets ∷ rest) added = (octets + 5) ∷ rest ++ added

-- the header that goes out
abbrev pub header_of : List ℕ → ℕ → ℕ → ℕ → List ℕ
header_of udh total part number = if nat_lt 1 total then with_element udh (joint_element (reference number part) total part) else udh
