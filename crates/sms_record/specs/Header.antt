-- The user data header of a short message (GSM 03.40 9.2.3.24).
use Rattle.std.specs.Prelude.{◌≡◌, ℕ, List, [], ◌∷◌, length, ◌⊎◌}
use Rattle.std.specs.List.{flat_map}

-- an element: what it is, and the octets of its value
pub record Element : Type 0 where
  pub id : ℕ
  pub value : List ℕ

-- the octets of an element: its id, how many octets its value has, its value
abbrev pub element : Element → List ℕ
element e = e.id ∷ length e.value ∷ e.value

-- the octets of elements, one after the other
abbrev pub elements : List Element → List ℕ
elements es = flat_map element es

-- the header of elements: how many octets follow, and they
abbrev pub header : List Element → List ℕ
header es = length (elements es) ∷ elements es

-- well-formed: the header of some elements
abbrev pub IsHeader : List ℕ → Type 0
IsHeader octets = (es : List Element) × (octets ≡ header es)

-- a message has no header or a well-formed one
abbrev pub IsHeaderOrNone : List ℕ → Type 0
IsHeaderOrNone octets = (octets ≡ []) ⊎ IsHeader octets
