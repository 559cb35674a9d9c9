-- Where in a head octets end, as far as that says what may follow.
use Rattle.std.specs.Prelude.{◌≡◌, ℕ, List, ◌∷◌, ◌++◌, ⊤}
use Rattle.httparse.specs.Ascii.{carriage_return, colon}
use Rattle.httparse.specs.Grammar.{is_token_byte, is_uri_byte, is_value_byte, AllPass, LineEnd, print_end, print_blank}
use Rattle.http_text.specs.Head.{IsOpen}
use Rattle.http_text.specs.declared.head.place.Place.{Place}
use Rattle.http_text.specs.declared.head.place.Place.TheVariants as place

-- the octets begin empty lines (RFC 9112 2.2)
abbrev pub BeginsBlank : List ℕ → Type 0
BeginsBlank octets = (ends : List LineEnd) × (rest : List ℕ) × (octets ++ rest ≡ print_blank ends)

-- the octets begin what goes on from within a field's value to the end of its line (RFC 9112 5)
abbrev pub BeginsValue : List ℕ → Type 0
BeginsValue octets =
    (value : List ℕ) × (end : LineEnd) × (rest : List ℕ) × AllPass is_value_byte value × (octets ++ rest ≡ value ++ print_end end)

-- the octets begin what goes on from within a field's name to the end of its line
abbrev pub BeginsName : List ℕ → Type 0
BeginsName octets =
    (name : List ℕ) × (value : List ℕ) × (end : LineEnd) × (rest : List ℕ) × AllPass is_token_byte name × AllPass is_value_byte value
    × (octets ++ rest ≡ name ++ colon ∷ (value ++ print_end end))

-- more are needed than the octets, whichever of these follow them
abbrev pub StaysOpen : (List ℕ → Type 0) → List ℕ → Type 0
StaysOpen Follows octets = (more : List ℕ) → Follows more → IsOpen (octets ++ more)

-- The octets end there. Where that is known, more are needed, and still are behind octets with which what stands there goes on.
abbrev pub EndsAt : Place → List ℕ → Type 0
EndsAt place.Unknown octets = ⊤
EndsAt place.Blank octets = StaysOpen BeginsBlank octets
EndsAt place.BlankReturn octets = StaysOpen (λ more. BeginsBlank (carriage_return ∷ more)) octets
EndsAt place.Method octets = StaysOpen (AllPass is_token_byte) octets
EndsAt place.Target octets = StaysOpen (AllPass is_uri_byte) octets
EndsAt place.Version octets = IsOpen octets
EndsAt place.Line octets = IsOpen octets
EndsAt place.Name octets = StaysOpen BeginsName octets
EndsAt place.Value octets = StaysOpen BeginsValue octets
EndsAt place.ValueReturn octets = StaysOpen (λ more. BeginsValue (carriage_return ∷ more)) octets
