-- How a user data header is read.
use Rattle.std.specs.Prelude.{ℕ, zero, suc, ◌+◌, Bool, ◌&&◌, not, List, [], ◌∷◌, nat_le, ◌==◌}
use Rattle.exact_octets.specs.declared.alphabet.Alphabet.TheVariants.{Any}
use Rattle.exact_octets.specs.Alphabet.{within, is_in}
use Rattle.exact_octets.specs.Reading.{Reader, both, made, given, octet_at, octets_at, filled_at}
use Rattle.sms_record.specs.Limits.{most_header}
use Rattle.sms_record.specs.Header.{Element, element, elements}

-- how many octets the value of an element may have, where so many octets are left for it and the elements behind it:
-- one octet alone is no element
abbrev pub is_value_len : ℕ → ℕ → Bool
is_value_len left len = nat_le (len + 2) left && not (len + 3 == left)

abbrev pub element_of : ℕ → List ℕ → Element
element_of id value = record { id = id; value = value }

-- an element, where so many octets are left for it and those behind it
unfoldable pub element_at : ℕ → Reader Element
element_at left =
    made (λ x. element_of x.0 x.1.1)
    (both (octet_at (is_in Any)) (λ id. both (octet_at (is_value_len left)) (λ len. octets_at Any len)))

-- elements that fill so many octets
abbrev pub elements_at : ℕ → Reader (List Element)
elements_at = filled_at element_at element

-- how many octets follow the first one: one octet alone is no element
abbrev pub is_count : ℕ → Bool
is_count count = not (count == 1)

-- a header
unfoldable pub header_at : Reader (List Element)
header_at = made (λ x. x.1) (both (octet_at is_count) elements_at)

-- ---- the header of a message, which stands behind its length

-- a header of so many octets, or none
unfoldable pub udh_of_len_at : ℕ → Reader (List ℕ)
udh_of_len_at zero = given []
udh_of_len_at (suc left) = made (λ x. x.0 ∷ elements x.1) (both (octet_at (within left left)) (λ x. elements_at left))

-- how many octets it may have: behind the first of two there would be one alone, which is no element
abbrev pub is_udh_len : ℕ → Bool
is_udh_len len = within 0 most_header len && not (len == 2)

unfoldable pub udh_at : Reader (List ℕ)
udh_at = made (λ x. x.1) (both (octet_at is_udh_len) udh_of_len_at)
