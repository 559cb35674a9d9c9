-- The names and values of a query.
use Rattle.std.specs.Prelude.{ℕ, Bool, List, [], map, bytes_eq}
use Rattle.std.specs.List.{find}
use Rattle.std.specs.Option.{option_map_or}
use Rattle.form_urlencoded.specs.Form.{raw_pairs, decode}
use Rattle.sendsms_form.specs.declared.pairs.Pair.{Pair}

-- a name and a value as the octets that they stand for: `+` is a space, an escape is its octet, any other `%` stays (URL Standard 5.1)
abbrev pub decoded : List ℕ × List ℕ → Pair
decoded (name, value) = record { name = decode name; value = decode value }

-- the names and values of a query, in their order
abbrev pub pairs : List ℕ → List Pair
pairs query = map decoded (raw_pairs query)

-- the pair has this name
abbrev pub is_named : List ℕ → Pair → Bool
is_named name pair = bytes_eq pair.name name

-- the first value under a name, nothing where there is none
abbrev pub value : List ℕ → List Pair → List ℕ
value name given = option_map_or (λ pair. pair.value) (find (is_named name) given) []
