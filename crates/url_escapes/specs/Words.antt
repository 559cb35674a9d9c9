-- The words of a text.
use Rattle.std.specs.Prelude.{ℕ, Bool, ◌||◌, ◌==◌, not, List, length, filter}
use Rattle.std.specs.List.{slice_split}

-- a space, TAB, CR or LF
abbrev pub is_blank : ℕ → Bool
is_blank octet = octet == 32 || octet == 9 || octet == 13 || octet == 10

-- there are octets
abbrev pub is_filled : List ℕ → Bool
is_filled octets = not (length octets == 0)

-- what stands between runs of blanks
abbrev pub words : List ℕ → List (List ℕ)
words text = filter is_filled (slice_split is_blank text)
