-- The target of a request: its path and its query.
use Rattle.std.specs.Prelude.{ℕ, Bool, false, List, [], ◌∷◌, ◌==◌, if◌then◌else◌}

-- `/` and `?`
abbrev pub slash : ℕ
slash = 47

abbrev pub question_mark : ℕ
question_mark = 63

-- the target begins with `/`
abbrev pub is_path : List ℕ → Bool
is_path [] = false
is_path (octet ∷ octets) = octet == slash

-- what stands before the first `?`
abbrev pub path_of : List ℕ → List ℕ
path_of [] = []
path_of (octet ∷ octets) = if octet == question_mark then [] else octet ∷ path_of octets

-- what stands behind it, nothing where there is none
abbrev pub query_of : List ℕ → List ℕ
query_of [] = []
query_of (octet ∷ octets) = if octet == question_mark then octets else query_of octets
