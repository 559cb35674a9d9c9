-- A template with its escapes by their rows.
use Rattle.std.specs.Prelude.{ℕ, ◌==◌, List, [], ◌∷◌, ◌++◌, drop, Option, Some, None, if◌then◌else◌}
use Rattle.url_escapes.specs.Escape.{escape_of}
use Rattle.url_escapes.specs.Style.{styled}
use Rattle.url_escapes.specs.Value.{value, left_by}
use Rattle.url_escapes.specs.declared.escape.Escape.{Escape}
use Rattle.url_escapes.specs.declared.facts.Facts.{Facts}
use Rattle.url_escapes.specs.declared.style.Style.{Style}

-- the octet that begins an escape, %
abbrev pub percent : ℕ
percent = 37

-- a pair that isn't an escape: %% is %, and any other stays
abbrev pub kept : (letter : ℕ) → List ℕ
kept letter = if letter == percent then percent ∷ [] else percent ∷ letter ∷ []

-- what stands in the place of a pair
abbrev pub pair_text : Facts → Style → (unused : List (List ℕ)) → (letter : ℕ) → List ℕ
pair_text facts style unused letter = text_of (escape_of letter)
  where
    text_of : Option Escape → List ℕ
    text_of None = kept letter
    text_of (Some escape) = styled style (value facts unused escape)

-- the words that are left behind it
abbrev pub left_by_pair : (unused : List (List ℕ)) → (letter : ℕ) → List (List ℕ)
left_by_pair unused letter = left_of (escape_of letter)
  where
    left_of : Option Escape → List (List ℕ)
    left_of None = unused
    left_of (Some escape) = left_by unused escape

-- a template, where unused are the words behind the first that weren't used so far
abbrev pub expanded_with : Facts → Style → (unused : List (List ℕ)) → (template : List ℕ) → List ℕ
expanded_with facts style unused [] = []
expanded_with facts style unused (octet ∷ []) = octet ∷ []
expanded_with facts style unused (octet ∷ letter ∷ rest) =
    if octet == percent
    then pair_text facts style unused letter ++ expanded_with facts style (left_by_pair unused letter) rest
    else octet ∷ expanded_with facts style unused (letter ∷ rest)

-- a template
abbrev pub expanded : (template : List ℕ) → Facts → Style → List ℕ
expanded template facts style = expanded_with facts style (drop 1 facts.words) template
