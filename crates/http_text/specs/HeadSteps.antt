-- What a field announces, and how the lines of a head that isn't whole yet are counted. No public clause cites these.
use Rattle.std.specs.Prelude.{ℕ, ◌+◌, suc, zero, Bool, false, not, List, [], ◌∷◌, ◌==◌, if◌then◌else◌}
use Rattle.httparse.specs.Ascii.{line_feed}
use Rattle.httparse.specs.Pieces.{is_newline}
use Rattle.http_text.specs.declared.head.fields.Sign.{Sign}
use Rattle.http_text.specs.declared.head.fields.Sign.TheVariants.{Close, Body}
use Rattle.http_text.specs.Head.{line_limit, NamedValue, is_close, is_of_body}

-- the field announces it
abbrev pub is_in : Sign → NamedValue → Bool
is_in Close field = is_close field
is_in Body field = is_of_body field

-- the octets behind the empty lines at the front
abbrev pub behind_blank : List ℕ → List ℕ
behind_blank [] = []
behind_blank (b ∷ octets) = if is_newline b then behind_blank octets else b ∷ octets

-- so many lines have ended, and behind them a line has begun that isn't the empty one
abbrev pub begins_after : ℕ → List ℕ → Bool
begins_after lines [] = false
begins_after zero (b ∷ octets) = not (is_newline b)
begins_after (suc lines) (b ∷ octets) = if b == line_feed then begins_after lines octets else begins_after (suc lines) octets

-- one header line more than a head may have has begun, behind the request's line and the others
abbrev pub has_too_many_lines : List ℕ → Bool
has_too_many_lines octets = begins_after (line_limit + 1) (behind_blank octets)
