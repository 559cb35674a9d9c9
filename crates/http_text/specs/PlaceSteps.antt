-- How the place where octets end goes on with one octet more. No public clause cites these.
use Rattle.std.specs.Prelude.{ℕ, Bool, false, ◌||◌, List, [], ◌∷◌, ◌==◌, if◌then◌else◌}
use Rattle.httparse.specs.Ascii.{line_feed, carriage_return, space, colon}
use Rattle.httparse.specs.Grammar.{is_token_byte, is_uri_byte, is_value_byte}
use Rattle.httparse.specs.Pieces.{is_newline}
use Rattle.http_text.specs.declared.head.place.Place.{Place}
use Rattle.http_text.specs.declared.head.place.Place.TheVariants.{Unknown, Blank, BlankReturn, Method, Target, Version, Line, Name, Value, ValueReturn}

-- the place behind one octet more of a head
abbrev pub next : Place → ℕ → Place
next Unknown octet = Unknown
next Blank octet = if octet == line_feed then Blank else (if octet == carriage_return then BlankReturn else Method)
next BlankReturn octet = Blank
next Method octet = if octet == space then Target else Method
next Target octet = if octet == space then Version else Target
next Version octet = if octet == line_feed then Line else Version
next Line octet = if is_newline octet then Unknown else Name
next Name octet = if octet == colon then Value else Name
next Value octet = if octet == line_feed then Line else (if octet == carriage_return then ValueReturn else Value)
next ValueReturn octet = Line

-- what stands there goes on with the octet, and the head doesn't end with it
abbrev pub goes_on : Place → ℕ → Bool
goes_on Unknown octet = false
goes_on Blank octet = is_newline octet
goes_on BlankReturn octet = octet == line_feed
goes_on Method octet = is_token_byte octet
goes_on Target octet = is_uri_byte octet
goes_on Version octet = false
goes_on Line octet = false
goes_on Name octet = octet == colon || is_token_byte octet
goes_on Value octet = octet == carriage_return || (octet == line_feed || is_value_byte octet)
goes_on ValueReturn octet = octet == line_feed

-- the place behind these octets of a head
abbrev pub place_from : Place → List ℕ → Place
place_from place [] = place
place_from place (octet ∷ octets) = place_from (next place octet) octets
