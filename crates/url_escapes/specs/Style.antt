-- How a value is written in each style.
use Rattle.std.specs.Prelude.{ℕ, Bool, ◌||◌, ◌==◌, List, [], ◌∷◌, if◌then◌else◌}
use Rattle.std.specs.Char.{is_ascii_alphanumeric}
use Rattle.std.specs.List.{flat_map}
use Rattle.percent_encoding.specs.Percent.{percent_encode_byte}
use Rattle.url_escapes.specs.declared.style.Style.{Style}
use Rattle.url_escapes.specs.declared.style.Style.TheVariants.{Url, Plain}

-- letters, digits and - . _ ~ are unreserved (RFC 3986 2.3)
abbrev pub is_unreserved : ℕ → Bool
is_unreserved octet = is_ascii_alphanumeric octet || octet == 45 || octet == 46 || octet == 95 || octet == 126

-- an octet of a value in a query: a space is +, any other octet that isn't unreserved is % and two hex digits (RFC 3986 2.1)
abbrev pub url_octet : ℕ → List ℕ
url_octet octet =
    if is_unreserved octet then octet ∷ []
    else if octet == 32 then 43 ∷ []
    else percent_encode_byte octet

-- a value in a style
abbrev pub styled : Style → List ℕ → List ℕ
styled Url value = flat_map url_octet value
styled Plain value = value
