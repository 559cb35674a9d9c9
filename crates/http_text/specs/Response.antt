-- The text of a response over HTTP (RFC 9112 4 and 6).
use Rattle.std.specs.Prelude.{ℕ, Bool, List, [], ◌∷◌, ◌++◌, length, codes, if◌then◌else◌}
use Rattle.std.specs.Fmt.{decimal}

-- the end of a line
abbrev pub crlf : List ℕ
crlf = 13 ∷ 10 ∷ []

-- whether the connection closes behind a response (RFC 9112 9.6)
abbrev pub connection : Bool → List ℕ
connection close = if close then codes "close" else codes "keep-alive"

-- The octets of a response with this status and this body: the status line, three fields, an empty line and the body. close says that
-- the connection closes.
unfoldable pub response_text : List ℕ → List ℕ → Bool → List ℕ
response_text status body close =
    codes "HTTP/1.1 " ++ status ++ crlf
    ++ codes "Content-Type: text/plain" ++ crlf
    ++ codes "Content-Length: " ++ decimal (length body) ++ crlf
    ++ codes "Connection: " ++ connection close ++ crlf
    ++ crlf
    ++ body
