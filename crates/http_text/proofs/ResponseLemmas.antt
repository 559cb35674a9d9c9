-- The text of a response, put together from its parts.
use Rattle.std.proofs.Common.{◌≡◌, ℕ, Bool, List, ◌++◌, ◌+◌, length, append_assoc, length-append, decimal, codes, ap, sym, ◌∙◌}
use Rattle.http_text.specs.Response.{crlf, connection, response_text}

-- octets behind others, which are some that are known
pub behind : {after before : List ℕ} (octets front : List ℕ) → after ≡ before ++ octets → before ≡ front → after ≡ front ++ octets
behind octets front e f = e ∙ ap (λ x. x ++ octets) f

-- the order in which parts are put together doesn't matter
regroup : (a status line type length_name digits connection_name word text : List ℕ)
    → (((((((a ++ status) ++ (line ++ (type ++ (line ++ length_name)))) ++ digits) ++ (line ++ connection_name)) ++ word) ++ (line ++ line)) ++ text)
    ≡ (a ++ status ++ line ++ type ++ line ++ length_name ++ digits ++ line ++ connection_name ++ word ++ line ++ line ++ text)
regroup a status line type length_name digits connection_name word text = simp append_assoc

-- the octets before the body, from the parts that vary
abbrev front : List ℕ → List ℕ → List ℕ → List ℕ
front status digits word =
    codes "HTTP/1.1 " ++ status ++ codes "\r\nContent-Type: text/plain\r\nContent-Length: " ++ digits
    ++ codes "\r\nConnection: " ++ word ++ codes "\r\n\r\n"

-- the parts of a response, one behind the other, are its text
pub response_text-parts : (close : Bool) (status word text name : List ℕ) → word ≡ connection close
    → front status (decimal (length text + length name)) word ++ text ++ name ≡ response_text status (text ++ name) close
unfolding response_text
response_text-parts close status word text name w =
    append_assoc (front status (decimal (length text + length name)) word) text name
    ∙ ap (λ n. front status (decimal n) word ++ (text ++ name)) (sym (length-append text name))
    ∙ regroup (codes "HTTP/1.1 ") status crlf (codes "Content-Type: text/plain") (codes "Content-Length: ") (decimal (length (text ++ name)))
    (codes "Connection: ") word (text ++ name)
    ∙ (λ i. codes "HTTP/1.1 " ++ status ++ crlf ++ codes "Content-Type: text/plain" ++ crlf ++ codes "Content-Length: " ++ decimal (length (text ++ name))
    ++ crlf ++ codes "Connection: " ++ w i ++ crlf ++ crlf ++ (text ++ name))
