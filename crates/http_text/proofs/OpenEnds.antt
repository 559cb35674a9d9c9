-- Octets of which more are needed, and what may follow so that more still are.
use Rattle.std.proofs.Common.{◌≡◌, inl, inr, ℕ, ◌+◌, ◌-◌, ◌<◌, Bool, false, eqb, List, [], ◌∷◌, ◌++◌, length, drop, get_or, All, codes, refl, ap, sym, ◌∙◌, subst, arith, append_assoc, length-append, length-drop}
use Rattle.std.specs.Bool.{IsTrue}
use Rattle.std.specs.List.{flat_map}
use Rattle.std.proofs.lemmas.Bool.{false≢true, cases_lt}
use Rattle.std.proofs.lemmas.List.{append-nil, get_or-append-add, get_or_append_left, get_or_push, flat_map_more}
use Rattle.std.proofs.lemmas.List.Concat.{flat_map-append}
use Rattle.std.proofs.lemmas.List.Elements.{All-append, All-push}
use Rattle.httparse.specs.Grammar.{is_token_byte, is_uri_byte, is_value_byte, AllPass, IsToken, LineEnd, crlf, lf, print_end, print_blank, print_version, print_section, Field, print_field, IsField, RequestHead, print_request, IsRequestHead, EndsInTarget}
use Rattle.httparse.proofs.GrammarLemmas.{print_request-append, request_prefix_free}
use Rattle.http_text.specs.Head.{line_limit, Stands, HasNone, IsOpen}
use Rattle.http_text.specs.Place.{BeginsBlank, BeginsValue, BeginsName, StaysOpen}
use Rattle.http_text.proofs.FirstHead.{shortest, is_shortest}
use Rattle.http_text.proofs.LineCounts.{IsPlain, plain_uri, start, print-start, start-append, split_front}

-- ---- classes of octets

AllPass-append : (test : ℕ → Bool) (xs ys : List ℕ) → AllPass test xs → AllPass test ys → AllPass test (xs ++ ys)
AllPass-append test = All-append (λ b. IsTrue (test b))

All-front : (P : ℕ → Type 0) (xs rest all : List ℕ) → xs ++ rest ≡ all → All P all → All P xs
All-front P xs rest all e h i d within =
    let len : length xs + length rest ≡ length all = sym (length-append xs rest) ∙ ap length e in
    let inside : i < length all = omega arith in
    let same : get_or all i d ≡ get_or xs i d = ap (λ (ys : List ℕ). get_or ys i d) (sym e) ∙ get_or_append_left xs rest d i within in
    subst P same (h i d inside)

pub front_pass : (test : ℕ → Bool) (xs rest all : List ℕ) → xs ++ rest ≡ all → AllPass test all → AllPass test xs
front_pass test = All-front (λ b. IsTrue (test b))

pub front_plain : (xs rest all : List ℕ) → xs ++ rest ≡ all → IsPlain all → IsPlain xs
front_plain = All-front (λ b. eqb b 10 ≡ false)

-- ---- a front of a head, and not all of it

-- no head stands in front of another
front_open : (octets more : List ℕ) (h : RequestHead) → 0 < length more → Stands (octets ++ more) h [] → IsOpen octets
front_open octets more h some s = record {
  none = λ k rest t.
      let same = request_prefix_free octets more k h rest [] t.reads s.reads in
      absurd (omega (arith, length-append rest more, ap length same.1));
  may_come = inl (more, h, [], s);
}

-- ---- empty lines

-- what makes the shortest head of empty lines
abbrev shortest_text : List ℕ
shortest_text = codes "GET" ++ 32 ∷ (codes "/" ++ 32 ∷ (print_version 0 ++ (print_end lf ++ (print_section [] lf ++ []))))

abbrev behind_lines : List LineEnd → RequestHead
behind_lines ends = record shortest { blank = ends }

is_behind_lines : (ends : List LineEnd) → IsRequestHead (behind_lines ends)
is_behind_lines ends = record {
  method = is_shortest.method;
  target = is_shortest.target;
  target_text = is_shortest.target_text;
  minor = is_shortest.minor;
  fields = is_shortest.fields;
}

blank_open : (octets : List ℕ) → BeginsBlank octets → IsOpen octets
blank_open octets (ends, rest, e) = front_open octets (rest ++ shortest_text) (behind_lines ends) (omega (arith, length-append rest shortest_text)) (record {
  reads = (
    is_behind_lines ends,
    sym (append_assoc octets rest shortest_text) ∙ ap (λ (t : List ℕ). t ++ shortest_text) e ∙ sym (print_request-append (behind_lines ends) []),
  );
  few = omega arith;
})

pub blank_stays : (ends : List LineEnd) (octets : List ℕ) → octets ≡ print_blank ends → StaysOpen BeginsBlank octets
blank_stays ends octets same more (others, rest, e) = blank_open (octets ++ more) (
  ends ++ others,
  rest,
  append_assoc octets more rest
      ∙ ap (λ (t : List ℕ). octets ++ t) e
      ∙ ap (λ (t : List ℕ). t ++ print_blank others) same
      ∙ sym (flat_map-append print_end ends others),
)

-- ---- the request's line

-- what makes a head of a method
abbrev method_text : List ℕ
method_text = 32 ∷ (codes "/" ++ 32 ∷ (print_version 0 ++ (print_end lf ++ (print_section [] lf ++ []))))

abbrev of_method : List LineEnd → List ℕ → RequestHead
of_method ends method = record shortest { blank = ends; method = method }

is_of_method : (ends : List LineEnd) (method : List ℕ) → IsToken method → IsRequestHead (of_method ends method)
is_of_method ends method token = record {
  method = token;
  target = is_shortest.target;
  target_text = is_shortest.target_text;
  minor = is_shortest.minor;
  fields = is_shortest.fields;
}

method_open : (ends : List LineEnd) (method octets : List ℕ) → octets ≡ print_blank ends ++ method → IsToken method → IsOpen octets
method_open ends method octets same token = front_open octets method_text (of_method ends method) (omega arith) (record {
  reads = (
    is_of_method ends method token,
    ap (λ (t : List ℕ). t ++ method_text) same ∙ append_assoc (print_blank ends) method method_text ∙ sym (print_request-append (of_method ends method) []),
  );
  few = omega arith;
})

pub method_stays : (ends : List LineEnd) (method octets : List ℕ) → octets ≡ print_blank ends ++ method → IsToken method → StaysOpen (AllPass is_token_byte) octets
method_stays ends method octets same token more all =
    method_open ends (method ++ more) (octets ++ more) (ap (λ (t : List ℕ). t ++ more) same ∙ append_assoc (print_blank ends) method more)
    (omega (arith, length-append method more, token.0), AllPass-append is_token_byte method more token.1 all)

-- a line end without its line feed
abbrev before_feed : LineEnd → List ℕ
before_feed crlf = 13 ∷ []
before_feed lf = []

end-feed : (end : LineEnd) → print_end end ++ [] ≡ before_feed end ++ 10 ∷ []
end-feed crlf = refl
end-feed lf = refl

request-feed : (h : RequestHead) → print_request h ≡ start h (before_feed h.last) ++ 10 ∷ []
request-feed h =
    sym (append-nil (print_request h)) ∙ print-start h [] ∙ ap (start h) (end-feed h.last) ∙ sym (start-append h (before_feed h.last) (10 ∷ []))

last_of : (xs q w : List ℕ) (b d : ℕ) → xs ++ q ≡ w ++ b ∷ [] → 0 < length q → get_or q (length q - 1) d ≡ b
last_of xs q w b d e some =
    let len : length xs + length q ≡ length w + 1 = omega (arith, length-append xs q, length-append w (b ∷ []), ap length e) in
    sym (get_or-append-add xs q (length q - 1) d)
    ∙ ap (λ (ys : List ℕ). get_or ys (length xs + (length q - 1)) d) e
    ∙ get_or_push w b d (length xs + (length q - 1)) (omega arith)

-- a head ends in a line feed, so behind octets without one there is none that wasn't there before
none_more : (octets more : List ℕ) → HasNone octets → IsPlain more → HasNone (octets ++ more)
none_more octets more none plain h rest s =
    elim (cases_lt (length octets) (length (print_request h))) [
      | inl longer ↦
          let front = split_front (print_request h) rest octets more (sym s.reads.1) (omega (arith, longer)) in
          let q = drop (length octets) (print_request h) in
          let some : 0 < length q = omega (arith, longer, length-drop (length octets) (print_request h)) in
          let feed : get_or q (length q - 1) 0 ≡ 10 = last_of octets q (start h (before_feed h.last)) 10 0 (sym front.0 ∙ request-feed h) some in
          let within : length q - 1 < length q = omega arith in
          let passes : eqb (get_or q (length q - 1) 0) 10 ≡ false = front_plain q rest more front.1 plain (length q - 1) 0 within in
          absurd (false≢true (sym passes ∙ ap (λ (b : ℕ). eqb b 10) feed))
      | inr whole ↦
          let front = split_front octets more (print_request h) rest s.reads.1 whole in
          none h (drop (length (print_request h)) octets) (record { reads = (s.reads.0, front.0); few = s.few })
    ]

pub target_stays : (octets : List ℕ) → EndsInTarget octets → HasNone octets → StaysOpen (AllPass is_uri_byte) octets
target_stays octets (ends, method, target, token, passes, same) none more all = record {
  none = none_more octets more none (plain_uri more all);
  may_come = inr (
    ends,
    method,
    target ++ more,
    token,
    AllPass-append is_uri_byte target more passes all,
    ap (λ (t : List ℕ). t ++ more) same ∙ regroup (print_blank ends) method target more,
  );
}
  where
    regroup : (a b c d : List ℕ) → (a ++ b ++ 32 ∷ c) ++ d ≡ a ++ b ++ 32 ∷ (c ++ d)
    regroup a b c d = simp append_assoc

-- ---- header lines

-- the head with one field more
abbrev pub push_field : RequestHead → Field → RequestHead
push_field h f = record h { fields = h.fields ++ f ∷ [] }

pub is_push_field : (h : RequestHead) (f : Field) → IsRequestHead h → IsField f → IsRequestHead (push_field h f)
is_push_field h f is field = record {
  method = is.method;
  target = is.target;
  target_text = is.target_text;
  minor = is.minor;
  fields = All-push IsField h.fields f is.fields field;
}

pub start-push : (h : RequestHead) (f : Field) (rest : List ℕ) → start h (print_field f ++ rest) ≡ start (push_field h f) rest
start-push h f rest =
    ap (λ (fields : List ℕ). print_blank h.blank ++ (h.method ++ 32 ∷ (h.target ++ 32 ∷ (print_version h.minor ++ (print_end h.line_end ++ fields)))))
    (sym (append_assoc (flat_map print_field h.fields) (print_field f) rest)
    ∙ ap (λ (t : List ℕ). t ++ rest) (flat_map_more print_field [] h.fields f))

-- octets, and what makes of them a field line behind a head's others
field_open : (h : RequestHead) (f : Field) (octets more : List ℕ) → IsRequestHead h → IsField f → length h.fields < line_limit
    → octets ++ more ≡ start h (print_field f) → IsOpen octets
field_open h f octets more is field room e =
    let k = record (push_field h f) { last = lf } in
    front_open octets (more ++ 10 ∷ []) k (omega (arith, length-append more (10 ∷ []))) (record {
      reads = (
        record { method = is.method; target = is.target; target_text = is.target_text; minor = is.minor; fields = All-push IsField h.fields f is.fields field },
        sym (append_assoc octets more (10 ∷ []))
            ∙ ap (λ (t : List ℕ). t ++ 10 ∷ []) e
            ∙ start-append h (print_field f) (10 ∷ [])
            ∙ start-push h f (10 ∷ [])
            ∙ sym (print-start k []),
      );
      few = omega (arith, length-append h.fields (f ∷ []));
    })

-- a field line that octets begin, and others go on with
begun : (h : RequestHead) (octets front more rest line : List ℕ) → octets ≡ start h front → front ++ (more ++ rest) ≡ line → (octets ++ more) ++ rest ≡ start h line
begun h octets front more rest line same e =
    append_assoc octets more rest ∙ ap (λ (t : List ℕ). t ++ (more ++ rest)) same ∙ start-append h front (more ++ rest) ∙ ap (start h) e

pub value_stays : (h : RequestHead) (name raw octets : List ℕ) → octets ≡ start h (name ++ 58 ∷ raw) → IsRequestHead h → IsToken name
    → AllPass is_value_byte raw → length h.fields < line_limit → StaysOpen BeginsValue octets
value_stays h name raw octets same is token passes room more (value, end, rest, all, e) =
    let f : Field = record { name = name; raw = raw ++ value; end = end } in
    let line : (name ++ 58 ∷ raw) ++ (more ++ rest) ≡ print_field f =
    ap (λ (t : List ℕ). (name ++ 58 ∷ raw) ++ t) e ∙ regroup name raw value (print_end end) in
    field_open h f (octets ++ more) rest is (record { name = token; raw = AllPass-append is_value_byte raw value passes all }) room
    (begun h octets (name ++ 58 ∷ raw) more rest (print_field f) same line)
  where
    regroup : (a b c d : List ℕ) → (a ++ 58 ∷ b) ++ (c ++ d) ≡ a ++ 58 ∷ (b ++ c) ++ d
    regroup a b c d = simp append_assoc

pub name_stays : (h : RequestHead) (front octets : List ℕ) → octets ≡ start h front → IsRequestHead h → IsToken front
    → length h.fields < line_limit → StaysOpen BeginsName octets
name_stays h front octets same is token room more (name, value, end, rest, all, passes, e) =
    let f : Field = record { name = front ++ name; raw = value; end = end } in
    let line : front ++ (more ++ rest) ≡ print_field f = ap (λ (t : List ℕ). front ++ t) e ∙ regroup front name value (print_end end) in
    let whole : IsToken (front ++ name) = (omega (arith, length-append front name, token.0), AllPass-append is_token_byte front name token.1 all) in
    field_open h f (octets ++ more) rest is (record { name = whole; raw = passes }) room (begun h octets front more rest (print_field f) same line)
  where
    regroup : (a b c d : List ℕ) → a ++ (b ++ 58 ∷ (c ++ d)) ≡ (a ++ b) ++ 58 ∷ c ++ d
    regroup a b c d = simp append_assoc
