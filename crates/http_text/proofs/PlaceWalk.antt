-- Octets of which more are needed end where following them octet by octet leads.
use Rattle.std.proofs.Common.{◌≡◌, inl, inr, ℕ, ◌+◌, ◌<◌, ◌≤◌, false, eqb, List, [], ◌∷◌, ◌++◌, length, All, refl, ap, sym, ◌∙◌, subst, arith, append_assoc, length-append}
use Rattle.std.specs.List.{flat_map}
use Rattle.std.proofs.lemmas.Bool.Decides.{nat_tests}
use Rattle.std.proofs.lemmas.List.{append-nil}
use Rattle.std.proofs.lemmas.List.Elements.{All-nil, All-from_recursion, All-head, All-tail}
use Rattle.httparse.specs.Grammar.{is_token_byte, is_uri_byte, is_value_byte, AllPass, IsToken, LineEnd, print_end, print_blank, print_version, Field, print_field, IsField, RequestHead, print_request, IsRequestHead, EndsInTarget}
use Rattle.httparse.proofs.PieceLemmas.{print_field-append}
use Rattle.http_text.specs.declared.head.place.Place.{Place}
use Rattle.http_text.specs.declared.head.place.Place.TheVariants.{Blank, BlankReturn, Method, Target, Version, Line, Name, Value, ValueReturn}
use Rattle.http_text.specs.Head.{line_limit, Stands, IsOpen}
use Rattle.http_text.specs.Place.{EndsAt}
use Rattle.http_text.specs.PlaceSteps.{place_from}
use Rattle.http_text.proofs.LineCounts.{IsPlain, start, print-start, start-append}
use Rattle.http_text.proofs.PlaceFollows.{blank_return_stays, return_stays}
use Rattle.http_text.proofs.OpenEnds.{blank_stays, method_stays, target_stays, push_field, is_push_field, start-push, value_stays, name_stays, front_pass, front_plain}
use Rattle.http_text.proofs.PlaceSteps.{from-behind, from-blank, from-method, from-target, from-version, from-version_end, from-name, from-value, from-field, cut, cut_blank, cut_end, cut_last}

ends_same : (p q : Place) (xs ys : List ℕ) → p ≡ q → xs ≡ ys → EndsAt q ys → EndsAt p xs
ends_same p q xs ys e f h = subst (λ r. EndsAt r xs) (sym e) (subst (EndsAt q) (sym f) h)

-- ---- in a field line

in_name : (h : RequestHead) (octets : List ℕ) → IsRequestHead h → AllPass is_token_byte octets → length h.fields < line_limit → IsOpen (start h octets)
    → EndsAt (place_from Line octets) (start h octets)
in_name h [] is all room yet = yet
in_name h (b ∷ octets) is all room yet =
    let token : IsToken (b ∷ octets) = (omega arith, all) in
    subst (λ p. EndsAt p (start h (b ∷ octets))) (sym (from-name (b ∷ octets) token))
    (name_stays h (b ∷ octets) (start h (b ∷ octets)) refl is token room)

-- in the line end behind a value
behind_value : (h : RequestHead) (f : Field) (b : ℕ) (octets rest : List ℕ) → IsRequestHead h → IsField f → length h.fields < line_limit
    → print_end f.end ≡ b ∷ (octets ++ rest) → IsOpen (start h (f.name ++ 58 ∷ (f.raw ++ b ∷ octets)))
    → EndsAt (place_from Value (b ∷ octets)) (start h (f.name ++ 58 ∷ (f.raw ++ b ∷ octets)))
behind_value h f b octets rest is field room e yet =
    let front = f.name ++ 58 ∷ f.raw in
    cut_end (λ p. EndsAt p (start h (f.name ++ 58 ∷ (f.raw ++ b ∷ octets)))) Value ValueReturn refl refl refl f.end b octets rest
    (λ first none.
    let same : start h (f.name ++ 58 ∷ (f.raw ++ b ∷ octets)) ≡ start h front ++ 13 ∷ [] =
    (λ i. start h (f.name ++ 58 ∷ (f.raw ++ first i ∷ none i)))
    ∙ ap (start h) (sym (append_assoc f.name (58 ∷ f.raw) (13 ∷ [])))
    ∙ sym (start-append h front (13 ∷ [])) in
    subst (EndsAt ValueReturn) (sym same)
    (return_stays (start h front) (value_stays h f.name f.raw (start h front) refl is field.name field.raw room)))
    yet e

behind_colon : (h : RequestHead) (f : Field) (octets rest : List ℕ) → IsRequestHead h → IsField f → length h.fields < line_limit
    → f.raw ++ print_end f.end ≡ octets ++ rest → IsOpen (start h (f.name ++ 58 ∷ octets)) → EndsAt (place_from Value octets) (start h (f.name ++ 58 ∷ octets))
behind_colon h f octets rest is field room e yet =
    let all = start h (f.name ++ 58 ∷ octets) in
    elim (cut f.raw (print_end f.end) octets rest (sym e)) [
      | inl (b, others, x, y) ↦
          let same : all ≡ start h (f.name ++ 58 ∷ (f.raw ++ b ∷ others)) = ap (λ (t : List ℕ). start h (f.name ++ 58 ∷ t)) x in
          ends_same (place_from Value octets) (place_from Value (b ∷ others)) all (start h (f.name ++ 58 ∷ (f.raw ++ b ∷ others)))
          (ap (place_from Value) x ∙ from-behind Value Value f.raw (b ∷ others) (from-value f.raw field.raw)) same
          (behind_value h f b others rest is field room (sym y) (subst IsOpen same yet))
      | inr (others, x) ↦
          let passes = front_pass is_value_byte octets others f.raw (sym x) field.raw in
          subst (λ q. EndsAt q all) (sym (from-value octets passes)) (value_stays h f.name octets all refl is field.name passes room)
    ]

in_field : (h : RequestHead) (f : Field) (octets rest : List ℕ) → IsRequestHead h → IsField f → length h.fields < line_limit
    → f.name ++ 58 ∷ (f.raw ++ print_end f.end) ≡ octets ++ rest → IsOpen (start h octets) → EndsAt (place_from Line octets) (start h octets)
in_field h f octets rest is field room e yet =
    elim (cut f.name (58 ∷ (f.raw ++ print_end f.end)) octets rest (sym e)) [
      | inl (b, others, x, y) ↦
          let colon : b ≡ 58 = cc in
          let line : octets ≡ f.name ++ 58 ∷ others = x ∙ ap (λ (v : ℕ). f.name ++ v ∷ others) colon in
          let p = from-behind Line Name f.name (58 ∷ others) (from-name f.name field.name) in
          ends_same (place_from Line octets) (place_from Value others) (start h octets) (start h (f.name ++ 58 ∷ others)) (ap (place_from Line) line ∙ p) (ap (start h) line)
          (behind_colon h f others rest is field room (cc) (subst IsOpen (ap (start h) line) yet))
      | inr (others, x) ↦ in_name h octets is (front_pass is_token_byte octets others f.name (sym x) field.name.1) room yet
    ]

-- ---- in the header lines

in_lines : (fields : List Field) (h : RequestHead) (last : LineEnd) (rest octets more : List ℕ) → IsRequestHead h → All IsField fields
    → length h.fields + length fields ≤ line_limit → octets ++ more ≡ flat_map print_field fields ++ (print_end last ++ rest)
    → IsOpen (start h octets) → EndsAt (place_from Line octets) (start h octets)
in_lines [] h last rest octets more is all few e yet =
    elim (cut (print_end last) rest octets more e) [
      | inl (b, others, x, y) ↦
          let whole : start h octets ≡ print_request (record h { last = last }) ++ b ∷ others =
          ap (start h) x ∙ sym (print-start (record h { last = last }) (b ∷ others)) in
          absurd (yet.none (record h { last = last }) (b ∷ others) (record {
            reads = (record { method = is.method; target = is.target; target_text = is.target_text; minor = is.minor; fields = is.fields }, whole);
            few = omega arith;
          }))
      | inr (others, x) ↦ cut_last (λ p. EndsAt p (start h octets)) tt yet last octets others x
    ]
in_lines (f ∷ fields) h last rest octets more is all few e yet =
    let field = All-head IsField f fields all in
    let room : length h.fields < line_limit = omega arith in
    elim (cut (print_field f) (flat_map print_field fields ++ (print_end last ++ rest)) octets more (e ∙ append_assoc (print_field f) (flat_map print_field fields) (print_end last ++ rest))) [
      | inl (b, others, x, y) ↦
          let same = ap (start h) x ∙ start-push h f (b ∷ others) in
          let fewer : length (h.fields ++ f ∷ []) + length fields ≤ line_limit = omega (arith, length-append h.fields (f ∷ [])) in
          ends_same (place_from Line octets) (place_from Line (b ∷ others)) (start h octets) (start (push_field h f) (b ∷ others))
          (ap (place_from Line) x ∙ from-field f (b ∷ others) field) same
          (in_lines fields (push_field h f) last rest (b ∷ others) more (is_push_field h f is field) (All-tail IsField f fields all) fewer y (subst IsOpen same yet))
      | inr (others, x) ↦
          let line = sym (append-nil (print_field f)) ∙ print_field-append f [] ∙ ap (λ (t : List ℕ). f.name ++ 58 ∷ (f.raw ++ t)) (append-nil (print_end f.end)) in
          in_field h f octets others is field room (sym line ∙ x) yet
    ]

-- ---- in the request's line

plain_version : (minor : ℕ) → IsPlain (print_version minor)
plain_version minor =
    let digit : eqb (48 + minor) 10 ≡ false = grind (arith, nat_tests) in
    All-from_recursion (λ b. eqb b 10 ≡ false) (print_version minor) (refl, (refl, (refl, (refl, (refl, (refl, (refl, (digit, tt))))))))

-- the request's line as far as its parts go, and what follows
abbrev behind_lines : RequestHead → List ℕ → List ℕ
behind_lines h octets = print_blank h.blank ++ octets

abbrev behind_method : RequestHead → List ℕ → List ℕ
behind_method h octets = behind_lines h (h.method ++ 32 ∷ octets)

abbrev behind_target : RequestHead → List ℕ → List ℕ
behind_target h octets = behind_method h (h.target ++ 32 ∷ octets)

abbrev behind_version : RequestHead → List ℕ → List ℕ
behind_version h octets = behind_target h (print_version h.minor ++ octets)

-- the same without fields
abbrev without_fields : RequestHead → RequestHead
without_fields h = record h { fields = [] }

is_without_fields : (h : RequestHead) → IsRequestHead h → IsRequestHead (without_fields h)
is_without_fields h is =
    record { method = is.method; target = is.target; target_text = is.target_text; minor = is.minor; fields = All-nil IsField }

-- the header lines, and what follows them
abbrev lines_text : RequestHead → List ℕ → List ℕ
lines_text h rest = flat_map print_field h.fields ++ (print_end h.last ++ rest)

in_end : (h : RequestHead) (rest octets more : List ℕ) → IsRequestHead h → length h.fields ≤ line_limit
    → octets ++ more ≡ print_end h.line_end ++ lines_text h rest → 0 < length octets → IsOpen (behind_version h octets)
    → EndsAt (place_from Version octets) (behind_version h octets)
in_end h rest [] more is few e some yet = absurd (omega arith)
in_end h rest (b ∷ octets) more is few e some yet =
    elim (cut (print_end h.line_end) (lines_text h rest) (b ∷ octets) more e) [
      | inl (c, others, x, y) ↦
          ends_same (place_from Version (b ∷ octets)) (place_from Line (c ∷ others)) (behind_version h (b ∷ octets)) (start (without_fields h) (c ∷ others))
          (ap (place_from Version) x ∙ from-behind Version Line (print_end h.line_end) (c ∷ others) (from-version_end h.line_end))
          (ap (behind_version h) x)
          (in_lines h.fields (without_fields h) h.last rest (c ∷ others) more (is_without_fields h is) is.fields (omega arith) y (subst IsOpen (ap (behind_version h) x) yet))
      | inr (others, x) ↦ cut_end (λ p. EndsAt p (behind_version h (b ∷ octets))) Version Version refl refl refl h.line_end b octets others (λ first none. yet) yet x
    ]

in_version : (h : RequestHead) (rest octets more : List ℕ) → IsRequestHead h → length h.fields ≤ line_limit
    → octets ++ more ≡ print_version h.minor ++ (print_end h.line_end ++ lines_text h rest) → IsOpen (behind_target h octets)
    → EndsAt (place_from Version octets) (behind_target h octets)
in_version h rest octets more is few e yet =
    elim (cut (print_version h.minor) (print_end h.line_end ++ lines_text h rest) octets more e) [
      | inl (b, others, x, y) ↦
          ends_same (place_from Version octets) (place_from Version (b ∷ others)) (behind_target h octets) (behind_version h (b ∷ others))
          (ap (place_from Version) x ∙ from-behind Version Version (print_version h.minor) (b ∷ others) (from-version (print_version h.minor) (plain_version h.minor)))
          (ap (behind_target h) x)
          (in_end h rest (b ∷ others) more is few y (omega arith) (subst IsOpen (ap (behind_target h) x) yet))
      | inr (others, x) ↦
          let plain = front_plain octets others (print_version h.minor) (sym x) (plain_version h.minor) in
          subst (λ p. EndsAt p (behind_target h octets)) (sym (from-version octets plain)) yet
    ]

-- within a target
at_target : (ends : List LineEnd) (method target octets : List ℕ) → IsToken method → AllPass is_uri_byte target
    → octets ≡ print_blank ends ++ (method ++ 32 ∷ target) → IsOpen octets → EndsAt Target octets
at_target ends method target octets token passes same yet =
    target_stays octets (ends, method, target, token, passes, same ∙ sym (append_assoc (print_blank ends) method (32 ∷ target))) yet.none

in_target : (h : RequestHead) (rest octets more : List ℕ) → IsRequestHead h → length h.fields ≤ line_limit
    → octets ++ more ≡ h.target ++ 32 ∷ (print_version h.minor ++ (print_end h.line_end ++ lines_text h rest)) → IsOpen (behind_method h octets)
    → EndsAt (place_from Target octets) (behind_method h octets)
in_target h rest octets more is few e yet =
    elim (cut h.target (32 ∷ (print_version h.minor ++ (print_end h.line_end ++ lines_text h rest))) octets more e) [
      | inl (b, others, x, y) ↦
          let space : b ≡ 32 = cc in
          let part : octets ≡ h.target ++ 32 ∷ others = x ∙ ap (λ (v : ℕ). h.target ++ v ∷ others) space in
          ends_same (place_from Target octets) (place_from Version others) (behind_method h octets) (behind_target h others)
          (ap (place_from Target) part ∙ from-behind Target Target h.target (32 ∷ others) (from-target h.target is.target.1))
          (ap (behind_method h) part)
          (in_version h rest others more is few (cc) (subst IsOpen (ap (behind_method h) part) yet))
      | inr (others, x) ↦
          let passes = front_pass is_uri_byte octets others h.target (sym x) is.target.1 in
          subst (λ p. EndsAt p (behind_method h octets)) (sym (from-target octets passes))
          (at_target h.blank h.method octets (behind_method h octets) is.method passes refl yet)
    ]

in_method : (h : RequestHead) (rest octets more : List ℕ) → IsRequestHead h → length h.fields ≤ line_limit → 0 < length octets
    → octets ++ more ≡ h.method ++ 32 ∷ (h.target ++ 32 ∷ (print_version h.minor ++ (print_end h.line_end ++ lines_text h rest)))
    → IsOpen (behind_lines h octets) → EndsAt (place_from Blank octets) (behind_lines h octets)
in_method h rest octets more is few some e yet =
    elim (cut h.method (32 ∷ (h.target ++ 32 ∷ (print_version h.minor ++ (print_end h.line_end ++ lines_text h rest)))) octets more e) [
      | inl (b, others, x, y) ↦
          let space : b ≡ 32 = cc in
          let part : octets ≡ h.method ++ 32 ∷ others = x ∙ ap (λ (v : ℕ). h.method ++ v ∷ others) space in
          ends_same (place_from Blank octets) (place_from Target others) (behind_lines h octets) (behind_method h others)
          (ap (place_from Blank) part ∙ from-behind Blank Method h.method (32 ∷ others) (from-method h.method is.method))
          (ap (behind_lines h) part)
          (in_target h rest others more is few (cc) (subst IsOpen (ap (behind_lines h) part) yet))
      | inr (others, x) ↦
          let token : IsToken octets = (some, front_pass is_token_byte octets others h.method (sym x) is.method.1) in
          subst (λ p. EndsAt p (behind_lines h octets)) (sym (from-method octets token))
          (method_stays h.blank octets (behind_lines h octets) refl token)
    ]

in_blank : (ends : List LineEnd) (octets rest : List ℕ) → print_blank ends ≡ octets ++ rest → EndsAt (place_from Blank octets) octets
in_blank ends octets rest e =
    elim (cut_blank ends octets rest e) [
      | inl (some, x) ↦ subst (λ p. EndsAt p octets) (sym (ap (place_from Blank) x ∙ from-blank some)) (blank_stays some octets x)
      | inr (some, x) ↦
          subst (λ p. EndsAt p octets) (sym (ap (place_from Blank) x ∙ from-behind Blank Blank (print_blank some) (13 ∷ []) (from-blank some)))
          (subst (λ t. EndsAt BlankReturn t) (sym x) (blank_return_stays (print_blank some) (blank_stays some (print_blank some) refl)))
    ]

-- ---- anywhere

in_head : (h : RequestHead) (rest octets more : List ℕ) → Stands (octets ++ more) h rest → IsOpen octets → EndsAt (place_from Blank octets) octets
in_head h rest octets more s yet =
    elim (cut (print_blank h.blank) (h.method ++ 32 ∷ (h.target ++ 32 ∷ (print_version h.minor ++ (print_end h.line_end ++ lines_text h rest)))) octets more (s.reads.1 ∙ print-start h rest)) [
      | inl (b, others, x, y) ↦
          ends_same (place_from Blank octets) (place_from Blank (b ∷ others)) octets (behind_lines h (b ∷ others))
          (ap (place_from Blank) x ∙ from-behind Blank Blank (print_blank h.blank) (b ∷ others) (from-blank h.blank))
          x
          (in_method h rest (b ∷ others) more s.reads.0 s.few (omega arith) y (subst IsOpen x yet))
      | inr (others, x) ↦ in_blank h.blank octets others x
    ]

within_target : (octets : List ℕ) → EndsInTarget octets → IsOpen octets → EndsAt (place_from Blank octets) octets
within_target octets (ends, method, target, token, passes, e) yet =
    let same : octets ≡ print_blank ends ++ (method ++ 32 ∷ target) = e ∙ append_assoc (print_blank ends) method (32 ∷ target) in
    let place : place_from Blank octets ≡ Target =
    ap (place_from Blank) same
    ∙ from-behind Blank Blank (print_blank ends) (method ++ 32 ∷ target) (from-blank ends)
    ∙ from-behind Blank Method method (32 ∷ target) (from-method method token)
    ∙ from-target target passes in
    subst (λ p. EndsAt p octets) (sym place) (at_target ends method target octets token passes same yet)

-- octets of which more are needed end where following them from the front leads
pub ends_at : (octets : List ℕ) → IsOpen octets → EndsAt (place_from Blank octets) octets
ends_at octets yet =
    elim yet.may_come [
      | inl (more, h, rest, s) ↦ in_head h rest octets more s yet
      | inr target ↦ within_target octets target yet
    ]
