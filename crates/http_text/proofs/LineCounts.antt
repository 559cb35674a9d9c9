-- Counting the lines of a head tells whether a head of at most 64 header lines can still come.
use Rattle.std.proofs.Common.{◌≡◌, inl, inr, ℕ, zero, suc, ◌+◌, ◌-◌, ◌<◌, ◌≤◌, Bool, true, false, ◌||◌, not, cond, eqb, List, [], ◌∷◌, ◌++◌, length, take, drop, All, refl, ap, sym, ◌∙◌, subst, arith, append_assoc, length-drop}
use Rattle.std.specs.List.{flat_map}
use Rattle.std.proofs.Math.Seq.{take-append_seam, drop-append_seam}
use Rattle.std.proofs.lemmas.Bool.{false≢true, cases_lt}
use Rattle.std.proofs.lemmas.Bool.Decides.{nat_tests}
use Rattle.std.proofs.lemmas.List.{append-nil, take-append-drop, take-append-le, drop-append-le, length-take}
use Rattle.std.proofs.lemmas.List.Concat.{flat_map-append}
use Rattle.std.proofs.lemmas.List.Elements.{All-head, All-tail, All-take, All-drop}
use Rattle.httparse.specs.Grammar.{is_token_byte, is_uri_byte, is_value_byte, AllPass, LineEnd, crlf, lf, print_end, print_blank, print_version, Field, print_field, IsField, RequestHead, print_request, IsRequestHead, ReadsRequest, HasNoRequest, MayBecomeRequest}
use Rattle.httparse.specs.Pieces.{is_newline, Stops}
use Rattle.httparse.proofs.PieceLemmas.{token_is_no_newline, Stops_token, Stops-FieldLine, print_field-append}
use Rattle.httparse.proofs.GrammarLemmas.{print_request-append}
use Rattle.http_text.specs.Head.{line_limit, NeverHas, MayHave, IsOpen}
use Rattle.http_text.specs.HeadSteps.{behind_blank, begins_after, has_too_many_lines}

-- ---- an octet that ends no line

-- no octet of the list is a line feed
abbrev pub IsPlain : List ℕ → Type 0
IsPlain octets = All (λ b. eqb b 10 ≡ false) octets

begins-plain : (lines : ℕ) (word rest : List ℕ) → IsPlain word → begins_after (suc lines) (word ++ rest) ≡ begins_after (suc lines) rest
begins-plain lines [] rest h = refl
begins-plain lines (b ∷ word) rest h =
    ap (λ t. cond t (begins_after lines (word ++ rest)) (begins_after (suc lines) (word ++ rest))) (All-head (λ v. eqb v 10 ≡ false) b word h)
    ∙ begins-plain lines word rest (All-tail (λ v. eqb v 10 ≡ false) b word h)

-- one that is no newline is no line feed
pub not_feed : (b : ℕ) → is_newline b ≡ false → eqb b 10 ≡ false
not_feed b h = or_second (eqb b 13) (eqb b 10) h
  where
    or_second : (p q : Bool) → (p || q) ≡ false → q ≡ false
    or_second true q e = cc
    or_second false q e = e

pub plain_token : (word : List ℕ) → AllPass is_token_byte word → IsPlain word
plain_token word all = λ i d h. not_feed _ (token_is_no_newline _ (all i d h))

pub plain_uri : (word : List ℕ) → AllPass is_uri_byte word → IsPlain word
plain_uri word all = λ i d h. let passes = all i d h in grind (arith, nat_tests)

pub plain_value : (word : List ℕ) → AllPass is_value_byte word → IsPlain word
plain_value word all = λ i d h. let passes = all i d h in grind (arith, nat_tests)

-- ---- lines

begins-end : (lines : ℕ) (end : LineEnd) (rest : List ℕ) → begins_after (suc lines) (print_end end ++ rest) ≡ begins_after lines rest
begins-end lines crlf rest = refl
begins-end lines lf rest = refl

begins-field : (lines : ℕ) (f : Field) (rest : List ℕ) → IsField f → begins_after (suc lines) (print_field f ++ rest) ≡ begins_after lines rest
begins-field lines f rest h =
    ap (begins_after (suc lines)) (print_field-append f rest)
    ∙ begins-plain lines f.name (58 ∷ (f.raw ++ (print_end f.end ++ rest))) (plain_token f.name h.name.1)
    ∙ begins-plain lines f.raw (print_end f.end ++ rest) (plain_value f.raw h.raw)
    ∙ begins-end lines f.end rest

begins-fields : (fs : List Field) (lines : ℕ) (rest : List ℕ) → All IsField fs
    → begins_after (lines + length fs) (flat_map print_field fs ++ rest) ≡ begins_after lines rest
begins-fields [] lines rest h = let e : lines + 0 ≡ lines = omega arith in ap (λ n. begins_after n rest) e
begins-fields (f ∷ fs) lines rest h =
    let e : lines + length (f ∷ fs) ≡ suc (lines + length fs) = omega arith in
    ap (λ n. begins_after n ((print_field f ++ flat_map print_field fs) ++ rest)) e
    ∙ ap (begins_after (suc (lines + length fs))) (append_assoc (print_field f) (flat_map print_field fs) rest)
    ∙ begins-field (lines + length fs) f (flat_map print_field fs ++ rest) (All-head IsField f fs h)
    ∙ begins-fields fs lines rest (All-tail IsField f fs h)

begins-version : (lines minor : ℕ) (rest : List ℕ) → begins_after (suc lines) (print_version minor ++ rest) ≡ begins_after (suc lines) rest
begins-version lines minor rest =
    let e : eqb (48 + minor) 10 ≡ false = grind (arith, nat_tests) in
    ap (λ t. cond t (begins_after lines rest) (begins_after (suc lines) rest)) e

pub behind_blank-print : (ends : List LineEnd) (rest : List ℕ) → Stops is_newline rest → behind_blank (print_blank ends ++ rest) ≡ rest
behind_blank-print [] [] h = absurd h
behind_blank-print [] (b ∷ rest) h = ap (λ t. cond t (behind_blank rest) (b ∷ rest)) h
behind_blank-print (crlf ∷ ends) rest h = behind_blank-print ends rest h
behind_blank-print (lf ∷ ends) rest h = behind_blank-print ends rest h

-- ---- a head without the line end behind its fields

-- the request's line and the header lines, and what follows them
abbrev pub start : RequestHead → List ℕ → List ℕ
start h rest =
    print_blank h.blank ++ (h.method ++ 32 ∷ (h.target ++ 32 ∷ (print_version h.minor ++ (print_end h.line_end ++ (flat_map print_field h.fields ++ rest)))))

pub print-start : (h : RequestHead) (rest : List ℕ) → print_request h ++ rest ≡ start h (print_end h.last ++ rest)
print-start h rest =
    print_request-append h rest
    ∙ ap (λ section. print_blank h.blank ++ (h.method ++ 32 ∷ (h.target ++ 32 ∷ (print_version h.minor ++ (print_end h.line_end ++ section)))))
    (append_assoc (flat_map print_field h.fields) (print_end h.last) rest)

pub start-append : (h : RequestHead) (rest more : List ℕ) → start h rest ++ more ≡ start h (rest ++ more)
start-append h rest more = regroup (print_blank h.blank) h.method h.target (print_version h.minor) (print_end h.line_end) (flat_map print_field h.fields) rest more
  where
    regroup : (a b c d e f r m : List ℕ)
        → (a ++ (b ++ 32 ∷ (c ++ 32 ∷ (d ++ (e ++ (f ++ r)))))) ++ m ≡ a ++ (b ++ 32 ∷ (c ++ 32 ∷ (d ++ (e ++ (f ++ (r ++ m))))))
    regroup a b c d e f r m = simp append_assoc

begins-start : (h : RequestHead) (lines : ℕ) (rest : List ℕ) → IsRequestHead h → lines + length h.fields ≡ line_limit
    → has_too_many_lines (start h rest) ≡ begins_after lines rest
begins-start h lines rest is e =
    let fields = flat_map print_field h.fields ++ rest in
    let version = print_version h.minor ++ (print_end h.line_end ++ fields) in
    let target = h.target ++ 32 ∷ version in
    ap (begins_after (line_limit + 1)) (behind_blank-print h.blank (h.method ++ 32 ∷ target) (Stops_token h.method (32 ∷ target) is.method.0 is.method.1))
    ∙ begins-plain line_limit h.method (32 ∷ target) (plain_token h.method is.method.1)
    ∙ begins-plain line_limit h.target (32 ∷ version) (plain_uri h.target is.target.1)
    ∙ begins-version line_limit h.minor (print_end h.line_end ++ fields)
    ∙ begins-end line_limit h.line_end fields
    ∙ ap (λ n. begins_after n fields) (sym e)
    ∙ begins-fields h.fields lines rest is.fields

-- ---- fronts

-- what begins with the front of a text is that front or goes on from it
pub split_front : (a b p r : List ℕ) → a ++ b ≡ p ++ r → length p ≤ length a → (a ≡ p ++ drop (length p) a) × (drop (length p) a ++ b ≡ r)
split_front a b p r e within =
    let same : take (length p) a ≡ p = sym (take-append-le (length p) a b within) ∙ ap (take (length p)) e ∙ take-append_seam p r in (
      sym (take-append-drop (length p) a) ∙ ap (λ front. front ++ drop (length p) a) same,
      sym (drop-append-le (length p) a b within) ∙ ap (drop (length p)) e ∙ drop-append_seam p r,
    )

begins-longer : (lines : ℕ) (xs ys : List ℕ) → begins_after lines xs ≡ true → begins_after lines (xs ++ ys) ≡ true
begins-longer lines [] ys h = cc
begins-longer zero (b ∷ xs) ys h = h
begins-longer (suc lines) (b ∷ xs) ys h = either (eqb b 10) _ _ _ _ (begins-longer lines xs ys) (begins-longer (suc lines) xs ys) h
  where
    either : (t : Bool) (p q r s : Bool) → (p ≡ true → r ≡ true) → (q ≡ true → s ≡ true) → cond t p q ≡ true → cond t r s ≡ true
    either true p q r s f g h = f h
    either false p q r s f g h = g h

many-longer : (xs ys : List ℕ) → has_too_many_lines xs ≡ true → has_too_many_lines (xs ++ ys) ≡ true
many-longer [] ys h = cc
many-longer (b ∷ xs) ys h = either (is_newline b) _ _ _ _ (many-longer xs ys) (begins-longer (line_limit + 1) (b ∷ xs) ys) h
  where
    either : (t : Bool) (p q r s : List ℕ) → (begins_after (line_limit + 1) p ≡ true → begins_after (line_limit + 1) r ≡ true) → (begins_after (line_limit + 1) q ≡ true → begins_after (line_limit + 1) s ≡ true)
        → begins_after (line_limit + 1) (cond t p q) ≡ true → begins_after (line_limit + 1) (cond t r s) ≡ true
    either true p q r s f g h = f h
    either false p q r s f g h = g h

-- ---- what the count says

-- where a 65th header line has begun, no head of at most 64 can come
pub never_of_many : (octets : List ℕ) → has_too_many_lines octets ≡ true → HasNoRequest octets → NeverHas octets
never_of_many octets many none more h rest s =
    elim (cases_lt (length octets) (length (print_request h))) [
      | inl longer ↦
          let front = split_front (print_request h) rest octets more (sym s.reads.1) (omega (arith, longer)) in
          let y = drop (length octets) (print_request h) in
          let e : octets ++ y ≡ start h (print_end h.last) = sym front.0 ∙ sym (append-nil (print_request h)) ∙ print-start h [] ∙ ap (start h) (append-nil (print_end h.last)) in
          let lines : line_limit - length h.fields + length h.fields ≡ line_limit = omega (arith, s.few) in
          let count : has_too_many_lines (octets ++ y) ≡ false = ap has_too_many_lines e ∙ begins-start h (line_limit - length h.fields) (print_end h.last) s.reads.0 lines ∙ begins-last (line_limit - length h.fields) h.last in
          absurd (false≢true (sym count ∙ many-longer octets y many))
      | inr whole ↦
          let front = split_front octets more (print_request h) rest s.reads.1 whole in
          none h (drop (length (print_request h)) octets) (s.reads.0, front.0)
    ]
  where
    begins-last : (lines : ℕ) (end : LineEnd) → begins_after lines (print_end end) ≡ false
    begins-last zero crlf = refl
    begins-last zero lf = refl
    begins-last (suc lines) crlf = refl
    begins-last (suc lines) lf = refl

-- the head with its first 64 fields alone
abbrev cut_head : RequestHead → RequestHead
cut_head h = record h { fields = take line_limit h.fields; last = lf }

is_cut_head : (h : RequestHead) → IsRequestHead h → IsRequestHead (cut_head h)
is_cut_head h is = record {
  method = is.method;
  target = is.target;
  target_text = is.target_text;
  minor = is.minor;
  fields = All-take IsField line_limit h.fields is.fields;
}

-- what follows the first 64 fields
abbrev behind_cut : RequestHead → List ℕ
behind_cut h = flat_map print_field (drop line_limit h.fields) ++ print_end h.last

print-cut : (h : RequestHead) → print_request h ++ [] ≡ start (cut_head h) [] ++ behind_cut h
print-cut h =
    let fields : flat_map print_field h.fields ++ (print_end h.last ++ []) ≡ flat_map print_field (take line_limit h.fields) ++ behind_cut h =
    ap (λ fs. flat_map print_field fs ++ (print_end h.last ++ [])) (sym (take-append-drop line_limit h.fields))
    ∙ ap (λ text. text ++ (print_end h.last ++ [])) (flat_map-append print_field (take line_limit h.fields) (drop line_limit h.fields))
    ∙ append_assoc (flat_map print_field (take line_limit h.fields)) (flat_map print_field (drop line_limit h.fields)) (print_end h.last ++ [])
    ∙ ap (λ last. flat_map print_field (take line_limit h.fields) ++ (flat_map print_field (drop line_limit h.fields) ++ last)) (append-nil (print_end h.last)) in
    print-start h []
    ∙ ap (λ text. print_blank h.blank ++ (h.method ++ 32 ∷ (h.target ++ 32 ∷ (print_version h.minor ++ (print_end h.line_end ++ text))))) fields
    ∙ sym (start-append (cut_head h) [] (behind_cut h))

stops_fields : (fs : List Field) (rest : List ℕ) → 0 < length fs → All IsField fs → Stops is_newline (flat_map print_field fs ++ rest)
stops_fields [] rest some all = absurd (omega arith)
stops_fields (f ∷ fs) rest some all =
    Stops-FieldLine f ((print_field f ++ flat_map print_field fs) ++ rest) (flat_map print_field fs ++ rest)
    (All-head IsField f fs all, append_assoc (print_field f) (flat_map print_field fs) rest)

begins_first : (q more : List ℕ) → 0 < length q → Stops is_newline (q ++ more) → begins_after 0 q ≡ true
begins_first [] more some stops = absurd (omega arith)
begins_first (b ∷ q) more some stops = ap not stops

-- a head of more fields goes on from 64 of them, or the octets are a front of those
may_cut : (octets more : List ℕ) (h : RequestHead) → has_too_many_lines octets ≡ false → ReadsRequest (octets ++ more) h [] → line_limit < length h.fields → MayHave octets
may_cut octets more h few reads long =
    let k = cut_head h in
    let is = is_cut_head h reads.0 in
    let e : octets ++ more ≡ start (cut_head h) [] ++ behind_cut h = reads.1 ∙ print-cut h in
    elim (cases_lt (length (start (cut_head h) [])) (length octets)) [
      | inl longer ↦
          let front = split_front octets more (start (cut_head h) []) (behind_cut h) e (omega (arith, longer)) in
          let q = drop (length (start (cut_head h) [])) octets in
          let some : 0 < length q = omega (arith, longer, length-drop (length (start (cut_head h) [])) octets) in
          let others : 0 < length (drop line_limit h.fields) = omega (arith, long, length-drop line_limit h.fields) in
          let stops : Stops is_newline (q ++ more) = subst (Stops is_newline) (sym front.1) (stops_fields (drop line_limit h.fields) (print_end h.last) others (All-drop IsField line_limit h.fields reads.0.fields)) in
          let lines : 0 + length (take line_limit h.fields) ≡ line_limit = omega (arith, length-take line_limit h.fields, long) in
          let count : has_too_many_lines octets ≡ true =
          ap has_too_many_lines (front.0 ∙ start-append (cut_head h) [] q) ∙ begins-start (cut_head h) 0 q is lines ∙ begins_first q more some stops in
          absurd (false≢true (sym few ∙ count))
      | inr within ↦
          let front = split_front (start (cut_head h) []) (behind_cut h) octets more (sym e) within in
          let m = drop (length octets) (start (cut_head h) []) in (
            m ++ (10 ∷ []),
            cut_head h,
            [],
            record {
              reads = (
                is,
                sym (append_assoc octets m (10 ∷ [])) ∙ ap (λ text. text ++ (10 ∷ [])) (sym front.0) ∙ start-append (cut_head h) [] (10 ∷ []) ∙ sym (print-start (cut_head h) []),
              );
              few = omega (arith, length-take line_limit h.fields);
            },
          )
    ]

may_have : (octets more : List ℕ) (h : RequestHead) → has_too_many_lines octets ≡ false → ReadsRequest (octets ++ more) h [] → MayHave octets
may_have octets more h few reads =
    elim (cases_lt line_limit (length h.fields)) [
      | inl long ↦ may_cut octets more h few reads long
      | inr fits ↦ (more, h, [], record { reads = reads; few = fits })
    ]

-- where none has begun, a head can come, or the octets end within a target
pub open_of_few : (octets : List ℕ) → has_too_many_lines octets ≡ false → HasNoRequest octets → MayBecomeRequest octets → IsOpen octets
open_of_few octets few none may = record {
  none = λ h rest s. none h rest s.reads;
  may_come = elim may [ inl x ↦ inl (may_have octets x.0 x.1 few x.2) | inr target ↦ inr target ];
}
