-- Where octets end, from the parts of a head.
use Rattle.std.proofs.Common.{◌≡◌, ◌≢◌, inl, inr, ℕ, ◌<◌, ◌⊎◌, true, false, cond, eqb, List, [], ◌∷◌, ◌++◌, length, drop, All, refl, ap, sym, ◌∙◌, subst, arith, length-drop}
use Rattle.std.specs.Bool.{IsTrue}
use Rattle.std.proofs.lemmas.Bool.{false≢true, cases_lt, ne_eqb}
use Rattle.std.proofs.lemmas.Bool.Decides.{nat_tests}
use Rattle.std.proofs.lemmas.List.Elements.{All-head, All-tail}
use Rattle.httparse.specs.Grammar.{is_token_byte, is_uri_byte, is_value_byte, AllPass, IsToken, LineEnd, crlf, lf, print_end, print_blank, Field, print_field, IsField}
use Rattle.httparse.specs.Pieces.{is_newline}
use Rattle.httparse.proofs.PieceLemmas.{token_is_no_newline, space_ends_token, colon_ends_token, print_field-append}
use Rattle.http_text.specs.declared.head.place.Place.{Place}
use Rattle.http_text.specs.declared.head.place.Place.TheVariants.{Unknown, Blank, BlankReturn, Method, Target, Version, Line, Name, Value, ValueReturn}
use Rattle.http_text.specs.PlaceSteps.{next, place_from}
use Rattle.http_text.proofs.LineCounts.{IsPlain, not_feed, split_front}

-- ---- one part behind another

from-append : (p : Place) (xs ys : List ℕ) → place_from p (xs ++ ys) ≡ place_from (place_from p xs) ys
from-append p [] ys = refl
from-append p (b ∷ xs) ys = from-append (next p b) xs ys

pub from-behind : (p q : Place) (xs ys : List ℕ) → place_from p xs ≡ q → place_from p (xs ++ ys) ≡ place_from q ys
from-behind p q xs ys e = from-append p xs ys ∙ ap (λ r. place_from r ys) e

-- octets that change nothing
from-kept : (P : ℕ → Type 0) (p : Place) → ((b : ℕ) → P b → next p b ≡ p) → (xs : List ℕ) → All P xs → place_from p xs ≡ p
from-kept P p step [] all = refl
from-kept P p step (b ∷ xs) all =
    ap (λ q. place_from q xs) (step b (All-head P b xs all)) ∙ from-kept P p step xs (All-tail P b xs all)

-- ---- single octets

no_space : (b : ℕ) → is_token_byte b ≡ true → eqb b 32 ≡ false
no_space b token =
    let not : b ≢ 32 = λ e. false≢true (sym space_ends_token ∙ subst (λ (v : ℕ). is_token_byte v ≡ true) e token) in
    ne_eqb b 32 not

no_colon : (b : ℕ) → is_token_byte b ≡ true → eqb b 58 ≡ false
no_colon b token =
    let not : b ≢ 58 = λ e. false≢true (sym colon_ends_token ∙ subst (λ (v : ℕ). is_token_byte v ≡ true) e token) in
    ne_eqb b 58 not

no_return : (b : ℕ) → is_newline b ≡ false → eqb b 13 ≡ false
no_return b h = grind (arith, nat_tests)

pub next-method : (b : ℕ) → is_token_byte b ≡ true → next Method b ≡ Method
next-method b token = ap (λ t. cond t Target Method) (no_space b token)

next-blank : (b : ℕ) → is_token_byte b ≡ true → next Blank b ≡ Method
next-blank b token =
    ap (λ t. cond t Blank (cond (eqb b 13) BlankReturn Method)) (not_feed b (token_is_no_newline b token))
    ∙ ap (λ t. cond t BlankReturn Method) (no_return b (token_is_no_newline b token))

pub next-target : (b : ℕ) → is_uri_byte b ≡ true → next Target b ≡ Target
next-target b passes = let no : eqb b 32 ≡ false = grind (arith, nat_tests) in ap (λ t. cond t Version Target) no

next-version : (b : ℕ) → eqb b 10 ≡ false → next Version b ≡ Version
next-version b h = ap (λ t. cond t Line Version) h

next-line : (b : ℕ) → is_token_byte b ≡ true → next Line b ≡ Name
next-line b token = ap (λ t. cond t Unknown Name) (token_is_no_newline b token)

pub next-name : (b : ℕ) → is_token_byte b ≡ true → next Name b ≡ Name
next-name b token = ap (λ t. cond t Value Name) (no_colon b token)

pub next-value : (b : ℕ) → is_value_byte b ≡ true → next Value b ≡ Value
next-value b passes =
    let no : eqb b 10 ≡ false = grind (arith, nat_tests) in
    let neither : eqb b 13 ≡ false = grind (arith, nat_tests) in
    ap (λ t. cond t Line (cond (eqb b 13) ValueReturn Value)) no ∙ ap (λ t. cond t ValueReturn Value) neither

-- ---- parts of a head

pub from-blank : (ends : List LineEnd) → place_from Blank (print_blank ends) ≡ Blank
from-blank [] = refl
from-blank (crlf ∷ ends) = from-blank ends
from-blank (lf ∷ ends) = from-blank ends

-- a word that begins at one place goes on at another
from-word : (p q : Place) → ((b : ℕ) → is_token_byte b ≡ true → next p b ≡ q) → ((b : ℕ) → is_token_byte b ≡ true → next q b ≡ q)
    → (word : List ℕ) → IsToken word → place_from p word ≡ q
from-word p q first others [] token = absurd (omega (arith, token.0))
from-word p q first others (b ∷ word) token =
    ap (λ r. place_from r word) (first b (All-head (λ v. IsTrue (is_token_byte v)) b word token.1))
    ∙ from-kept (λ v. IsTrue (is_token_byte v)) q others word (All-tail (λ v. IsTrue (is_token_byte v)) b word token.1)

pub from-method : (word : List ℕ) → IsToken word → place_from Blank word ≡ Method
from-method = from-word Blank Method next-blank next-method

pub from-target : (word : List ℕ) → AllPass is_uri_byte word → place_from Target word ≡ Target
from-target = from-kept (λ v. IsTrue (is_uri_byte v)) Target next-target

pub from-version : (word : List ℕ) → IsPlain word → place_from Version word ≡ Version
from-version = from-kept (λ v. eqb v 10 ≡ false) Version next-version

pub from-name : (word : List ℕ) → IsToken word → place_from Line word ≡ Name
from-name = from-word Line Name next-line next-name

pub from-value : (word : List ℕ) → AllPass is_value_byte word → place_from Value word ≡ Value
from-value = from-kept (λ v. IsTrue (is_value_byte v)) Value next-value

pub from-version_end : (end : LineEnd) → place_from Version (print_end end) ≡ Line
from-version_end crlf = refl
from-version_end lf = refl

pub from-value_end : (end : LineEnd) → place_from Value (print_end end) ≡ Line
from-value_end crlf = refl
from-value_end lf = refl

pub from-field : (f : Field) (rest : List ℕ) → IsField f → place_from Line (print_field f ++ rest) ≡ place_from Line rest
from-field f rest is =
    ap (place_from Line) (print_field-append f rest)
    ∙ from-behind Line Name f.name (58 ∷ (f.raw ++ (print_end f.end ++ rest))) (from-name f.name is.name)
    ∙ from-behind Value Value f.raw (print_end f.end ++ rest) (from-value f.raw is.raw)
    ∙ from-behind Value Line (print_end f.end) rest (from-value_end f.end)

-- ---- fronts

-- what begins as parts do goes on behind the first of them, or ends within it
pub cut : (first others octets more : List ℕ) → octets ++ more ≡ first ++ others
    → ((b : ℕ) × (rest : List ℕ) × (octets ≡ first ++ b ∷ rest) × (b ∷ (rest ++ more) ≡ others)) ⊎ ((rest : List ℕ) × (first ≡ octets ++ rest))
cut first others octets more e =
    elim (cases_lt (length first) (length octets)) [
      | inl longer ↦
          let front = split_front octets more first others e (omega (arith, longer)) in
          inl (some (drop (length first) octets) front.0 front.1 (omega (arith, longer, length-drop (length first) octets)))
      | inr within ↦ inr (drop (length octets) first, (split_front first others octets more (sym e) within).0)
    ]
  where
    some : (q : List ℕ) → octets ≡ first ++ q → q ++ more ≡ others → 0 < length q
        → (b : ℕ) × (rest : List ℕ) × (octets ≡ first ++ b ∷ rest) × (b ∷ (rest ++ more) ≡ others)
    some [] x y h = absurd (omega arith)
    some (b ∷ rest) x y h = (b, rest, x, y)

-- a front of empty lines is some of them, and maybe the CR of another
pub cut_blank : (ends : List LineEnd) (octets rest : List ℕ) → print_blank ends ≡ octets ++ rest
    → ((some : List LineEnd) × (octets ≡ print_blank some)) ⊎ ((some : List LineEnd) × (octets ≡ print_blank some ++ 13 ∷ []))
cut_blank ends [] rest e = inl ([], refl)
cut_blank [] (b ∷ octets) rest e = absurd cc
cut_blank (crlf ∷ ends) (b ∷ []) rest e = let same : 13 ≡ b = cc in inr ([], ap (λ (v : ℕ). v ∷ []) (sym same))
cut_blank (crlf ∷ ends) (b ∷ c ∷ octets) rest e =
    let first : 13 ≡ b = cc in
    let second : 10 ≡ c = cc in
    elim (cut_blank ends octets rest (cc)) [
      | inl (some, x) ↦ inl (crlf ∷ some, cc)
      | inr (some, x) ↦ inr (crlf ∷ some, cc)
    ]
cut_blank (lf ∷ ends) (b ∷ octets) rest e =
    let first : 10 ≡ b = cc in
    elim (cut_blank ends octets rest (cc)) [
      | inl (some, x) ↦ inl (lf ∷ some, cc)
      | inr (some, x) ↦ inr (lf ∷ some, cc)
    ]

-- a front of a line end, of which the CR leads from one place to another and the LF behind the line
pub cut_end : (P : Place → Type 0) (p q : Place) → next p 10 ≡ Line → next p 13 ≡ q → next q 10 ≡ Line → (end : LineEnd) (b : ℕ) (octets rest : List ℕ)
    → (b ≡ 13 → octets ≡ [] → P q) → P Line → print_end end ≡ b ∷ (octets ++ rest) → P (place_from p (b ∷ octets))
cut_end P p q feed return behind crlf b [] rest here there e =
    let same : 13 ≡ b = cc in
    subst P (sym (ap (next p) (sym same) ∙ return)) (here (sym same) refl)
cut_end P p q feed return behind crlf b (c ∷ []) rest here there e =
    let first : 13 ≡ b = cc in
    let second : 10 ≡ c = cc in
    let r : next (next p b) c ≡ Line = ap (λ (s : Place). next s c) (ap (next p) (sym first) ∙ return) ∙ ap (next q) (sym second) ∙ behind in
    subst P (sym r) there
cut_end P p q feed return behind crlf b (c ∷ d ∷ octets) rest here there e = absurd cc
cut_end P p q feed return behind lf b [] rest here there e =
    let same : 10 ≡ b = cc in
    subst P (sym (ap (next p) (sym same) ∙ feed)) there
cut_end P p q feed return behind lf b (c ∷ octets) rest here there e = absurd cc

-- a front of the empty line behind the fields
pub cut_last : (P : Place → Type 0) → P Unknown → P Line → (end : LineEnd) (octets rest : List ℕ) → print_end end ≡ octets ++ rest → P (place_from Line octets)
cut_last P here there end [] rest e = there
cut_last P here there crlf (b ∷ []) rest e = let same : 13 ≡ b = cc in subst (λ (v : ℕ). P (next Line v)) same here
cut_last P here there crlf (b ∷ c ∷ []) rest e = let same : 13 ≡ b = cc in subst (λ (v : ℕ). P (next (next Line v) c)) same here
cut_last P here there crlf (b ∷ c ∷ d ∷ octets) rest e = absurd cc
cut_last P here there lf (b ∷ []) rest e = let same : 10 ≡ b = cc in subst (λ (v : ℕ). P (next Line v)) same here
cut_last P here there lf (b ∷ c ∷ octets) rest e = absurd cc
