-- Octets with which what stands where octets end goes on.
use Rattle.std.proofs.Common.{◌≡◌, ◌≢◌, inl, inr, ℕ, ◌⊎◌, Bool, true, false, ◌||◌, eqb, List, [], ◌∷◌, ◌++◌, refl, ap, sym, ◌∙◌, subst, append_assoc}
use Rattle.std.specs.Bool.{IsTrue}
use Rattle.std.proofs.lemmas.Bool.{cases_eq, ne_eqb}
use Rattle.std.proofs.lemmas.List.{append-nil}
use Rattle.std.proofs.lemmas.List.Elements.{All-nil, All-cons}
use Rattle.httparse.specs.Grammar.{is_token_byte, is_uri_byte, is_value_byte, AllPass, crlf, lf}
use Rattle.httparse.specs.Pieces.{is_newline}
use Rattle.http_text.specs.declared.head.place.Place.{Place}
use Rattle.http_text.specs.declared.head.place.Place.TheVariants.{Unknown, Blank, BlankReturn, Method, Target, Version, Line, Name, Value, ValueReturn}
use Rattle.http_text.specs.Head.{IsOpen}
use Rattle.http_text.specs.Place.{BeginsBlank, BeginsValue, BeginsName, StaysOpen, EndsAt}
use Rattle.http_text.specs.PlaceSteps.{next, goes_on}
use Rattle.http_text.proofs.PlaceSteps.{next-method, next-target, next-name, next-value}

-- what is asked of the octets that follow an octet
stays_on : (F G : List ℕ → Type 0) (octets : List ℕ) (b : ℕ) → ((more : List ℕ) → G more → F (b ∷ more)) → StaysOpen F octets → StaysOpen G (octets ++ b ∷ [])
stays_on F G octets b step stays more follows = subst IsOpen (sym (append_assoc octets (b ∷ []) more)) (stays (b ∷ more) (step more follows))

pass_on : (test : ℕ → Bool) (b : ℕ) (more : List ℕ) → test b ≡ true → AllPass test more → AllPass test (b ∷ more)
pass_on test b more here all = All-cons (λ v. IsTrue (test v)) b more here all

no_more : (test : ℕ → Bool) → AllPass test []
no_more test = All-nil (λ v. IsTrue (test v))

-- one of two tests passes
one_of : (b c : ℕ) (q : Bool) → (eqb b c || q) ≡ true → (b ≡ c) ⊎ (q ≡ true)
one_of b c q h =
    elim (cases_eq b c) [
      | inl same ↦ inl same
      | inr other ↦ inr (ap (λ (t : Bool). t || q) (sym (ne_eqb b c other)) ∙ h)
    ]

is_same : (b c : ℕ) → eqb b c ≡ true → b ≡ c
is_same b c h =
    elim (cases_eq b c) [
      | inl same ↦ same
      | inr other ↦ let no : eqb b c ≡ false = ne_eqb b c other in absurd cc
    ]

-- behind a CR the octets end behind an empty line's CR
pub blank_return_stays : (octets : List ℕ) → StaysOpen BeginsBlank octets → StaysOpen (λ more. BeginsBlank (13 ∷ more)) (octets ++ 13 ∷ [])
blank_return_stays octets = stays_on BeginsBlank (λ more. BeginsBlank (13 ∷ more)) octets 13 (λ more follows. follows)

blank_on : (b : ℕ) (octets : List ℕ) → is_newline b ≡ true → StaysOpen BeginsBlank octets → EndsAt (next Blank b) (octets ++ b ∷ [])
blank_on b octets newline stays =
    elim (one_of b 13 (eqb b 10) newline) [
      | inl same ↦
          subst (λ (v : ℕ). EndsAt (next Blank v) (octets ++ v ∷ [])) (sym same)
          (blank_return_stays octets stays)
      | inr passes ↦
          subst (λ (v : ℕ). EndsAt (next Blank v) (octets ++ v ∷ [])) (sym (is_same b 10 passes))
          (stays_on BeginsBlank BeginsBlank octets 10 (λ more follows. (lf ∷ follows.0, follows.1, ap (λ (t : List ℕ). 10 ∷ t) follows.2)) stays)
    ]

blank_feed_on : (b : ℕ) (octets : List ℕ) → eqb b 10 ≡ true → StaysOpen (λ more. BeginsBlank (13 ∷ more)) octets → StaysOpen BeginsBlank (octets ++ b ∷ [])
blank_feed_on b octets feed stays =
    subst (λ (v : ℕ). StaysOpen BeginsBlank (octets ++ v ∷ [])) (sym (is_same b 10 feed))
    (stays_on (λ more. BeginsBlank (13 ∷ more)) BeginsBlank octets 10 (λ more follows. (crlf ∷ follows.0, follows.1, ap (λ (t : List ℕ). 13 ∷ 10 ∷ t) follows.2)) stays)

name_on : (b : ℕ) (octets : List ℕ) → (eqb b 58 || is_token_byte b) ≡ true → StaysOpen BeginsName octets → EndsAt (next Name b) (octets ++ b ∷ [])
name_on b octets passes stays =
    elim (one_of b 58 (is_token_byte b) passes) [
      | inl colon ↦
          subst (λ (v : ℕ). EndsAt (next Name v) (octets ++ v ∷ [])) (sym colon)
          (stays_on BeginsName BeginsValue octets 58
          (λ more (value, end, rest, all, e). ([], value, end, rest, no_more is_token_byte, all, ap (λ (t : List ℕ). 58 ∷ t) e)) stays)
      | inr token ↦
          subst (λ p. EndsAt p (octets ++ b ∷ [])) (sym (next-name b token))
          (stays_on BeginsName BeginsName octets b
          (λ more (name, value, end, rest, all, others, e). (b ∷ name, value, end, rest, pass_on is_token_byte b name token all, others, ap (λ (t : List ℕ). b ∷ t) e)) stays)
    ]

-- behind a CR the octets end behind a value's CR
pub return_stays : (octets : List ℕ) → StaysOpen BeginsValue octets → StaysOpen (λ more. BeginsValue (13 ∷ more)) (octets ++ 13 ∷ [])
return_stays octets = stays_on BeginsValue (λ more. BeginsValue (13 ∷ more)) octets 13 (λ more follows. follows)

value_on : (b : ℕ) (octets : List ℕ) → (eqb b 13 || (eqb b 10 || is_value_byte b)) ≡ true → StaysOpen BeginsValue octets → EndsAt (next Value b) (octets ++ b ∷ [])
value_on b octets passes stays =
    elim (one_of b 13 (eqb b 10 || is_value_byte b) passes) [
      | inl same ↦ subst (λ (v : ℕ). EndsAt (next Value v) (octets ++ v ∷ [])) (sym same) (return_stays octets stays)
      | inr others ↦
          elim (one_of b 10 (is_value_byte b) others) [
            | inl same ↦
                subst (λ (v : ℕ). EndsAt (next Value v) (octets ++ v ∷ [])) (sym same) (stays (10 ∷ []) ([], lf, [], no_more is_value_byte, refl))
            | inr here ↦
                subst (λ p. EndsAt p (octets ++ b ∷ [])) (sym (next-value b here))
                (stays_on BeginsValue BeginsValue octets b
                (λ more (value, end, rest, all, e). (b ∷ value, end, rest, pass_on is_value_byte b value here all, ap (λ (t : List ℕ). b ∷ t) e)) stays)
          ]
    ]

feed_on : (b : ℕ) (octets : List ℕ) → eqb b 10 ≡ true → StaysOpen (λ more. BeginsValue (13 ∷ more)) octets → IsOpen (octets ++ b ∷ [])
feed_on b octets feed stays =
    subst (λ (v : ℕ). IsOpen (octets ++ v ∷ [])) (sym (is_same b 10 feed)) (stays (10 ∷ []) ([], crlf, [], no_more is_value_byte, refl))

-- behind such an octet the octets end at the next place
pub ends_next : (p : Place) (b : ℕ) (octets : List ℕ) → goes_on p b ≡ true → EndsAt p octets → EndsAt (next p b) (octets ++ b ∷ [])
ends_next Unknown b octets h at = absurd cc
ends_next Blank b octets h at = blank_on b octets h at
ends_next BlankReturn b octets h at = blank_feed_on b octets h at
ends_next Method b octets h at =
    subst (λ p. EndsAt p (octets ++ b ∷ [])) (sym (next-method b h))
    (stays_on (AllPass is_token_byte) (AllPass is_token_byte) octets b (λ more all. pass_on is_token_byte b more h all) at)
ends_next Target b octets h at =
    subst (λ p. EndsAt p (octets ++ b ∷ [])) (sym (next-target b h))
    (stays_on (AllPass is_uri_byte) (AllPass is_uri_byte) octets b (λ more all. pass_on is_uri_byte b more h all) at)
ends_next Version b octets h at = absurd cc
ends_next Line b octets h at = absurd cc
ends_next Name b octets h at = name_on b octets h at
ends_next Value b octets h at = value_on b octets h at
ends_next ValueReturn b octets h at = feed_on b octets h at

stays_now : (F : List ℕ → Type 0) (octets : List ℕ) → F [] → StaysOpen F octets → IsOpen octets
stays_now F octets none stays = subst IsOpen (append-nil octets) (stays [] none)

-- octets that end at a place that is known need more
pub open_at : (p : Place) (octets : List ℕ) → p ≢ Unknown → EndsAt p octets → IsOpen octets
open_at Unknown octets known at = absurd (known refl)
open_at Blank octets known at = stays_now BeginsBlank octets ([], [], refl) at
open_at BlankReturn octets known at = stays_now (λ more. BeginsBlank (13 ∷ more)) octets (crlf ∷ [], 10 ∷ [], refl) at
open_at Method octets known at = stays_now (AllPass is_token_byte) octets (no_more is_token_byte) at
open_at Target octets known at = stays_now (AllPass is_uri_byte) octets (no_more is_uri_byte) at
open_at Version octets known at = at
open_at Line octets known at = at
open_at Name octets known at =
    stays_now BeginsName octets ([], [], lf, 58 ∷ 10 ∷ [], no_more is_token_byte, no_more is_value_byte, refl) at
open_at Value octets known at = stays_now BeginsValue octets ([], lf, 10 ∷ [], no_more is_value_byte, refl) at
open_at ValueReturn octets known at =
    stays_now (λ more. BeginsValue (13 ∷ more)) octets ([], crlf, 10 ∷ [], no_more is_value_byte, refl) at
