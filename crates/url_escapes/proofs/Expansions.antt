-- One octet of a template after the other.
use Rattle.std.proofs.Common.{◌≡◌, ℕ, ◌+◌, ◌<◌, Bool, true, false, ◌==◌, List, [], ◌∷◌, ◌++◌, length, drop, get_or, ap, sym, refl, ◌∙◌, append_assoc}
use Rattle.std.proofs.lemmas.Bool.{ne_eqb}
use Rattle.std.proofs.lemmas.List.{drop_more}
use Rattle.url_escapes.specs.Expansion.{percent, pair_text, left_by_pair, expanded_with, expanded}
use Rattle.url_escapes.specs.declared.facts.Facts.{Facts}
use Rattle.url_escapes.specs.declared.style.Style.{Style}

-- the text of what is left, behind a % that waits for its letter or without one
abbrev pub rest_text : Facts → Style → List (List ℕ) → Bool → List ℕ → List ℕ
rest_text facts style unused true rest = expanded_with facts style unused (percent ∷ rest)
rest_text facts style unused false rest = expanded_with facts style unused rest

-- what is written before a place and what is left from there on are the whole
abbrev pub Continues : Facts → Style → (template text : List ℕ) → List (List ℕ) → Bool → ℕ → Type 0
Continues facts style template text unused in_pair at = text ++ rest_text facts style unused in_pair (drop at template) ≡ expanded template facts style

-- an octet of the template's own
own_first : (facts : Facts) (style : Style) (unused : List (List ℕ)) (octet : ℕ) (rest : List ℕ) → (octet == percent) ≡ false → octet ∷ rest_text facts style unused false rest ≡ rest_text facts style unused false (octet ∷ rest)
own_first facts style unused octet [] h = refl
own_first facts style unused octet (letter ∷ rest) h = rw h refl

-- the letter behind a %
pub letter_step : (facts : Facts) (style : Style) (template text : List ℕ) (unused : List (List ℕ)) (at : ℕ) (text' : List ℕ) (unused' : List (List ℕ)) → at < length template → text' ≡ text ++ pair_text facts style unused (get_or template at 0) → unused' ≡ left_by_pair unused (get_or template at 0) → Continues facts style template text unused true at → Continues facts style template text' unused' false (at + 1)
letter_step facts style template text unused at text' unused' within wrote left before =
    rw (wrote, left)
    (append_assoc text _ _ ∙ ap (λ (rest : List ℕ). text ++ rest_text facts style unused true rest) (sym (drop_more template at 0 within)) ∙ before)

-- a %
pub percent_step : (facts : Facts) (style : Style) (template text : List ℕ) (unused : List (List ℕ)) (at : ℕ) → at < length template → get_or template at 0 ≡ percent → Continues facts style template text unused false at → Continues facts style template text unused true (at + 1)
percent_step facts style template text unused at within is before =
    ap (λ (octet : ℕ). text ++ rest_text facts style unused false (octet ∷ drop (at + 1) template)) (sym is)
    ∙ ap (λ (rest : List ℕ). text ++ rest_text facts style unused false rest) (sym (drop_more template at 0 within)) ∙ before

-- any other octet
pub own_step : (facts : Facts) (style : Style) (template text : List ℕ) (unused : List (List ℕ)) (at : ℕ) (text' : List ℕ) → at < length template → (get_or template at 0 ≡ percent → ⊥) → text' ≡ text ++ get_or template at 0 ∷ [] → Continues facts style template text unused false at → Continues facts style template text' unused false (at + 1)
own_step facts style template text unused at text' within other wrote before =
    rw wrote
    (append_assoc text _ _
    ∙ ap (λ (rest : List ℕ). text ++ rest) (own_first facts style unused (get_or template at 0) (drop (at + 1) template) (ne_eqb _ _ other))
    ∙ ap (λ (rest : List ℕ). text ++ rest_text facts style unused false rest) (sym (drop_more template at 0 within)) ∙ before)
