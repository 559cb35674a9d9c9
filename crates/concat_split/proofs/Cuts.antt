-- A text is cut between its characters.
use Rattle.std.proofs.Common.{◌≡◌, ℕ, zero, suc, ◌+◌, ◌<◌, ◌≤◌, eqb, ◌&&◌, List, [], ◌∷◌, ◌++◌, length, take, drop, refl, sym, ap, ◌∙◌, arith, inl, inr, length-append}
use Rattle.std.proofs.Math.Seq.{take-add}
use Rattle.std.proofs.lemmas.Bool.{cases_Bool}
use Rattle.std.proofs.lemmas.List.{drop-drop, length-take-le, length-drop, take-append-drop}
use Rattle.std.specs.List.{concat}
use Rattle.sms_record.specs.declared.coding.Coding.{Coding}
use Rattle.sms_record.specs.declared.coding.Coding.TheVariants.{Seven, Eight, Ucs2}
use Rattle.concat_split.specs.Characters.{characters, is_high, is_low, IsFirst, Cuts}

-- a text that isn't empty has a first character
pub first_some : (coding : Coding) (text : List ℕ) → 0 < length text → (n : ℕ) × IsFirst (characters coding) text n
first_some coding [] some = absurd (omega arith)
first_some Seven (s ∷ []) some = (1, record { some = omega arith; within = omega arith; parts = refl })
first_some Seven (s ∷ t ∷ rest) some =
    elim (cases_Bool (eqb s 27)) [
      | inl e ↦ (2, record { some = omega arith; within = omega arith; parts = rw e refl })
      | inr e ↦ (1, record { some = omega arith; within = omega arith; parts = rw e refl })
    ]
first_some Eight (s ∷ rest) some = (1, record { some = omega arith; within = omega arith; parts = refl })
first_some Ucs2 (h ∷ []) some = (1, record { some = omega arith; within = omega arith; parts = refl })
first_some Ucs2 (h ∷ l ∷ []) some = (2, record { some = omega arith; within = omega arith; parts = refl })
first_some Ucs2 (h ∷ l ∷ i ∷ []) some = (2, record { some = omega arith; within = omega arith; parts = refl })
first_some Ucs2 (h ∷ l ∷ i ∷ m ∷ rest) some =
    elim (cases_Bool (is_high h && is_low i)) [
      | inl e ↦ (4, record { some = omega arith; within = omega arith; parts = rw e refl })
      | inr e ↦ (2, record { some = omega arith; within = omega arith; parts = rw e refl })
    ]

-- an empty text has no character
pub characters_none : (coding : Coding) → characters coding [] ≡ []
characters_none Seven = refl
characters_none Eight = refl
characters_none Ucs2 = refl

-- a text whose characters begin with some is cut behind them
pub boundary : (coding : Coding) (ps qs : List (List ℕ)) (text : List ℕ) → characters coding text ≡ ps ++ qs → (length (concat ps) ≤ length text) × (take (length (concat ps)) text ≡ concat ps) × (characters coding (drop (length (concat ps)) text) ≡ qs)
boundary coding [] qs text e = (omega arith, refl, e)
boundary coding (p ∷ ps) qs [] e = absurd (let bad : [] ≡ p ∷ (ps ++ qs) = sym (characters_none coding) ∙ e in cc)
boundary coding (p ∷ ps) qs (b ∷ bs) e =
    let text : List ℕ = b ∷ bs in
    let f = first_some coding text (omega arith) in
    let n : ℕ = f.0 in
    let same : take n text ∷ characters coding (drop n text) ≡ p ∷ (ps ++ qs) = sym f.1.parts ∙ e in
    let head : take n text ≡ p = cc in
    let tail : characters coding (drop n text) ≡ ps ++ qs = cc in
    let h = boundary coding ps qs (drop n text) tail in
    let p-len : length p ≡ n = sym (ap length head) ∙ length-take-le n text f.1.within in
    let k : ℕ = length (concat ps) in
    let sum : length (p ++ concat ps) ≡ n + k = omega (arith, length-append p (concat ps)) in (
      omega (arith, h.0, length-drop n text, f.1.within),
      ap (λ (i : ℕ). take i text) sum ∙ take-add n k text ∙ ap (λ (w : List ℕ). w ++ take k (drop n text)) head ∙ ap (λ (w : List ℕ). p ++ w) h.1,
      ap (λ (i : ℕ). characters coding (drop i text)) sum ∙ ap (characters coding) (sym (drop-drop k n text)) ∙ h.2,
    )

-- the characters put together are the text
pub concat-characters : (coding : Coding) (n : ℕ) (text : List ℕ) → length text ≤ n → concat (characters coding text) ≡ text
concat-characters coding n [] le = ap concat (characters_none coding)
concat-characters coding zero (b ∷ bs) le = absurd (omega arith)
concat-characters coding (suc n) (b ∷ bs) le =
    let text : List ℕ = b ∷ bs in
    let f = first_some coding text (omega arith) in
    let shorter : length (drop f.0 text) ≤ n = omega (arith, length-drop f.0 text, f.1.some, f.1.within) in
    ap concat f.1.parts ∙ ap (λ (w : List ℕ). take f.0 text ++ w) (concat-characters coding n (drop f.0 text) shorter) ∙ take-append-drop f.0 text

-- these characters are the first of those
pub record IsFront (ps cs : List (List ℕ)) : Type 0 where
  pub parts : cs ≡ ps ++ drop (length ps) cs

-- where some are the first of a text's, their octets end between characters
pub cuts_from : (coding : Coding) (text : List ℕ) (ps : List (List ℕ)) (at : ℕ) → IsFront ps (characters coding text) → at ≡ length (concat ps) → Cuts coding text ps at
cuts_from coding text ps at f is =
    let b = boundary coding ps (drop (length ps) (characters coding text)) text f.parts in
    record {
      within = omega (arith, b.0);
      front = ap (λ (i : ℕ). take i text) is ∙ b.1;
      rest = ap (λ (i : ℕ). characters coding (drop i text)) is ∙ b.2;
    }
