-- The longest front, and the last separator in it, as a scan finds them.
use Rattle.std.proofs.Common.{◌≡◌, ℕ, suc, ◌+◌, ◌-◌, ◌<◌, ◌≤◌, Bool, true, false, cond, eqb, leb, List, [], ◌∷◌, ◌++◌, length, take, drop, Option, Some, None, refl, sym, ap, subst, ◌∙◌, arith, inl, inr, length-append}
use Rattle.std.proofs.lemmas.Bool.{cases_Bool, ne_eqb, le-leb, lt-leb}
use Rattle.std.proofs.lemmas.List.{drop-drop, length-take-le, drop_all}
use Rattle.std.specs.Prelude.{unwrap_or}
use Rattle.std.specs.List.{concat}
use Rattle.sms_record.specs.declared.coding.Coding.{Coding}
use Rattle.concat_split.specs.Characters.{characters, units_of, units, IsFirst, Cuts}
use Rattle.concat_split.specs.Parts.{front, is_among, up_to_last, broken}
use Rattle.concat_split.proofs.Cuts.{characters_none, IsFront, cuts_from}

-- the longest front is a front
pub front_first : (coding : Coding) (room : ℕ) (cs : List (List ℕ)) → IsFront (front coding room cs) cs
front_first coding room [] = record { parts = refl }
front_first coding room (c ∷ cs) =
    elim (cases_Bool (leb (units coding c) room)) [
      | inl e ↦ record { parts = rw e (ap (λ (w : List (List ℕ)). c ∷ w) (front_first coding (room - units coding c) cs).parts) }
      | inr e ↦ record { parts = rw e refl }
    ]

-- what ends with the last separator is a front
pub last_first : (separators cs : List (List ℕ)) → IsFront (up_to_last separators cs) cs
last_first separators [] = record { parts = refl }
last_first separators (c ∷ cs) =
    elim (cases_Bool (eqb (length (up_to_last separators cs)) 0)) [
      | inl e ↦ elim (cases_Bool (is_among separators c)) [
        | inl s ↦ record { parts = rw (e, s) refl }
        | inr s ↦ record { parts = rw (e, s) refl }
      ]
      | inr e ↦ record { parts = rw e (ap (λ (w : List (List ℕ)). c ∷ w) (last_first separators cs).parts) }
    ]

-- so is what a part takes
pub broken_first : (separators cs : List (List ℕ)) → IsFront (broken separators cs) cs
broken_first separators cs =
    elim (cases_Bool (eqb (length (up_to_last separators cs)) 0)) [
      | inl e ↦ record { parts = rw e (whole cs) }
      | inr e ↦ record { parts = rw e (last_first separators cs).parts }
    ] where
      whole : (ds : List (List ℕ)) → ds ≡ ds ++ drop (length ds) ds
      whole [] = refl
      whole (d ∷ ds) = ap (λ (w : List (List ℕ)). d ∷ w) (whole ds)

-- a front of a front is a front
pub first_first : (ps qs cs : List (List ℕ)) → IsFront ps qs → IsFront qs cs → IsFront ps cs
first_first [] qs cs f g = record { parts = refl }
first_first (p ∷ ps) [] cs f g = absurd (let bad = f.parts in cc)
first_first (p ∷ ps) (q ∷ qs) [] f g = absurd (let bad = g.parts in cc)
first_first (p ∷ ps) (q ∷ qs) (c ∷ cs) f g =
    let f' = f.parts in
    let g' = g.parts in
    let heads : p ≡ c = cc in
    let fs : qs ≡ ps ++ drop (length ps) qs = cc in
    let gs : cs ≡ qs ++ drop (length qs) cs = cc in
    let h = (first_first ps qs cs (record { parts = fs }) (record { parts = gs })).parts in
    record { parts = ap (λ (d : List ℕ). d ∷ cs) (sym heads) ∙ ap (λ (w : List (List ℕ)). p ∷ w) h }

-- with no separators a part takes the whole front
pub broken_none : (cs : List (List ℕ)) → broken [] cs ≡ cs
broken_none cs = rw (none cs) refl
  where
    none : (ds : List (List ℕ)) → up_to_last [] ds ≡ []
    none [] = refl
    none (d ∷ ds) = rw (none ds) refl

-- ---- the scan

-- where the last separator ends, when characters that stand from an offset on are still to come
abbrev pub last_at : List (List ℕ) → ℕ → Option ℕ → List (List ℕ) → Option ℕ
last_at separators at found cs = cond (eqb (length (up_to_last separators cs)) 0) found (Some (at + length (concat (up_to_last separators cs))))

last_at-cons : (separators : List (List ℕ)) (at : ℕ) (found : Option ℕ) (c : List ℕ) (cs : List (List ℕ)) → last_at separators at found (c ∷ cs) ≡ last_at separators (at + length c) (cond (is_among separators c) (Some (at + length c)) found) cs
last_at-cons separators at found c cs =
    elim (cases_Bool (eqb (length (up_to_last separators cs)) 0)) [
      | inl e ↦ elim (cases_Bool (is_among separators c)) [
        | inl s ↦ rw (e, s) (ap (λ (n : ℕ). Some (at + n)) (omega (arith, length-append c [])))
        | inr s ↦ rw (e, s) refl
      ]
      | inr e ↦
          let more : eqb (suc (length (up_to_last separators cs))) 0 ≡ false = ne_eqb _ _ (λ h. absurd (omega arith)) in
          rw (e, more) (ap (λ (n : ℕ). Some n) (omega (arith, length-append c (concat (up_to_last separators cs)))))
    ]

-- what holds while a text is scanned
pub record Scans (coding : Coding) (text : List ℕ) (room : ℕ) (separators : List (List ℕ)) (at left : ℕ) (found : Option ℕ) : Type 0 where
  pub within : at ≤ length text
  pub front_end : at + length (concat (front coding left (characters coding (drop at text)))) ≡ length (concat (front coding room (characters coding text)))
  pub last_end : last_at separators at found (front coding left (characters coding (drop at text))) ≡ last_at separators 0 None (front coding room (characters coding text))

pub scans_none : (coding : Coding) (text : List ℕ) (room : ℕ) (separators : List (List ℕ)) → Scans coding text room separators 0 room None
scans_none coding text room separators = record { within = omega arith; front_end = omega arith; last_end = refl }

-- one character more
pub scans_more : (coding : Coding) (text : List ℕ) (room : ℕ) (separators : List (List ℕ)) (at left : ℕ) (found : Option ℕ) (len : ℕ) (is_separator : Bool) → Scans coding text room separators at left found → IsFirst (characters coding) (drop at text) len → units_of coding len ≤ left → len ≤ length text - at → is_separator ≡ is_among separators (take len (drop at text)) → Scans coding text room separators (at + len) (left - units_of coding len) (cond is_separator (Some (at + len)) found)
scans_more coding text room separators at left found len is_separator s first fits inside among =
    let c : List ℕ = take len (drop at text) in
    let cs : List (List ℕ) = characters coding (drop (at + len) text) in
    let c-len : length c ≡ len = length-take-le len (drop at text) first.within in
    let opened : characters coding (drop at text) ≡ c ∷ cs = first.parts ∙ ap (λ (w : List ℕ). c ∷ characters coding w) (drop-drop len at text) in
    let units-len : units coding c ≡ units_of coding len = ap (units_of coding) c-len in
    let test : leb (units coding c) left ≡ true = le-leb _ _ (subst (λ (n : ℕ). n ≤ left) (sym units-len) fits) in
    let fs : List (List ℕ) = front coding (left - units_of coding len) cs in
    let fronts : front coding left (characters coding (drop at text)) ≡ c ∷ fs = ap (front coding left) opened ∙ ap (λ (b : Bool). cond b (c ∷ front coding (left - units coding c) cs) []) test ∙ ap (λ (n : ℕ). c ∷ front coding (left - n) cs) units-len in
    let sizes : length (concat (front coding left (characters coding (drop at text)))) ≡ length c + length (concat fs) = ap (λ (w : List (List ℕ)). length (concat w)) fronts ∙ length-append c (concat fs) in
    let ends : last_at separators at found (front coding left (characters coding (drop at text))) ≡ last_at separators (at + len) (cond is_separator (Some (at + len)) found) fs = ap (last_at separators at found) fronts ∙ last_at-cons separators at found c fs ∙ ap (λ (n : ℕ). last_at separators (at + n) (cond (is_among separators c) (Some (at + n)) found) fs) c-len ∙ ap (λ (b : Bool). last_at separators (at + len) (cond b (Some (at + len)) found) fs) (sym among) in
    record {
      within = omega (arith, s.within);
      front_end = omega (arith, s.front_end, sizes, c-len);
      last_end = sym ends ∙ s.last_end;
    }

-- nothing more fits
pub scans_full : (coding : Coding) (text : List ℕ) (at left len : ℕ) → IsFirst (characters coding) (drop at text) len → left < units_of coding len → front coding left (characters coding (drop at text)) ≡ []
scans_full coding text at left len first over =
    let c : List ℕ = take len (drop at text) in
    let c-len : length c ≡ len = length-take-le len (drop at text) first.within in
    let test : leb (units coding c) left ≡ false = lt-leb _ _ (subst (λ (n : ℕ). left < n) (sym (ap (units_of coding) c-len)) over) in
    ap (front coding left) first.parts ∙ ap (λ (b : Bool). cond b (c ∷ front coding (left - units coding c) (characters coding (drop len (drop at text)))) []) test

-- nothing more is there
pub scans_all : (coding : Coding) (text : List ℕ) (at left : ℕ) → length text ≤ at → front coding left (characters coding (drop at text)) ≡ []
scans_all coding text at left le = ap (λ (w : List ℕ). front coding left (characters coding w)) (drop_all at text le) ∙ ap (front coding left) (characters_none coding)

-- what the scan ends with
pub scans_end : (coding : Coding) (text : List ℕ) (room : ℕ) (separators : List (List ℕ)) (at left : ℕ) (found : Option ℕ) → Scans coding text room separators at left found → front coding left (characters coding (drop at text)) ≡ [] → Cuts coding text (broken separators (front coding room (characters coding text))) (unwrap_or found at)
scans_end coding text room separators at left found s none =
    let fs : List (List ℕ) = front coding room (characters coding text) in
    let at-is : at ≡ length (concat fs) = omega (arith, s.front_end, ap (λ (w : List (List ℕ)). length (concat w)) none) in
    let found-is : found ≡ last_at separators 0 None fs = sym (ap (last_at separators at found) none) ∙ s.last_end in
    cuts_from coding text (broken separators fs) (unwrap_or found at) (first_first (broken separators fs) fs (characters coding text) (broken_first separators fs) (front_first coding room (characters coding text))) (chosen fs at-is found-is)
  where
    chosen : (fs : List (List ℕ)) → at ≡ length (concat fs) → found ≡ last_at separators 0 None fs → unwrap_or found at ≡ length (concat (broken separators fs))
    chosen fs at-is found-is =
        elim (cases_Bool (eqb (length (up_to_last separators fs)) 0)) [
          | inl e ↦
              let none : found ≡ None = found-is ∙ rw e refl in
              let whole : length (concat fs) ≡ length (concat (broken separators fs)) = rw e refl in
              ap (λ (o : Option ℕ). unwrap_or o at) none ∙ at-is ∙ whole
          | inr e ↦
              let some : found ≡ Some (0 + length (concat (up_to_last separators fs))) = found-is ∙ rw e refl in
              let part : length (concat (up_to_last separators fs)) ≡ length (concat (broken separators fs)) = rw e refl in
              ap (λ (o : Option ℕ). unwrap_or o at) some ∙ omega arith ∙ part
        ]
