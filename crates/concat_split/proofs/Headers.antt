-- The header that goes out is well-formed, says which part this is, and has the length that its room was counted with.
use Rattle.std.proofs.Common.{◌≡◌, ℕ, suc, ◌+◌, ◌-◌, ◌%◌, ◌<◌, Bool, true, false, cond, eqb, ltb, List, [], ◌∷◌, ◌++◌, length, Option, Some, None, refl, sym, ap, ◌∙◌, arith, inl, inr, length-append}
use Rattle.std.specs.Option.{option_or}
use Rattle.std.proofs.lemmas.Bool.{cases_Bool, lt-ltb, ne_eqb}
use Rattle.std.proofs.lemmas.List.Concat.{flat_map-append}
use Rattle.sms_record.specs.Header.{Element, element, elements, header, IsHeaderOrNone}
use Rattle.sms_record.specs.HeaderReading.{element_of}
use Rattle.sms_record.specs.Room.{header_len}
use Rattle.concat_split.specs.declared.joint.Joint.{Joint}
use Rattle.concat_split.specs.Joint.{joint_of, first_joint, Says}
use Rattle.concat_split.specs.Outgoing.{reference, joint_element, with_element, header_of}

-- the element for concatenated short messages
abbrev joining : ℕ → ℕ → ℕ → Element
joining reference total part = element_of 0 (reference ∷ total ∷ part ∷ [])

elements-append : (es : List Element) (e : Element) → elements (es ++ e ∷ []) ≡ elements es ++ elements (e ∷ [])
elements-append es e = flat_map-append element es (e ∷ [])

-- with the element at its end it is a header
header-with_element : (es : List Element) (r t p : ℕ) → with_element (header es) (joint_element r t p) ≡ header (es ++ joining r t p ∷ [])
header-with_element es r t p =
    let whole : elements (es ++ joining r t p ∷ []) ≡ elements es ++ joint_element r t p = elements-append es (joining r t p) in
    let size : length (elements es) + 5 ≡ length (elements (es ++ joining r t p ∷ [])) = omega (arith, ap length whole, length-append (elements es) (joint_element r t p)) in
    ap (λ (n : ℕ). n ∷ (elements es ++ joint_element r t p)) size ∙ ap (λ (w : List ℕ). length (elements (es ++ joining r t p ∷ [])) ∷ w) (sym whole)

first_joint-append : (es : List Element) (r t p : ℕ) → first_joint es ≡ None → first_joint (es ++ joining r t p ∷ []) ≡ Some (record { reference = r; total = t; part = p })
first_joint-append [] r t p none = refl
first_joint-append (e ∷ es) r t p none =
    let parts = neither (joint_of e) (first_joint es) none in
    ap (λ (j : Option Joint). option_or j (first_joint (es ++ joining r t p ∷ []))) parts.0 ∙ first_joint-append es r t p parts.1
  where
    neither : (a b : Option Joint) → option_or a b ≡ None → (a ≡ None) × (b ≡ None)
    neither None b e = (refl, e)
    neither (Some x) b e = absurd cc

pub out_formed : (udh : List ℕ) (total part number : ℕ) → IsHeaderOrNone udh → IsHeaderOrNone (header_of udh total part number)
out_formed udh total part number h =
    elim (cases_Bool (ltb 1 total)) [
      | inl more ↦ elim h [
        | inl none ↦ rw (more, none) (inr (joining (reference number part) total part ∷ [], refl))
        | inr own ↦
            let e : with_element udh (joint_element (reference number part) total part) ≡ header (own.0 ++ joining (reference number part) total part ∷ []) = ap (λ (w : List ℕ). with_element w (joint_element (reference number part) total part)) own.1 ∙ header-with_element own.0 (reference number part) total part in
            rw more (inr (own.0 ++ joining (reference number part) total part ∷ [], e))
      ]
      | inr one ↦ rw one h
    ]

pub out_says : (udh : List ℕ) (total part number : ℕ) → Says udh None → 1 < total → Says (header_of udh total part number) (Some (record { reference = reference number part; total = total; part = part }))
out_says udh total part number says more =
    let test : ltb 1 total ≡ true = lt-ltb _ _ more in
    elim says [
      | inl none ↦ rw (test, none.0) (inr (joining (reference number part) total part ∷ [], refl, refl))
      | inr own ↦
          let e : with_element udh (joint_element (reference number part) total part) ≡ header (own.0 ++ joining (reference number part) total part ∷ []) = ap (λ (w : List ℕ). with_element w (joint_element (reference number part) total part)) own.1 ∙ header-with_element own.0 (reference number part) total part in
          rw test (inr (own.0 ++ joining (reference number part) total part ∷ [], e, sym (first_joint-append own.0 (reference number part) total part (sym own.2))))
    ]

-- the parts of one message share their reference: its parts 1, 2, .. go out as messages that follow each other
pub reference-shared : (first k : ℕ) → reference (first + k) (1 + k) ≡ reference first 1
reference-shared first k = let same : first + k + 257 - (1 + k) ≡ first + 257 - 1 = omega arith in ap (λ (n : ℕ). n % 256) same

length-with_element : (is_joined : Bool) (udh added : List ℕ) → length added ≡ 5 → length (cond is_joined (with_element udh added) udh) ≡ cond is_joined (cond (eqb (length udh) 0) 6 (length udh + 5)) (length udh)
length-with_element false udh added five = refl
length-with_element true [] added five = omega (arith, five)
length-with_element true (octets ∷ rest) added five =
    let some : eqb (suc (length rest)) 0 ≡ false = ne_eqb (suc (length rest)) 0 (λ e. omega arith) in
    rw some (omega (arith, five, length-append rest added))

-- the header that goes out has as many octets as its room is counted with
pub length-header_of : (udh : List ℕ) (total part number : ℕ) → length (header_of udh total part number) ≡ header_len (length udh) total
length-header_of udh total part number = length-with_element (ltb 1 total) udh (joint_element (reference number part) total part) refl
