-- Reading a text octet by octet: what it gives by the first octet that ends it or is wrong.
use Rattle.std.proofs.Common.{◌≡◌, ◌≢◌, ℕ, zero, suc, ◌+◌, ◌-◌, ◌<◌, Bool, true, false, eqb, List, [], ◌∷◌, length, take, drop, get_or, Result, Ok, Err, refl, sym, ap, ◌∙◌, arith}
use Rattle.std.proofs.lemmas.Bool.{eq-eqb, ne_eqb}
use Rattle.exact_octets.specs.declared.read_fault.ReadFault.{ReadFault}
use Rattle.exact_octets.specs.declared.read_fault.ReadFault.TheVariants as faults
use Rattle.smpp_wire.specs.Reading.{text_from}

abbrev wrong_at : ℕ → Result (List ℕ × List ℕ) ReadFault
wrong_at left = Err (faults.Malformed left)

module _ (ends goes : ℕ → Bool) where
  -- with an octet the text goes on
  abbrev pub GoesOn : ℕ → ℕ → Type 0
  GoesOn before octet = (octet ≢ 0) × (goes before ≡ true)

  -- with the first octets it does
  abbrev pub GoesOnFor : ℕ → List ℕ → ℕ → Type 0
  GoesOnFor before octets n = (k : ℕ) → k < n → GoesOn (before + k) (get_or octets k 0)

  first : (before : ℕ) (octet : ℕ) (rest : List ℕ) (n : ℕ) → 0 < n → GoesOnFor before (octet ∷ rest) n → GoesOn before octet
  first before octet rest n lt each =
      let e : before + 0 ≡ before = omega arith in
      let g = each 0 lt in
      (g.0, ap goes (sym e) ∙ g.1)

  others : (before : ℕ) (octet : ℕ) (rest : List ℕ) (n : ℕ) → GoesOnFor before (octet ∷ rest) (suc n) → GoesOnFor (suc before) rest n
  others before octet rest n each k lt =
      let e : before + suc k ≡ suc before + k = omega arith in
      let g = each (suc k) (omega arith) in
      (g.0, ap goes (sym e) ∙ g.1)

  -- it ends there
  pub text_ends : (before : ℕ) (octets : List ℕ) (i : ℕ) → i < length octets → GoesOnFor before octets i → get_or octets i 0 ≡ 0 → (at : ℕ) → before + i ≡ at → ends at ≡ true
      → text_from ends goes before octets ≡ Ok (take i octets, drop (suc i) octets)
  unfolding text_from
  text_ends before [] i lt each zero_is at is may = absurd (omega arith)
  text_ends before (octet ∷ rest) zero lt each zero_is at is may =
      let e : at ≡ before = omega (arith, is) in
      let here : ends before ≡ true = ap ends (sym e) ∙ may in
      let none : eqb octet 0 ≡ true = eq-eqb octet 0 zero_is in
      rw (none, here) refl
  text_ends before (octet ∷ rest) (suc i) lt each zero_is at is may =
      let g = first before octet rest (suc i) (omega arith) each in
      let some : eqb octet 0 ≡ false = ne_eqb octet 0 g.0 in
      let e : suc before + i ≡ at = omega (arith, is) in
      rw (some, g.1, text_ends (suc before) rest i (omega arith) (others before octet rest i each) zero_is at e may) refl

  -- it would end there, and may not
  pub text_ends_wrong : (before : ℕ) (octets : List ℕ) (i : ℕ) → i < length octets → GoesOnFor before octets i → get_or octets i 0 ≡ 0 → (at : ℕ) → before + i ≡ at → ends at ≡ false
      → text_from ends goes before octets ≡ Err (faults.Malformed (length octets - i))
  unfolding text_from
  text_ends_wrong before [] i lt each zero_is at is may = absurd (omega arith)
  text_ends_wrong before (octet ∷ rest) zero lt each zero_is at is may =
      let e : at ≡ before = omega (arith, is) in
      let here : ends before ≡ false = ap ends (sym e) ∙ may in
      let none : eqb octet 0 ≡ true = eq-eqb octet 0 zero_is in
      let all : suc (length rest) ≡ suc (length rest) - 0 = omega arith in
      rw (none, here) (ap wrong_at all)
  text_ends_wrong before (octet ∷ rest) (suc i) lt each zero_is at is may =
      let g = first before octet rest (suc i) (omega arith) each in
      let some : eqb octet 0 ≡ false = ne_eqb octet 0 g.0 in
      let e : suc before + i ≡ at = omega (arith, is) in
      let left : length rest - i ≡ suc (length rest) - suc i = omega arith in
      rw (some, g.1, text_ends_wrong (suc before) rest i (omega arith) (others before octet rest i each) zero_is at e may) (ap wrong_at left)

  -- it may not go on there
  pub text_wrong : (before : ℕ) (octets : List ℕ) (i : ℕ) → i < length octets → GoesOnFor before octets i → get_or octets i 0 ≢ 0 → (at : ℕ) → before + i ≡ at → goes at ≡ false
      → text_from ends goes before octets ≡ Err (faults.Malformed (length octets - i))
  unfolding text_from
  text_wrong before [] i lt each other at is may = absurd (omega arith)
  text_wrong before (octet ∷ rest) zero lt each other at is may =
      let e : at ≡ before = omega (arith, is) in
      let here : goes before ≡ false = ap goes (sym e) ∙ may in
      let some : eqb octet 0 ≡ false = ne_eqb octet 0 other in
      let all : suc (length rest) ≡ suc (length rest) - 0 = omega arith in
      rw (some, here) (ap wrong_at all)
  text_wrong before (octet ∷ rest) (suc i) lt each other at is may =
      let g = first before octet rest (suc i) (omega arith) each in
      let some : eqb octet 0 ≡ false = ne_eqb octet 0 g.0 in
      let e : suc before + i ≡ at = omega (arith, is) in
      let left : length rest - i ≡ suc (length rest) - suc i = omega arith in
      rw (some, g.1, text_wrong (suc before) rest i (omega arith) (others before octet rest i each) other at e may) (ap wrong_at left)

  -- it goes on to the end of what is there
  pub text_short : (before : ℕ) (octets : List ℕ) → GoesOnFor before octets (length octets) → text_from ends goes before octets ≡ Err faults.Short
  unfolding text_from
  text_short before [] each = refl
  text_short before (octet ∷ rest) each =
      let g = first before octet rest (suc (length rest)) (omega arith) each in
      let some : eqb octet 0 ≡ false = ne_eqb octet 0 g.0 in
      rw (some, g.1, text_short (suc before) rest (others before octet rest (length rest) each)) refl
