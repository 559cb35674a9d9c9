-- Pairs in the order of their numbers: what a change leaves of them.
use Rattle.std.proofs.Common.{◌≡◌, refl, sym, ap, ◌∙◌, subst, ℕ, ◌+◌, ◌<◌, ◌≤◌, ◌==◌, Bool, true, false, not, cond, List, [], ◌∷◌, ◌++◌, length, map, Some, None, arith, sum_by, add-zero, ◌≢◌, suc, ne_eqb, eq-eqb, ⊎_elim}
use Rattle.std.proofs.lemmas.Bool.{cases_eq}
use Rattle.std.proofs.lemmas.List.Elements.{All-nil, All-cons}
use Rattle.std.proofs.lemmas.List.Sums.{sum_by-cons}
use Rattle.numbered_table.specs.Pairs.{value_under, without, with_value, AllBelow}
use Rattle.gate_model.specs.Numbers.{with_change, with_changes, numbered_from, Rise}

-- a number is this one, or another
pub by_number : (P : Bool → Type 0) (a b : ℕ) → (a ≡ b → P true) → (a ≢ b → P false) → P (a == b)
by_number P a b same other =
    ⊎_elim (λ (e : a ≡ b). subst P (sym (eq-eqb a b e)) (same e)) (λ (ne : a ≢ b). subst P (sym (ne_eqb a b ne)) (other ne)) (cases_eq a b)

module _ {T : Type 0} where
  -- numbers that rise from further on rise from here on, and below a greater bound
  pub Rise-wider : (from below least most : ℕ) (pairs : List (ℕ × T)) → least ≤ from → below ≤ most → Rise from below pairs → Rise least most pairs
  Rise-wider from below least most [] low high rise = tt
  Rise-wider from below least most (pair ∷ pairs) low high rise =
      (omega arith, omega arith, Rise-wider (pair.0 + 1) below (pair.0 + 1) most pairs (omega arith) high rise.2)

  pub AllBelow-Rise : (from below : ℕ) (pairs : List (ℕ × T)) → Rise from below pairs → AllBelow below pairs
  AllBelow-Rise from below [] rise = All-nil (λ (pair : ℕ × T). pair.0 < below)
  AllBelow-Rise from below (pair ∷ pairs) rise = All-cons (λ (pair : ℕ × T). pair.0 < below) pair pairs rise.1 (AllBelow-Rise (pair.0 + 1) below pairs rise.2)

  -- ---- a number before all others

  pub value_under-before : (from below number : ℕ) (pairs : List (ℕ × T)) → number < from → Rise from below pairs → value_under number pairs ≡ None
  value_under-before from below number [] lt rise = refl
  value_under-before from below number (pair ∷ pairs) lt rise =
      rw (ne_eqb pair.0 number (λ e. omega arith)) (value_under-before (pair.0 + 1) below number pairs (omega arith) rise.2)

  pub without-before : (from below number : ℕ) (pairs : List (ℕ × T)) → number < from → Rise from below pairs → without number pairs ≡ pairs
  without-before from below number [] lt rise = refl
  without-before from below number (pair ∷ pairs) lt rise =
      rw (ne_eqb pair.0 number (λ e. omega arith)) (ap (λ ps. pair ∷ ps) (without-before (pair.0 + 1) below number pairs (omega arith) rise.2))

  pub with_change-before : (from below number : ℕ) (change : T → T) (pairs : List (ℕ × T)) → number < from → Rise from below pairs → with_change number change pairs ≡ pairs
  with_change-before from below number change [] lt rise = refl
  with_change-before from below number change (pair ∷ pairs) lt rise =
      rw (ne_eqb pair.0 number (λ e. omega arith)) (ap (λ ps. pair ∷ ps) (with_change-before (pair.0 + 1) below number change pairs (omega arith) rise.2))

  pub with_value-before : (from below number : ℕ) (value : T) (pairs : List (ℕ × T)) → number < from → Rise from below pairs → with_value number value pairs ≡ pairs
  with_value-before from below number value [] lt rise = refl
  with_value-before from below number value (pair ∷ pairs) lt rise =
      rw (ne_eqb pair.0 number (λ e. omega arith)) (ap (λ ps. pair ∷ ps) (with_value-before (pair.0 + 1) below number value pairs (omega arith) rise.2))

  -- ---- the numbers rise still

  pub Rise-without : (from below number : ℕ) (pairs : List (ℕ × T)) → Rise from below pairs → Rise from below (without number pairs)
  Rise-without from below number [] rise = tt
  Rise-without from below number (pair ∷ pairs) rise =
      let rest = Rise-without (pair.0 + 1) below number pairs rise.2 in
      elim (pair.0 == number) as (λ b. Rise from below (cond (not b) (pair ∷ without number pairs) (without number pairs))) [
        | true ↦ Rise-wider (pair.0 + 1) below from below (without number pairs) (omega arith) (omega arith) rest
        | false ↦ (rise.0, rise.1, rest)
      ]

  pub Rise-with_change : (from below number : ℕ) (change : T → T) (pairs : List (ℕ × T)) → Rise from below pairs → Rise from below (with_change number change pairs)
  Rise-with_change from below number change [] rise = tt
  Rise-with_change from below number change (pair ∷ pairs) rise =
      let rest = Rise-with_change (pair.0 + 1) below number change pairs rise.2 in
      elim (pair.0 == number) as (λ b. Rise from below (cond b (pair.0, change pair.1) pair ∷ with_change number change pairs)) [
        | true ↦ (rise.0, rise.1, rest)
        | false ↦ (rise.0, rise.1, rest)
      ]

  pub Rise-numbered_from : (first below : ℕ) (values : List T) → first + length values ≤ below → Rise first below (numbered_from first values)
  Rise-numbered_from first below [] le = tt
  Rise-numbered_from first below (value ∷ values) le = (omega arith, omega arith, Rise-numbered_from (first + 1) below values (omega arith))

  pub Rise-append : (from middle below : ℕ) (pairs others : List (ℕ × T)) → Rise from middle pairs → Rise middle below others → from ≤ middle → middle ≤ below → Rise from below (pairs ++ others)
  Rise-append from middle below [] others rise more low high = Rise-wider middle below from below others low (omega arith) more
  Rise-append from middle below (pair ∷ pairs) others rise more low high =
      (rise.0, omega arith, Rise-append (pair.0 + 1) middle below pairs others rise.2 more (omega arith) high)

  -- ---- what is under a number

  -- a change of the value under a number is another value under it
  pub with_change-value : (from below number : ℕ) (change : T → T) (value : T) (pairs : List (ℕ × T)) → Rise from below pairs → value_under number pairs ≡ Some value
      → with_value number (change value) pairs ≡ with_change number change pairs
  with_change-value from below number change value [] rise is = refl
  with_change-value from below number change value (pair ∷ pairs) rise is =
      by_number
      (λ b. cond b (Some pair.1) (value_under number pairs) ≡ Some value → cond b (number, change value) pair ∷ with_value number (change value) pairs ≡ cond b (pair.0, change pair.1) pair ∷ with_change number change pairs)
      pair.0 number
      (λ e there.
      let value_is : pair.1 ≡ value = cc in
      let first : ◌≡◌ {A = ℕ × T} (number, change value) (pair.0, change pair.1) = cc in
      rw (with_value-before (pair.0 + 1) below number (change value) pairs (omega arith) rise.2, with_change-before (pair.0 + 1) below number change pairs (omega arith) rise.2)
      (ap (λ p. p ∷ pairs) first))
      (λ ne there. ap (λ ps. pair ∷ ps) (with_change-value (pair.0 + 1) below number change value pairs rise.2 there))
      is

  -- what one pair adds to a sum
  module _ (count : ℕ × T → ℕ) where
    -- a pair less is what it adds less
    pub sum_by-without : (from below number : ℕ) (value : T) (pairs : List (ℕ × T)) → Rise from below pairs → value_under number pairs ≡ Some value
        → sum_by count (without number pairs) + count (number, value) ≡ sum_by count pairs
    sum_by-without from below number value [] rise is = absurd cc
    sum_by-without from below number value (pair ∷ pairs) rise is =
        by_number
        (λ b. cond b (Some pair.1) (value_under number pairs) ≡ Some value → sum_by count (cond (not b) (pair ∷ without number pairs) (without number pairs)) + count (number, value) ≡ sum_by count (pair ∷ pairs))
        pair.0 number
        (λ e there.
        let value_is : pair.1 ≡ value = cc in
        let first : ◌≡◌ {A = ℕ × T} (number, value) (pair.0, pair.1) = cc in
        rw (without-before (pair.0 + 1) below number pairs (omega arith) rise.2, first) (omega (arith, sum_by-cons count pair pairs)))
        (λ ne there.
        let rest = sum_by-without (pair.0 + 1) below number value pairs rise.2 there in
        omega (arith, rest, sum_by-cons count pair pairs, sum_by-cons count pair (without number pairs)))
        is

    -- another value is what it adds more, and what the one that was added less
    pub sum_by-with_change : (from below number : ℕ) (change : T → T) (value : T) (pairs : List (ℕ × T)) → Rise from below pairs → value_under number pairs ≡ Some value
        → sum_by count (with_change number change pairs) + count (number, value) ≡ sum_by count pairs + count (number, change value)
    sum_by-with_change from below number change value [] rise is = absurd cc
    sum_by-with_change from below number change value (pair ∷ pairs) rise is =
        by_number
        (λ b. cond b (Some pair.1) (value_under number pairs) ≡ Some value → sum_by count (cond b (pair.0, change pair.1) pair ∷ with_change number change pairs) + count (number, value) ≡ sum_by count (pair ∷ pairs) + count (number, change value))
        pair.0 number
        (λ e there.
        let value_is : pair.1 ≡ value = cc in
        let first : ◌≡◌ {A = ℕ × T} (number, value) (pair.0, pair.1) = cc in
        let changed : ◌≡◌ {A = ℕ × T} (number, change value) (pair.0, change pair.1) = cc in
        rw (with_change-before (pair.0 + 1) below number change pairs (omega arith) rise.2, first, changed)
        (omega (arith, sum_by-cons count pair pairs, sum_by-cons count (pair.0, change pair.1) pairs)))
        (λ ne there.
        let rest = sum_by-with_change (pair.0 + 1) below number change value pairs rise.2 there in
        omega (arith, rest, sum_by-cons count pair pairs, sum_by-cons count pair (with_change number change pairs)))
        is

  pub length-numbered_from : (first : ℕ) (values : List T) → length (numbered_from first values) ≡ length values
  length-numbered_from first [] = refl
  length-numbered_from first (value ∷ values) = ap suc (length-numbered_from (first + 1) values)

  -- one pair less
  pub length-without : (from below number : ℕ) (value : T) (pairs : List (ℕ × T)) → Rise from below pairs → value_under number pairs ≡ Some value
      → length (without number pairs) + 1 ≡ length pairs
  length-without from below number value [] rise is = absurd cc
  length-without from below number value (pair ∷ pairs) rise is =
      by_number
      (λ b. cond b (Some pair.1) (value_under number pairs) ≡ Some value → length (cond (not b) (pair ∷ without number pairs) (without number pairs)) + 1 ≡ suc (length pairs))
      pair.0 number
      (λ e there. rw (without-before (pair.0 + 1) below number pairs (omega arith) rise.2) (omega arith))
      (λ ne there. let rest = length-without (pair.0 + 1) below number value pairs rise.2 there in omega (arith, rest))
      is

  -- the numbers go on behind the others
  pub numbered_from-append : (first : ℕ) (values : List T) (value : T) → numbered_from first (values ++ value ∷ []) ≡ numbered_from first values ++ (first + length values, value) ∷ []
  numbered_from-append first [] value = rw add-zero refl
  numbered_from-append first (one ∷ values) value =
      let at : first + 1 + length values ≡ first + suc (length values) = omega arith in
      ap (λ ps. (first, one) ∷ ps) (numbered_from-append (first + 1) values value ∙ ap (λ n. numbered_from (first + 1) values ++ (n, value) ∷ []) at)

  -- ---- every value is changed

  module _ (every : T → T) where
    pub with_changes-without : (number : ℕ) (pairs : List (ℕ × T)) → with_changes every (without number pairs) ≡ without number (with_changes every pairs)
    with_changes-without number [] = refl
    with_changes-without number (pair ∷ pairs) =
        elim (pair.0 == number) as (λ b. with_changes every (cond (not b) (pair ∷ without number pairs) (without number pairs)) ≡ cond (not b) ((pair.0, every pair.1) ∷ without number (with_changes every pairs)) (without number (with_changes every pairs))) [
          | true ↦ with_changes-without number pairs
          | false ↦ ap (λ ps. (pair.0, every pair.1) ∷ ps) (with_changes-without number pairs)
        ]

    -- a change of one value is lost, where the change of every value comes to the same
    pub with_changes-with_change : (number : ℕ) (change : T → T) (pairs : List (ℕ × T)) → ((value : T) → every (change value) ≡ every value) → with_changes every (with_change number change pairs) ≡ with_changes every pairs
    with_changes-with_change number change [] lost = refl
    with_changes-with_change number change (pair ∷ pairs) lost =
        let rest = with_changes-with_change number change pairs lost in
        elim (pair.0 == number) as (λ b. with_changes every (cond b (pair.0, change pair.1) pair ∷ with_change number change pairs) ≡ (pair.0, every pair.1) ∷ with_changes every pairs) [
          | true ↦ rw (lost pair.1, rest) refl
          | false ↦ rw rest refl
        ]

    pub with_changes-numbered_from : (first : ℕ) (values : List T) → with_changes every (numbered_from first values) ≡ numbered_from first (map every values)
    with_changes-numbered_from first [] = refl
    with_changes-numbered_from first (value ∷ values) = ap (λ ps. (first, every value) ∷ ps) (with_changes-numbered_from (first + 1) values)

module _ {T : Type 0} where
  -- nothing is there to be changed
  pub with_change-absent : (number : ℕ) (change : T → T) (pairs : List (ℕ × T)) → value_under number pairs ≡ None → with_change number change pairs ≡ pairs
  with_change-absent number change [] none = refl
  with_change-absent number change (pair ∷ pairs) none =
      by_number
      (λ b. cond b (Some pair.1) (value_under number pairs) ≡ None → cond b (pair.0, change pair.1) pair ∷ with_change number change pairs ≡ pair ∷ pairs) pair.0 number
      (λ e is. absurd cc)
      (λ ne is. ap (λ ps. pair ∷ ps) (with_change-absent number change pairs is))
      none
