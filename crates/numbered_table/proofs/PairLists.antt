-- Lists of pairs of a number and its value, where a pair comes, changes or goes.
use Rattle.std.proofs.Common.{◌≡◌, ◌≢◌, ◌∙◌, refl, sym, ap, subst, ℕ, zero, suc, ◌+◌, ◌<◌, ◌≤◌, true, false, cond, not, inl, inr, List, [], ◌∷◌, ◌++◌, length, get_or, Some, None, arith}
use Rattle.std.specs.Prelude.{◌==◌, All, Contains}
use Rattle.std.proofs.lemmas.Bool.{cases_Bool, eqb-true, eqb-false, eq-eqb}
use Rattle.std.proofs.lemmas.List.{map-append, length-append, length-map}
use Rattle.std.proofs.lemmas.List.Elements.{All-nil, All-cons, All-head, All-tail, All-push, All-weaker, All-filter, All-map, filter-append}
use Rattle.numbered_table.specs.Pairs.{value_under, without, with_value, AllBelow, IsAscending}

-- two numbers that differ
other : (m n : ℕ) → m ≢ n → (m == n) ≡ false
other m n differ =
    elim (cases_Bool (m == n)) [
      | inl is ↦ absurd (differ (eqb-true m n is))
      | inr differs ↦ differs
    ]

same : (n : ℕ) → (n == n) ≡ true
same n = eq-eqb n n refl

module _ {T : Type 0} where
  abbrev IsOther : ℕ → (ℕ × T) → Type 0
  IsOther number pair = pair.0 ≢ number

  -- no pair is under this number
  abbrev pub AreApart : ℕ → List (ℕ × T) → Type 0
  AreApart number pairs = All (IsOther number) pairs

  -- ---- a number that is not there

  pub value_under-apart : (number : ℕ) (pairs : List (ℕ × T)) → AreApart number pairs → value_under number pairs ≡ None
  value_under-apart number [] apart = refl
  value_under-apart number (pair ∷ pairs) apart =
      rw (other pair.0 number (All-head (IsOther number) pair pairs apart)) (value_under-apart number pairs (All-tail (IsOther number) pair pairs apart))

  pub without-apart : (number : ℕ) (pairs : List (ℕ × T)) → AreApart number pairs → without number pairs ≡ pairs
  without-apart number [] apart = refl
  without-apart number (pair ∷ pairs) apart =
      rw (other pair.0 number (All-head (IsOther number) pair pairs apart)) (ap (λ rest. pair ∷ rest) (without-apart number pairs (All-tail (IsOther number) pair pairs apart)))

  pub with_value-apart : (number : ℕ) (value : T) (pairs : List (ℕ × T)) → AreApart number pairs → with_value number value pairs ≡ pairs
  with_value-apart number value [] apart = refl
  with_value-apart number value (pair ∷ pairs) apart =
      rw (other pair.0 number (All-head (IsOther number) pair pairs apart)) (ap (λ rest. pair ∷ rest) (with_value-apart number value pairs (All-tail (IsOther number) pair pairs apart)))

  pub AreApart-from_none : (number : ℕ) (pairs : List (ℕ × T)) → value_under number pairs ≡ None → AreApart number pairs
  AreApart-from_none number [] none = All-nil (IsOther number)
  AreApart-from_none number (pair ∷ pairs) none =
      elim (cases_Bool (pair.0 == number)) [
        | inl is ↦ absurd (let found : Some pair.1 ≡ None = sym (ap (λ b. cond b (Some pair.1) (value_under number pairs)) is) ∙ none in cc)
        | inr differs ↦
            let rest : value_under number pairs ≡ None = sym (ap (λ b. cond b (Some pair.1) (value_under number pairs)) differs) ∙ none in
            All-cons (IsOther number) pair pairs (eqb-false _ _ differs) (AreApart-from_none number pairs rest)
      ]

  pub AreApart-from_below : (number : ℕ) (pairs : List (ℕ × T)) → AllBelow number pairs → AreApart number pairs
  AreApart-from_below number pairs below = All-weaker (λ pair. pair.0 < number) (IsOther number) (λ pair less is. omega (arith, less, is)) pairs below

  pub AreApart-from_above : (number : ℕ) (pairs : List (ℕ × T)) → All (λ pair. number < pair.0) pairs → AreApart number pairs
  AreApart-from_above number pairs above = All-weaker (λ pair. number < pair.0) (IsOther number) (λ pair more is. omega (arith, more, is)) pairs above

  -- ---- a number that is there once, behind pairs and before others

  pub value_under_behind : (number : ℕ) (front back : List (ℕ × T)) → AreApart number front → value_under number (front ++ back) ≡ value_under number back
  value_under_behind number [] back apart = refl
  value_under_behind number (pair ∷ front) back apart =
      rw (other pair.0 number (All-head (IsOther number) pair front apart)) (value_under_behind number front back (All-tail (IsOther number) pair front apart))

  pub value_under_between : (number : ℕ) (value : T) (front back : List (ℕ × T)) → AreApart number front → value_under number (front ++ (number, value) ∷ back) ≡ Some value
  value_under_between number value front back apart =
      value_under_behind number front ((number, value) ∷ back) apart ∙ ap (λ b. cond b (Some value) (value_under number back)) (same number)

  pub without_between : (number : ℕ) (value : T) (front back : List (ℕ × T)) → AreApart number front → AreApart number back
      → without number (front ++ (number, value) ∷ back) ≡ front ++ back
  without_between number value front back before after =
      let here : without number ((number, value) ∷ back) ≡ without number back = rw (same number) refl in
      filter-append _ front ((number, value) ∷ back) ∙ ap (λ xs. xs ++ without number ((number, value) ∷ back)) (without-apart number front before)
      ∙ ap (λ xs. front ++ xs) (here ∙ without-apart number back after)

  pub with_value_between : (number : ℕ) (was value : T) (front back : List (ℕ × T)) → AreApart number front → AreApart number back
      → with_value number value (front ++ (number, was) ∷ back) ≡ front ++ (number, value) ∷ back
  with_value_between number was value front back before after =
      let here : with_value number value ((number, was) ∷ back) ≡ (number, value) ∷ with_value number value back = rw (same number) refl in
      map-append _ front ((number, was) ∷ back) ∙ ap (λ xs. xs ++ with_value number value ((number, was) ∷ back)) (with_value-apart number value front before)
      ∙ ap (λ xs. front ++ xs) (here ∙ ap (λ xs. (number, value) ∷ xs) (with_value-apart number value back after))

  -- ---- what is under a number, once a pair came, changed or went

  pub value_under-push : (number : ℕ) (value : T) (pairs : List (ℕ × T)) → AllBelow number pairs → value_under number (pairs ++ (number, value) ∷ []) ≡ Some value
  value_under-push number value pairs below = value_under_between number value pairs [] (AreApart-from_below number pairs below)

  pub value_under-push_other : (sought number : ℕ) (value : T) (pairs : List (ℕ × T)) → number ≢ sought → value_under sought (pairs ++ (number, value) ∷ []) ≡ value_under sought pairs
  value_under-push_other sought number value [] differ = rw (other number sought differ) refl
  value_under-push_other sought number value (pair ∷ pairs) differ =
      ap (λ rest. cond (pair.0 == sought) (Some pair.1) rest) (value_under-push_other sought number value pairs differ)

  without-is_apart : (number : ℕ) (pairs : List (ℕ × T)) → AreApart number (without number pairs)
  without-is_apart number [] = All-nil (IsOther number)
  without-is_apart number (pair ∷ pairs) =
      elim (cases_Bool (pair.0 == number)) [
        | inl is ↦ rw is (without-is_apart number pairs)
        | inr differs ↦ rw differs (All-cons (IsOther number) pair (without number pairs) (eqb-false _ _ differs) (without-is_apart number pairs))
      ]

  pub value_under-without : (number : ℕ) (pairs : List (ℕ × T)) → value_under number (without number pairs) ≡ None
  value_under-without number pairs = value_under-apart number (without number pairs) (without-is_apart number pairs)

  pub value_under-without_other : (sought number : ℕ) (pairs : List (ℕ × T)) → number ≢ sought → value_under sought (without number pairs) ≡ value_under sought pairs
  value_under-without_other sought number [] differ = refl
  value_under-without_other sought number (pair ∷ pairs) differ =
      let rest = value_under-without_other sought number pairs differ in
      elim (cases_Bool (pair.0 == number)) [
        | inl is ↦
            let away : (pair.0 == sought) ≡ false = other pair.0 sought (λ same. differ (sym (eqb-true _ _ is) ∙ same)) in
            rw (is, away) rest
        | inr differs ↦ rw differs (ap (λ back. cond (pair.0 == sought) (Some pair.1) back) rest)
      ]

  pub value_under-with_value : (number : ℕ) (was value : T) (pairs : List (ℕ × T)) → value_under number pairs ≡ Some was → value_under number (with_value number value pairs) ≡ Some value
  value_under-with_value number was value [] some = absurd (let never : None ≡ Some was = some in cc)
  value_under-with_value number was value (pair ∷ pairs) some =
      elim (cases_Bool (pair.0 == number)) [
        | inl is ↦ rw (is, same number) refl
        | inr differs ↦
            let rest : value_under number pairs ≡ Some was = sym (ap (λ b. cond b (Some pair.1) (value_under number pairs)) differs) ∙ some in
            rw (differs, differs) (value_under-with_value number was value pairs rest)
      ]

  pub value_under-with_value_other : (sought number : ℕ) (value : T) (pairs : List (ℕ × T)) → number ≢ sought → value_under sought (with_value number value pairs) ≡ value_under sought pairs
  value_under-with_value_other sought number value [] differ = refl
  value_under-with_value_other sought number value (pair ∷ pairs) differ =
      let rest = value_under-with_value_other sought number value pairs differ in
      elim (cases_Bool (pair.0 == number)) [
        | inl is ↦
            let away : (pair.0 == sought) ≡ false = other pair.0 sought (λ same. differ (sym (eqb-true _ _ is) ∙ same)) in
            rw (is, other number sought differ, away) rest
        | inr differs ↦ rw differs (ap (λ back. cond (pair.0 == sought) (Some pair.1) back) rest)
      ]

  -- ---- how many there are

  pub length-with_value : (number : ℕ) (value : T) (pairs : List (ℕ × T)) → length (with_value number value pairs) ≡ length pairs
  length-with_value number value pairs = length-map pairs (λ pair. cond (pair.0 == number) (number, value) pair)

  pub length-push : (number : ℕ) (value : T) (pairs : List (ℕ × T)) → length (pairs ++ (number, value) ∷ []) ≡ length pairs + 1
  length-push number value pairs = length-append pairs ((number, value) ∷ [])

  pub length-without : (number : ℕ) (was : T) (pairs : List (ℕ × T)) → IsAscending pairs → value_under number pairs ≡ Some was → length (without number pairs) + 1 ≡ length pairs
  length-without number was [] ascending some = absurd (let never : None ≡ Some was = some in cc)
  length-without number was (pair ∷ pairs) ascending some =
      elim (cases_Bool (pair.0 == number)) [
        | inl is ↦
            let above : All (λ later. number < later.0) pairs = subst (λ n. All (λ later. n < later.0) pairs) (eqb-true _ _ is) ascending.0 in
            let rest : length (without number pairs) ≡ length pairs = ap length (without-apart number pairs (AreApart-from_above number pairs above)) in
            rw is (omega (arith, rest))
        | inr differs ↦
            let there : value_under number pairs ≡ Some was = sym (ap (λ b. cond b (Some pair.1) (value_under number pairs)) differs) ∙ some in
            let rest : length (without number pairs) + 1 ≡ length pairs = length-without number was pairs ascending.1 there in
            rw differs (omega (arith, rest))
      ]

  pub without-absent : (number : ℕ) (pairs : List (ℕ × T)) → value_under number pairs ≡ None → without number pairs ≡ pairs
  without-absent number pairs none = without-apart number pairs (AreApart-from_none number pairs none)

  -- ---- all numbers below one

  pub AllBelow-push : (number bound : ℕ) (value : T) (pairs : List (ℕ × T)) → AllBelow bound pairs → number < bound → AllBelow bound (pairs ++ (number, value) ∷ [])
  AllBelow-push number bound value pairs below less = All-push (λ pair. pair.0 < bound) pairs (number, value) below less

  pub AllBelow-more : (number bound : ℕ) (pairs : List (ℕ × T)) → AllBelow number pairs → number ≤ bound → AllBelow bound pairs
  AllBelow-more number bound pairs below up = All-weaker (λ pair. pair.0 < number) (λ pair. pair.0 < bound) (λ pair less. omega (arith, less, up)) pairs below

  pub AllBelow-without : (number bound : ℕ) (pairs : List (ℕ × T)) → AllBelow bound pairs → AllBelow bound (without number pairs)
  AllBelow-without number bound pairs below = All-filter (λ pair. not (pair.0 == number)) (λ pair. pair.0 < bound) pairs below

  changed_number : (number : ℕ) (value : T) (pair : ℕ × T) → (cond (pair.0 == number) (number, value) pair).0 ≡ pair.0
  changed_number number value pair =
      elim (cases_Bool (pair.0 == number)) [
        | inl is ↦ rw is (sym (eqb-true _ _ is))
        | inr differs ↦ rw differs refl
      ]

  All-with_value : (P : ℕ → Type 0) (number : ℕ) (value : T) (pairs : List (ℕ × T)) → All (λ pair. P pair.0) pairs → All (λ pair. P pair.0) (with_value number value pairs)
  All-with_value P number value pairs all =
      All-map (λ pair. P pair.0) (λ pair. cond (pair.0 == number) (number, value) pair) pairs
      (All-weaker (λ pair. P pair.0) (λ pair. P (cond (pair.0 == number) (number, value) pair).0) (λ pair p. subst P (sym (changed_number number value pair)) p) pairs all)

  pub AllBelow-with_value : (number bound : ℕ) (value : T) (pairs : List (ℕ × T)) → AllBelow bound pairs → AllBelow bound (with_value number value pairs)
  AllBelow-with_value number bound value pairs below = All-with_value (λ n. n < bound) number value pairs below

  -- what is under a number has it below the bound of all
  pub below_bound : (number bound : ℕ) (value : T) (pairs : List (ℕ × T)) → AllBelow bound pairs → value_under number pairs ≡ Some value → number < bound
  below_bound number bound value [] below some = absurd (let never : None ≡ Some value = some in cc)
  below_bound number bound value (pair ∷ pairs) below some =
      elim (cases_Bool (pair.0 == number)) [
        | inl is ↦ subst (λ n. n < bound) (eqb-true _ _ is) (All-head (λ pair. pair.0 < bound) pair pairs below)
        | inr differs ↦
            below_bound number bound value pairs (All-tail (λ pair. pair.0 < bound) pair pairs below)
            (sym (ap (λ b. cond b (Some pair.1) (value_under number pairs)) differs) ∙ some)
      ]

  -- ---- ascending numbers

  pub IsAscending-push : (number : ℕ) (value : T) (pairs : List (ℕ × T)) → IsAscending pairs → AllBelow number pairs → IsAscending (pairs ++ (number, value) ∷ [])
  IsAscending-push number value [] ascending below = (All-nil (λ later. number < later.0), tt)
  IsAscending-push number value (pair ∷ pairs) ascending below = (
    All-push (λ later. pair.0 < later.0) pairs (number, value) ascending.0 (All-head (λ pair. pair.0 < number) pair pairs below),
    IsAscending-push number value pairs ascending.1 (All-tail (λ pair. pair.0 < number) pair pairs below),
  )

  pub IsAscending-without : (number : ℕ) (pairs : List (ℕ × T)) → IsAscending pairs → IsAscending (without number pairs)
  IsAscending-without number [] ascending = tt
  IsAscending-without number (pair ∷ pairs) ascending =
      let rest = IsAscending-without number pairs ascending.1 in
      elim (cases_Bool (pair.0 == number)) [
        | inl is ↦ rw is rest
        | inr differs ↦ rw differs (All-filter (λ later. not (later.0 == number)) (λ later. pair.0 < later.0) pairs ascending.0, rest)
      ]

  pub IsAscending-with_value : (number : ℕ) (value : T) (pairs : List (ℕ × T)) → IsAscending pairs → IsAscending (with_value number value pairs)
  IsAscending-with_value number value [] ascending = tt
  IsAscending-with_value number value (pair ∷ pairs) ascending = (
    subst (λ n. All (λ later. n < later.0) (with_value number value pairs)) (sym (changed_number number value pair)) (All-with_value (λ n. pair.0 < n) number value pairs ascending.0),
    IsAscending-with_value number value pairs ascending.1,
  )

  -- ---- the pairs of a list, and what is under their numbers

  pub Contains-value_under : (number : ℕ) (value : T) (pairs : List (ℕ × T)) → value_under number pairs ≡ Some value → Contains pairs (number, value)
  Contains-value_under number value [] some = absurd (let never : None ≡ Some value = some in cc)
  Contains-value_under number value (pair ∷ pairs) some =
      elim (cases_Bool (pair.0 == number)) [
        | inl is ↦
            let first : Some pair.1 ≡ Some value = sym (ap (λ b. cond b (Some pair.1) (value_under number pairs)) is) ∙ some in
            let here : pair.1 ≡ value = cc in
            (0, omega arith, ap (λ n. (n, pair.1)) (eqb-true _ _ is) ∙ ap (λ v. (number, v)) here)
        | inr differs ↦
            let rest = Contains-value_under number value pairs (sym (ap (λ b. cond b (Some pair.1) (value_under number pairs)) differs) ∙ some) in
            (suc rest.0, omega (arith, rest.1), rest.2)
      ]

  pub value_under-Contains : (number : ℕ) (value : T) (pairs : List (ℕ × T)) → IsAscending pairs → Contains pairs (number, value) → value_under number pairs ≡ Some value
  value_under-Contains number value pairs ascending contained = go pairs ascending contained.0 contained.1 contained.2 where
    go : (pairs : List (ℕ × T)) → IsAscending pairs → (k : ℕ) → k < length pairs → get_or pairs k (number, value) ≡ (number, value) → value_under number pairs ≡ Some value
    go [] ascending k within is = absurd (omega (arith, within))
    go (pair ∷ pairs) ascending zero within is = rw (eq-eqb pair.0 number (ap (λ p. p.0) is)) (ap (λ p. Some p.1) is)
    go (pair ∷ pairs) ascending (suc k) within is =
        let inside : k < length pairs = omega (arith, within) in
        let more : pair.0 < number = subst (λ n. pair.0 < n) (ap (λ p. p.0) is) (ascending.0 k (number, value) inside) in
        rw (other pair.0 number (λ same. omega (arith, more, same))) (go pairs ascending.1 k inside is)
