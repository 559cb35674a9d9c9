-- Where a group has no fault and lacks nothing, the first variable of each name lies in the range of its row.
use Rattle.std.proofs.Common.{◌≡◌, ◌∙◌, refl, sym, ap, subst, ℕ, ◌+◌, Bool, true, false, cond, ◌&&◌, ◌||◌, List, [], ◌∷◌, ◌++◌, length, take, Option, Some, None, IfSome, inl, inr, append_assoc, length-append}
use Rattle.std.specs.Prelude.{bytes_eq}
use Rattle.std.specs.List.{list_any}
use Rattle.std.proofs.Math.Seq.{take-append_seam}
use Rattle.std.proofs.lemmas.Bool.{and_parts, and_cases, or_parts, or_from, cases_Bool, not-false, both_ways}
use Rattle.std.proofs.lemmas.List.Folds.{list_any-append}
use Rattle.std.proofs.lemmas.Slice.Eq.{bytes_eq-Decides}
use Rattle.config_groups.specs.declared.group.Set.{Set}
use Rattle.config_groups.specs.declared.role.Role.{Role}
use Rattle.config_groups.specs.declared.table.Range.{Range}
use Rattle.config_groups.specs.Roles.{has, has_name, first}
use Rattle.config_groups.specs.Table.{Need, Free, Row, rows, is_in}
use Rattle.config_groups.specs.Faults.{range_of, is_outside, is_last_text, is_wrong, fault_from, group_fault}
use Rattle.config_groups.specs.Missing.{is_lacking, lacking_in, lacking}

-- nothing was found first
pub none_parts : {A : Type 0} (here : Bool) (found : A) (later : Option A) → cond here (Some found) later ≡ None → (here ≡ false) × (later ≡ None)
none_parts true found later none = absurd cc
none_parts false found later none = (refl, none)

pub same_name : (name : List ℕ) (set : Set) → has_name name set ≡ true → set.name ≡ name
same_name name set is = (bytes_eq-Decides set.name name).0 is

-- a name that doesn't stand before a variable of another name doesn't stand behind it either
pub still_new : (name : List ℕ) (front : List Set) (set : Set) → list_any (has_name name) front ≡ false → has_name name set ≡ false → list_any (has_name name) (front ++ set ∷ []) ≡ false
still_new name front set new other = list_any-append (has_name name) front (set ∷ []) ∙ or_from _ _ new (or_from _ _ other refl)

module _ (role : Role) (group : List Set) where
  -- a variable without a fault that is the first of its name
  pub right : (front : List Set) (set : Set) (rest : List Set) → group ≡ front ++ set ∷ rest → is_wrong role group (length front) set ≡ false →
      list_any (has_name set.name) front ≡ false → (is_outside (range_of role set.name) set.value ≡ false) × (is_last_text role group (length front) set ≡ false)
  right front set rest whole good new =
      elim (and_cases _ _ good) [
        | inl none ↦
            let last = or_parts _ _ none in
            ((or_parts _ _ last.0).0, last.1)
        | inr known ↦
            let before : take (length front) group ≡ front = ap (take (length front)) whole ∙ take-append_seam front (set ∷ rest) in
            absurd (both_ways _ new (subst (λ sets. list_any (has_name set.name) sets ≡ true) before (not-false _ known)))
      ]

  -- one variable further
  pub whole_behind : (front : List Set) (set : Set) (rest : List Set) → group ≡ front ++ set ∷ rest → group ≡ (front ++ set ∷ []) ++ rest
  whole_behind front set rest whole = whole ∙ sym (append_assoc front (set ∷ []) rest)

  pub none_behind : (front : List Set) (set : Set) (rest : List Set) → fault_from role group (length front + 1) rest ≡ None →
      fault_from role group (length (front ++ set ∷ [])) rest ≡ None
  none_behind front set rest none = subst (λ at. fault_from role group at rest ≡ None) (sym (length-append front (set ∷ []))) none

  -- the first variable of a name, where none of that name stands before
  first_tried : (name : List ℕ) (front rest : List Set) → group ≡ front ++ rest → list_any (has_name name) front ≡ false →
      fault_from role group (length front) rest ≡ None → IfSome (first name rest) (λ set. is_outside (range_of role name) set.value ≡ false)
  first_tried name front [] whole new none = tt
  first_tried name front (set ∷ rest) whole new none =
      let parts = none_parts (is_wrong role group (length front) set) _ _ none in
      elim (cases_Bool (has_name name set)) [
        | inl is ↦
            let same = same_name name set is in
            let good = right front set rest whole parts.0 (subst (λ n. list_any (has_name n) front ≡ false) (sym same) new) in
            rw is (subst (λ n. is_outside (range_of role n) set.value ≡ false) same good.0)
        | inr other ↦
            rw other (first_tried name (front ++ set ∷ []) rest (whole_behind front set rest whole) (still_new name front set new other) (none_behind front set rest parts.1))
      ]

  in_range : (range : Range) (found : Option Range) (set : Option Set) → found ≡ Some range →
      IfSome set (λ set. is_outside found set.value ≡ false) → IfSome set (λ set. is_in range set.value ≡ true)
  in_range range found None is held = tt
  in_range range found (Some set) is held = not-false _ (subst (λ f. is_outside f set.value ≡ false) is held)

  -- the first variable of a name lies in its range
  pub tried : (name : List ℕ) (range : Range) → range_of role name ≡ Some range → group_fault role group ≡ None →
      IfSome (first name group) (λ set. is_in range set.value ≡ true)
  tried name range is none = in_range range (range_of role name) (first name group) is (first_tried name [] group refl refl none)

-- ---- what has to stand

-- whether a variable has to stand, by the first of these rows that has its name in such a group
abbrev pub need_in : Role → List ℕ → List Row → Need
need_in role name [] = Free
need_in role name (row ∷ rest) = cond (has role row.of && bytes_eq row.name name) row.need (need_in role name rest)

unfoldable pub need_of : Role → List ℕ → Need
need_of role name = need_in role name rows

needed_in : (role : Role) (group : List Set) (name : List ℕ) (rows : List Row) → lacking_in role group rows ≡ None → is_lacking (need_in role name rows) name group ≡ false
needed_in role group name [] none = refl
needed_in role group name (row ∷ rest) none =
    let parts = none_parts (has role row.of && is_lacking row.need row.name group) _ _ none in
    elim (cases_Bool (has role row.of && bytes_eq row.name name)) [
      | inl is ↦
          let of = and_parts _ _ is in
          let stands : is_lacking row.need row.name group ≡ false = elim (and_cases (has role row.of) (is_lacking row.need row.name group) parts.0) [ inl other ↦ absurd (both_ways (has role row.of) other of.0) | inr stands ↦ stands ] in
          rw is (subst (λ n. is_lacking row.need n group ≡ false) ((bytes_eq-Decides row.name name).0 of.1) stands)
      | inr other ↦ rw other (needed_in role group name rest parts.1)
    ]

-- where nothing is missing, what has to stand does
pub needed : (role : Role) (group : List Set) (name : List ℕ) (need : Need) → need_of role name ≡ need → lacking role group ≡ None → is_lacking need name group ≡ false
unfolding need_of lacking
needed role group name need is none = subst (λ n. is_lacking n name group ≡ false) is (needed_in role group name rows none)

pub first_of_name : (name : List ℕ) (group : List Set) → list_any (has_name name) group ≡ true → (set : Set) × (first name group ≡ Some set)
first_of_name name [] stands = absurd cc
first_of_name name (set ∷ rest) stands =
    elim (cases_Bool (has_name name set)) [
      | inl is ↦ rw is (set, refl)
      | inr other ↦
          let rest_has : list_any (has_name name) rest ≡ true = subst (λ b. (b || list_any (has_name name) rest) ≡ true) other stands in
          rw other (first_of_name name rest rest_has)
    ]
