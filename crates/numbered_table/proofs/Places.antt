-- The places of a table, where one is changed, where one comes, and where the empty ones go.
use Rattle.std.proofs.Common.{◌≡◌, ◌≢◌, ◌∙◌, refl, sym, ap, subst, ℕ, zero, suc, ◌+◌, ◌-◌, ◌<◌, ◌≤◌, Bool, true, false, cond, inl, inr, List, [], ◌∷◌, ◌++◌, length, get_or, take, drop, Some, None, not, arith}
use Rattle.std.specs.Prelude.{◌==◌, ltb, filter, Option, option_map, is_some, IsSome, IfSome, IfNone, All, slice_set, min}
use Rattle.std.specs.List.{cons_option, HoldsAt}
use Rattle.std.specs.List.Sorted.{IsNonDecreasingBy, IsPartitionPoint}
use Rattle.std.proofs.lemmas.Bool.{cases_lt, cases_order, ltb-true, ltb-false}
use Rattle.std.proofs.lemmas.Option.{none-some}
use Rattle.std.proofs.lemmas.List.{length-append, length-set, take-append-drop, take-set, drop-set, drop_more, length-take-le, get_or-take, get_or-drop, get_or-set_other, get_or-set_same, get_or_default, get_or_append_left, set-get_or, length-take, length-drop, append-nil, map-append}
use Rattle.std.proofs.Math.Seq.{get_or-append_seam}
use Rattle.std.proofs.lemmas.List.Elements.{All-nil, All-cons, All-head, All-tail, All-push, All-filter, All-set, filter_map-append, filter-append}
use Rattle.numbered_table.specs.declared.row.Row.{Row}
use Rattle.numbered_table.specs.Pairs.{Numbered, value_under, without, with_value, AllBelow, IsAscending}
use Rattle.numbered_table.specs.Rows.{pair_of, pairs_of, Ascend, AreEmpty, IsLive, AreCounted, AreKept}
use Rattle.numbered_table.proofs.PairLists.{AreApart, AreApart-from_below, AreApart-from_above, value_under_behind, value_under_between, value_under-apart, without_between, without-apart, with_value_between, with_value-apart}

at_place : (P : ℕ → Type 0) (answer : Option ℕ) (place : ℕ) → answer ≡ Some place → IfSome answer P → P place
at_place P answer place is holds = subst (λ other. IfSome other P) is holds

module _ {T : Type 0} where
  -- the pairs of a place with this number and value, and of those behind it
  abbrev with_place : ℕ → Option T → List (ℕ × T) → List (ℕ × T)
  with_place number value pairs = cons_option (option_map (λ value. (number, value)) value) pairs

  abbrev Below : ℕ → Row T → Type 0
  Below number row = row.number < number

  abbrev Above : ℕ → Row T → Type 0
  Above number row = number < row.number

  -- ---- facts of the numbers of places, read at the pairs

  All-with_place : (P : ℕ → Type 0) (number : ℕ) (value : Option T) (pairs : List (ℕ × T)) → P number → All (λ pair. P pair.0) pairs → All (λ pair. P pair.0) (with_place number value pairs)
  All-with_place P number None pairs here rest = rest
  All-with_place P number (Some value) pairs here rest = All-cons (λ pair. P pair.0) (number, value) pairs here rest

  pub All-pairs : (P : ℕ → Type 0) (rows : List (Row T)) → All (λ row. P row.number) rows → All (λ pair. P pair.0) (pairs_of rows)
  All-pairs P [] all = All-nil (λ pair. P pair.0)
  All-pairs P (row ∷ rows) all =
      All-with_place P row.number row.value (pairs_of rows) (All-head (λ row. P row.number) row rows all) (All-pairs P rows (All-tail (λ row. P row.number) row rows all))

  pub AreApart-rows : (number : ℕ) (rows : List (Row T)) → All (λ row. row.number ≢ number) rows → AreApart number (pairs_of rows)
  AreApart-rows number rows apart = All-pairs (λ n. n ≢ number) rows apart

  IsAscending-with_place : (number : ℕ) (value : Option T) (pairs : List (ℕ × T)) → All (λ pair. number < pair.0) pairs → IsAscending pairs → IsAscending (with_place number value pairs)
  IsAscending-with_place number None pairs here rest = rest
  IsAscending-with_place number (Some value) pairs here rest = (here, rest)

  pub IsAscending-pairs : (rows : List (Row T)) → Ascend rows → IsAscending (pairs_of rows)
  IsAscending-pairs [] ascend = tt
  IsAscending-pairs (row ∷ rows) ascend =
      IsAscending-with_place row.number row.value (pairs_of rows) (All-pairs (λ n. row.number < n) rows ascend.0) (IsAscending-pairs rows ascend.1)

  length-with_place : (number : ℕ) (value : Option T) (pairs : List (ℕ × T)) (n : ℕ) → length pairs ≤ n → length (with_place number value pairs) ≤ suc n
  length-with_place number None pairs n less = omega (arith, less)
  length-with_place number (Some value) pairs n less = omega (arith, less)

  pub length-pairs : (rows : List (Row T)) → length (pairs_of rows) ≤ length rows
  length-pairs [] = omega arith
  length-pairs (row ∷ rows) = length-with_place row.number row.value (pairs_of rows) (length rows) (length-pairs rows)

  -- ---- numbers that ascend

  All-behind : (P : Row T → Type 0) (front back : List (Row T)) → All P (front ++ back) → All P back
  All-behind P [] back all = all
  All-behind P (row ∷ front) back all = All-behind P front back (All-tail P row (front ++ back) all)

  All-front : (P : Row T → Type 0) (front back : List (Row T)) → All P (front ++ back) → All P front
  All-front P [] back all = All-nil P
  All-front P (row ∷ front) back all =
      All-cons P row front (All-head P row (front ++ back) all) (All-front P front back (All-tail P row (front ++ back) all))

  pub Ascend-behind : (front back : List (Row T)) → Ascend (front ++ back) → Ascend back
  Ascend-behind [] back ascend = ascend
  Ascend-behind (row ∷ front) back ascend = Ascend-behind front back ascend.1

  pub Ascend-front : (front back : List (Row T)) → Ascend (front ++ back) → Ascend front
  Ascend-front [] back ascend = tt
  Ascend-front (row ∷ front) back ascend = (All-front (Above row.number) front back ascend.0, Ascend-front front back ascend.1)

  pub below_here : (front back : List (Row T)) (row : Row T) → Ascend (front ++ row ∷ back) → All (Below row.number) front
  below_here [] back row ascend = All-nil (Below row.number)
  below_here (first ∷ front) back row ascend =
      let here : All (Above first.number) (row ∷ back) = All-behind (Above first.number) front (row ∷ back) ascend.0 in
      All-cons (Below row.number) first front (All-head (Above first.number) row back here) (below_here front back row ascend.1)

  pub above_here : (front back : List (Row T)) (row : Row T) → Ascend (front ++ row ∷ back) → All (Above row.number) back
  above_here front back row ascend = let here : Ascend (row ∷ back) = Ascend-behind front (row ∷ back) ascend in here.0

  pub Ascend-push : (rows : List (Row T)) (row : Row T) → Ascend rows → All (Below row.number) rows → Ascend (rows ++ row ∷ [])
  Ascend-push [] row ascend below = (All-nil (Above row.number), tt)
  Ascend-push (first ∷ rows) row ascend below =
      (All-push (Above first.number) rows row ascend.0 (All-head (Below row.number) first rows below), Ascend-push rows row ascend.1 (All-tail (Below row.number) first rows below))

  pub Ascend-set : (rows : List (Row T)) (place : ℕ) (row : Row T) → place < length rows → HoldsAt (λ was. was.number ≡ row.number) rows place → Ascend rows → Ascend (slice_set rows place row)
  Ascend-set [] place row within is ascend = absurd (omega (arith, within))
  Ascend-set (first ∷ rows) zero row within is ascend =
      (subst (λ n. All (Above n) rows) (is first) ascend.0, ascend.1)
  Ascend-set (first ∷ rows) (suc place) row within is ascend =
      let inside : place < length rows = omega (arith, within) in
      let less : first.number < row.number = subst (λ n. first.number < n) (is first) (ascend.0 place first inside) in
      (All-set (Above first.number) rows place row less ascend.0, Ascend-set rows place row inside is ascend.1)

  Ascend-cond : (keeps : Bool) (row : Row T) (rows : List (Row T)) → All (Above row.number) rows → Ascend rows → Ascend (cond keeps (row ∷ rows) rows)
  Ascend-cond true row rows above ascend = (above, ascend)
  Ascend-cond false row rows above ascend = ascend

  pub Ascend-filter : (p : Row T → Bool) (rows : List (Row T)) → Ascend rows → Ascend (filter p rows)
  Ascend-filter p [] ascend = tt
  Ascend-filter p (row ∷ rows) ascend =
      Ascend-cond (p row) row (filter p rows) (All-filter p (Above row.number) rows ascend.0) (Ascend-filter p rows ascend.1)

  -- ---- the empty places taken out

  filter-with_place : (number : ℕ) (value : Option T) (row : Row T) (rows : List (Row T)) (pairs : List (ℕ × T))
      → row.number ≡ number → row.value ≡ value → pairs_of rows ≡ pairs → pairs_of (cond (is_some value) (row ∷ rows) rows) ≡ with_place number value pairs
  filter-with_place number None row rows pairs n v rest = rest
  filter-with_place number (Some value) row rows pairs n v rest = rw (n, v, rest) refl

  pub pairs-filter : (rows : List (Row T)) → pairs_of (filter (λ row. is_some row.value) rows) ≡ pairs_of rows
  pairs-filter [] = refl
  pairs-filter (row ∷ rows) = filter-with_place row.number row.value row (filter (λ row. is_some row.value) rows) (pairs_of rows) refl refl (pairs-filter rows)

  full-with_place : (number : ℕ) (value : Option T) (row : Row T) (rows : List (Row T)) (pairs : List (ℕ × T))
      → length pairs ≡ length rows → length (with_place number value pairs) ≡ length (cond (is_some value) (row ∷ rows) rows)
  full-with_place number None row rows pairs rest = rest
  full-with_place number (Some value) row rows pairs rest = ap suc rest

  pub full-filter : (rows : List (Row T)) → length (pairs_of rows) ≡ length (filter (λ row. is_some row.value) rows)
  full-filter [] = refl
  full-filter (row ∷ rows) = full-with_place row.number row.value row (filter (λ row. is_some row.value) rows) (pairs_of rows) (full-filter rows)

  -- ---- empty places

  pub no_pairs : (rows : List (Row T)) → All (λ row. row.value ≡ None) rows → pairs_of rows ≡ []
  no_pairs [] empty = refl
  no_pairs (row ∷ rows) empty =
      let here = All-head (λ row. row.value ≡ None) row rows empty in
      let rest = no_pairs rows (All-tail (λ row. row.value ≡ None) row rows empty) in
      ap (λ value. with_place row.number value (pairs_of rows)) here ∙ rest

  -- places that all are live
  pub full_kept : (rows : List (Row T)) → Ascend rows → length (pairs_of rows) ≡ length rows → AreKept rows 0 0
  full_kept rows ascend full = record {
    places = record { ascend = ascend; within = omega arith; leading = λ k d from inside. absurd (omega (arith, inside)); counted = omega (arith, full) };
    first = λ inside. first_full rows full inside;
    half = omega arith;
  } where
    first_full : (rows : List (Row T)) → length (pairs_of rows) ≡ length rows → 0 < length rows → IsLive rows 0
    first_full [] full inside d = absurd (omega (arith, inside))
    first_full (row ∷ rows) full inside d = some_full row.number row.value (pairs_of rows) (length rows) (length-pairs rows) full
      where
        some_full : (number : ℕ) (value : Option T) (pairs : List (ℕ × T)) (n : ℕ) → length pairs ≤ n → length (with_place number value pairs) ≡ suc n → IsSome value
        some_full number None pairs n less full = absurd (omega (arith, less, full))
        some_full number (Some value) pairs n less full = refl

  -- ---- one place among others

  abbrev front_pairs : List (Row T) → ℕ → List (ℕ × T)
  front_pairs rows place = pairs_of (take place rows)

  abbrev back_pairs : List (Row T) → ℕ → List (ℕ × T)
  back_pairs rows place = pairs_of (drop (place + 1) rows)

  pub split_at : (rows : List (Row T)) (place : ℕ) (row : Row T) → place < length rows → row ≡ get_or rows place row → rows ≡ take place rows ++ row ∷ drop (place + 1) rows
  split_at rows place row within is =
      sym (take-append-drop place rows) ∙ ap (λ rest. take place rows ++ rest) (drop_more rows place row within ∙ ap (λ x. x ∷ drop (place + 1) rows) (sym is))

  pub pairs_split : (rows : List (Row T)) (place : ℕ) (row : Row T) → place < length rows → row ≡ get_or rows place row
      → pairs_of rows ≡ front_pairs rows place ++ with_place row.number row.value (back_pairs rows place)
  pairs_split rows place row within is =
      ap pairs_of (split_at rows place row within is) ∙ filter_map-append pair_of (take place rows) (row ∷ drop (place + 1) rows)

  pub pairs-set : (rows : List (Row T)) (place : ℕ) (row : Row T) → place < length rows
      → pairs_of (slice_set rows place row) ≡ front_pairs rows place ++ with_place row.number row.value (back_pairs rows place)
  pairs-set rows place row within =
      let parts : slice_set rows place row ≡ take place rows ++ row ∷ drop (place + 1) rows =
      sym (take-append-drop place (slice_set rows place row)) ∙ ap (λ front. front ++ drop place (slice_set rows place row)) (take-set rows place row)
      ∙ ap (λ rest. take place rows ++ rest) (drop-set rows place row within) in
      ap pairs_of parts ∙ filter_map-append pair_of (take place rows) (row ∷ drop (place + 1) rows)

  pub front_apart : (rows : List (Row T)) (place : ℕ) (row : Row T) → Ascend rows → place < length rows → row ≡ get_or rows place row → AreApart row.number (front_pairs rows place)
  front_apart rows place row ascend within is =
      let parts : Ascend (take place rows ++ row ∷ drop (place + 1) rows) = subst Ascend (split_at rows place row within is) ascend in
      AreApart-from_below row.number (front_pairs rows place) (All-pairs (λ n. n < row.number) (take place rows) (below_here (take place rows) (drop (place + 1) rows) row parts))

  pub back_apart : (rows : List (Row T)) (place : ℕ) (row : Row T) → Ascend rows → place < length rows → row ≡ get_or rows place row → AreApart row.number (back_pairs rows place)
  back_apart rows place row ascend within is =
      let parts : Ascend (take place rows ++ row ∷ drop (place + 1) rows) = subst Ascend (split_at rows place row within is) ascend in
      AreApart-from_above row.number (back_pairs rows place) (All-pairs (λ n. row.number < n) (drop (place + 1) rows) (above_here (take place rows) (drop (place + 1) rows) row parts))

  value_in : (number : ℕ) (value : Option T) (front back : List (ℕ × T)) → AreApart number front → AreApart number back
      → value_under number (front ++ with_place number value back) ≡ value
  value_in number None front back before after = value_under_behind number front back before ∙ value_under-apart number back after
  value_in number (Some value) front back before after = value_under_between number value front back before

  taken_in : (number : ℕ) (value : Option T) (front back : List (ℕ × T)) → AreApart number front → AreApart number back
      → without number (front ++ with_place number value back) ≡ front ++ back
  taken_in number None front back before after =
      filter-append (λ pair. not (pair.0 == number)) front back ∙ ap (λ xs. xs ++ without number back) (without-apart number front before) ∙ ap (λ xs. front ++ xs) (without-apart number back after)
  taken_in number (Some value) front back before after = without_between number value front back before after

  unchanged_in : (number : ℕ) (value : T) (front back : List (ℕ × T)) → AreApart number front → AreApart number back
      → with_value number value (front ++ back) ≡ front ++ back
  unchanged_in number value front back before after =
      map-append (λ pair. cond (pair.0 == number) (number, value) pair) front back ∙ ap (λ xs. xs ++ with_value number value back) (with_value-apart number value front before)
      ∙ ap (λ xs. front ++ xs) (with_value-apart number value back after)

  module _ (rows : List (Row T)) (place : ℕ) (row : Row T) (ascend : Ascend rows) (within : place < length rows) (is : row ≡ get_or rows place row) where
    -- what stands at a place is under its number
    pub value_at : value_under row.number (pairs_of rows) ≡ row.value
    value_at =
        ap (value_under row.number) (pairs_split rows place row within is)
        ∙ value_in row.number row.value (front_pairs rows place) (back_pairs rows place) (front_apart rows place row ascend within is) (back_apart rows place row ascend within is)

    -- the place emptied
    pub taken_at : pairs_of (slice_set rows place (record { number = row.number; value = None })) ≡ without row.number (pairs_of rows)
    taken_at =
        pairs-set rows place (record { number = row.number; value = None }) within
        ∙ sym (ap (without row.number) (pairs_split rows place row within is)
        ∙ taken_in row.number row.value (front_pairs rows place) (back_pairs rows place) (front_apart rows place row ascend within is) (back_apart rows place row ascend within is))

    -- another value at the place
    pub changed_at : (was value : T) → row.value ≡ Some was
        → pairs_of (slice_set rows place (record { number = row.number; value = Some value })) ≡ with_value row.number value (pairs_of rows)
    changed_at was value holds =
        let here : pairs_of rows ≡ front_pairs rows place ++ (row.number, was) ∷ back_pairs rows place =
        pairs_split rows place row within is ∙ ap (λ v. front_pairs rows place ++ with_place row.number v (back_pairs rows place)) holds in
        pairs-set rows place (record { number = row.number; value = Some value }) within
        ∙ sym (ap (with_value row.number value) here
        ∙ with_value_between row.number was value (front_pairs rows place) (back_pairs rows place) (front_apart rows place row ascend within is) (back_apart rows place row ascend within is))

    -- an empty place has nothing to change or to take
    pub unchanged_at : (value : T) → row.value ≡ None → with_value row.number value (pairs_of rows) ≡ pairs_of rows
    unchanged_at value holds =
        let here : pairs_of rows ≡ front_pairs rows place ++ back_pairs rows place =
        pairs_split rows place row within is ∙ ap (λ v. front_pairs rows place ++ with_place row.number v (back_pairs rows place)) holds in
        ap (with_value row.number value) here
        ∙ unchanged_in row.number value (front_pairs rows place) (back_pairs rows place) (front_apart rows place row ascend within is) (back_apart rows place row ascend within is)
        ∙ sym here

    same_place : (d : Row T) → get_or rows place d ≡ row
    same_place d = get_or_default rows place d row within ∙ sym is

    same_number : HoldsAt (λ other. other.number ≡ row.number) rows place
    same_number d = ap (λ r. r.number) (same_place d)

    -- where a value stands, the place is none of the empty ones in front
    behind_leading : (first_live : ℕ) (was : T) → row.value ≡ Some was → AreEmpty rows 0 first_live → first_live ≤ place
    behind_leading first_live was holds empty =
        elim (cases_lt place first_live) [
          | inl inside ↦
              let none : row.value ≡ None = sym (ap (λ r. r.value) (same_place row)) ∙ empty place row (omega arith) inside in
              absurd (none-some was (sym none ∙ holds))
          | inr outside ↦ outside
        ]

    still_leading : (first_live : ℕ) (new : Row T) → first_live ≤ place → AreEmpty rows 0 first_live → AreEmpty (slice_set rows place new) 0 first_live
    still_leading first_live new behind empty k d from inside =
        ap (λ r. r.value) (get_or-set_other rows place k new d (λ same. omega (arith, same, behind, inside))) ∙ empty k d from inside

    still_live : (other : ℕ) (new : Row T) → IsSome new.value → IsLive rows other → IsLive (slice_set rows place new) other
    still_live other new some live d =
        elim (cases_order other place) [
          | inl same ↦
              let here : get_or (slice_set rows place new) place d ≡ new = get_or-set_same rows place new d within in
              subst (λ n. IsSome (get_or (slice_set rows place new) n d).value) (sym same) (subst (λ r. IsSome r.value) (sym here) some)
          | inr apart ↦
              let differ : other ≢ place = λ same. elim apart [ inl before ↦ omega (arith, same, before) | inr behind ↦ omega (arith, same, behind) ] in
              subst (λ r. IsSome r.value) (sym (get_or-set_other rows place other new d differ)) (live d)
        ]

    -- the places are kept where another value comes to one
    pub kept_changed : (first_live empties : ℕ) (was value : T) → row.value ≡ Some was → AreKept rows first_live empties
        → AreKept (slice_set rows place (record { number = row.number; value = Some value })) first_live empties
    kept_changed first_live empties was value holds kept =
        let new : Row T = record { number = row.number; value = Some value } in
        let before : length (pairs_of rows) ≡ length (front_pairs rows place ++ (row.number, was) ∷ back_pairs rows place) =
        ap length (pairs_split rows place row within is ∙ ap (λ v. front_pairs rows place ++ with_place row.number v (back_pairs rows place)) holds) in
        let after : length (pairs_of (slice_set rows place new)) ≡ length (front_pairs rows place ++ (row.number, value) ∷ back_pairs rows place) =
        ap length (pairs-set rows place new within) in
        let counted : length (pairs_of (slice_set rows place new)) ≡ length (pairs_of rows) =
        after ∙ length-append (front_pairs rows place) ((row.number, value) ∷ back_pairs rows place) ∙ sym (before ∙ length-append (front_pairs rows place) ((row.number, was) ∷ back_pairs rows place)) in
        let long : length (slice_set rows place new) ≡ length rows = length-set rows place new in
        record {
          places = record {
            ascend = Ascend-set rows place new within same_number ascend;
            within = omega (arith, long, kept.places.within);
            leading = still_leading first_live new (behind_leading first_live was holds kept.places.leading) kept.places.leading;
            counted = omega (arith, long, counted, kept.places.counted);
          };
          first = λ inside. still_live first_live new refl (kept.first (omega (arith, long, inside)));
          half = omega (arith, long, kept.half);
        }

    -- the places are kept where a value goes, and one more is empty
    pub kept_taken : (first_live empties : ℕ) (was : T) → row.value ≡ Some was → AreCounted rows first_live empties
        → AreCounted (slice_set rows place (record { number = row.number; value = None })) first_live (empties + 1)
    kept_taken first_live empties was holds kept =
        let new : Row T = record { number = row.number; value = None } in
        let before : length (pairs_of rows) ≡ length (front_pairs rows place ++ (row.number, was) ∷ back_pairs rows place) =
        ap length (pairs_split rows place row within is ∙ ap (λ v. front_pairs rows place ++ with_place row.number v (back_pairs rows place)) holds) in
        let after : length (pairs_of (slice_set rows place new)) ≡ length (front_pairs rows place ++ back_pairs rows place) =
        ap length (pairs-set rows place new within) in
        let one : length (pairs_of rows) ≡ length (front_pairs rows place) + suc (length (back_pairs rows place)) =
        before ∙ length-append (front_pairs rows place) ((row.number, was) ∷ back_pairs rows place) in
        let none : length (pairs_of (slice_set rows place new)) ≡ length (front_pairs rows place) + length (back_pairs rows place) =
        after ∙ length-append (front_pairs rows place) (back_pairs rows place) in
        let long : length (slice_set rows place new) ≡ length rows = length-set rows place new in
        record {
          ascend = Ascend-set rows place new within same_number ascend;
          within = omega (arith, long, kept.within);
          leading = still_leading first_live new (behind_leading first_live was holds kept.leading) kept.leading;
          counted = omega (arith, long, one, none, kept.counted);
        }

  -- ---- the places without the empty ones in front, or at the end

  pub pairs_from : (rows : List (Row T)) (first_live : ℕ) → AreEmpty rows 0 first_live → pairs_of (drop first_live rows) ≡ pairs_of rows
  pairs_from rows first_live empty =
      let none : pairs_of (take first_live rows) ≡ [] =
      no_pairs (take first_live rows) (λ k d inside.
      let less : k < first_live = omega (arith, length-take first_live rows, inside) in
      ap (λ r. r.value) (get_or-take first_live rows k d less) ∙ empty k d (omega arith) less) in
      sym (ap pairs_of (sym (take-append-drop first_live rows)) ∙ filter_map-append pair_of (take first_live rows) (drop first_live rows) ∙ ap (λ xs. xs ++ pairs_of (drop first_live rows)) none)

  pub pairs_until : (rows : List (Row T)) (end : ℕ) → AreEmpty rows end (length rows) → pairs_of (take end rows) ≡ pairs_of rows
  pairs_until rows end empty =
      let none : pairs_of (drop end rows) ≡ [] =
      no_pairs (drop end rows) (λ k d inside.
      let less : end + k < length rows = omega (arith, length-drop end rows, inside) in
      ap (λ r. r.value) (get_or-drop end rows k d) ∙ empty (end + k) d (omega arith) less) in
      sym (ap pairs_of (sym (take-append-drop end rows)) ∙ filter_map-append pair_of (take end rows) (drop end rows) ∙ ap (λ xs. pairs_of (take end rows) ++ xs) none ∙ append-nil (pairs_of (take end rows)))

  -- ---- a place that comes last

  -- a value stands at the last place
  abbrev EndsLive : List (Row T) → Type 0
  EndsLive rows = (k : ℕ) (d : Row T) → suc k ≡ length rows → IsSome (get_or rows k d).value

  below_with_place : (number here : ℕ) (value : Option T) (pairs : List (ℕ × T)) → IsSome value → AllBelow number (with_place here value pairs) → here < number
  below_with_place number here None pairs some below = absurd (cc)
  below_with_place number here (Some value) pairs some below = All-head (λ pair. pair.0 < number) (here, value) pairs below

  below_rest : (number here : ℕ) (value : Option T) (pairs : List (ℕ × T)) → AllBelow number (with_place here value pairs) → AllBelow number pairs
  below_rest number here None pairs below = below
  below_rest number here (Some value) pairs below = All-tail (λ pair. pair.0 < number) (here, value) pairs below

  -- a number above those of the values is above those of all places, where the last one is live
  pub all_below : (number : ℕ) (rows : List (Row T)) → Ascend rows → EndsLive rows → AllBelow number (pairs_of rows) → All (Below number) rows
  all_below number [] ascend live below = All-nil (Below number)
  all_below number (row ∷ []) ascend live below =
      All-cons (Below number) row [] (below_with_place number row.number row.value [] (live 0 row refl) below) (All-nil (Below number))
  all_below number (row ∷ next ∷ rows) ascend live below =
      let rest : All (Below number) (next ∷ rows) =
      all_below number (next ∷ rows) ascend.1 (λ k d is. live (suc k) d (ap suc is)) (below_rest number row.number row.value (pairs_of (next ∷ rows)) below) in
      let more : row.number < next.number = All-head (Above row.number) next rows ascend.0 in
      let less : next.number < number = All-head (Below number) next rows rest in
      All-cons (Below number) row (next ∷ rows) (omega (arith, more, less)) rest

  module _ (rows : List (Row T)) (end : ℕ) (within : end ≤ length rows) (empty : AreEmpty rows end (length rows)) where
    pub pairs_pushed : (number : ℕ) (value : T) → pairs_of (take end rows ++ record { number = number; value = Some value } ∷ []) ≡ pairs_of rows ++ (number, value) ∷ []
    pairs_pushed number value =
        filter_map-append pair_of (take end rows) (record { number = number; value = Some value } ∷ []) ∙ ap (λ xs. xs ++ (number, value) ∷ []) (pairs_until rows end empty)

    -- the empty places at the end are among those counted
    pub enough : (first_live empties : ℕ) → AreCounted rows first_live empties → length rows - end ≤ empties
    enough first_live empties kept =
        let few : length (pairs_of rows) ≤ length (take end rows) = subst (λ xs. length xs ≤ length (take end rows)) (pairs_until rows end empty) (length-pairs (take end rows)) in
        omega (arith, few, length-take-le end rows within, kept.counted)

    ends_live : (0 < end → IsLive rows (end - 1)) → EndsLive (take end rows)
    ends_live live k d is =
        let at : suc k ≡ end = is ∙ length-take-le end rows within in
        let here : IsSome (get_or rows (end - 1) d).value = live (omega (arith, at)) d in
        let place : end - 1 ≡ k = omega (arith, at) in
        let read : IsSome (get_or rows k d).value = subst (λ n. IsSome (get_or rows n d).value) place here in
        subst (λ r. IsSome r.value) (sym (get_or-take end rows k d (omega (arith, at)))) read

    first_pushed : (first_live : ℕ) (new : Row T) → IsSome new.value → (first_live < length rows → IsLive rows first_live)
        → IsLive (take end rows ++ new ∷ []) (min first_live end)
    first_pushed first_live new some first d =
        let short : length (take end rows) ≡ end = length-take-le end rows within in
        elim (cases_lt first_live end) [
          | inl early ↦
              let least : min first_live end ≡ first_live = omega (arith, early) in
              let there : get_or (take end rows ++ new ∷ []) first_live d ≡ get_or rows first_live d =
              get_or_append_left (take end rows) (new ∷ []) d first_live (omega (arith, short, early)) ∙ get_or-take end rows first_live d early in
              subst (λ n. IsSome (get_or (take end rows ++ new ∷ []) n d).value) (sym least)
              (subst (λ r. IsSome r.value) (sym there) (first (omega (arith, early, within)) d))
          | inr late ↦
              let least : min first_live end ≡ length (take end rows) = omega (arith, late, short) in
              subst (λ n. IsSome (get_or (take end rows ++ new ∷ []) n d).value) (sym least)
              (subst (λ r. IsSome r.value) (sym (get_or-append_seam (take end rows) new [] d)) some)
        ]

    pub kept_pushed : (first_live empties number : ℕ) (value : T) → (0 < end → IsLive rows (end - 1)) → AllBelow number (pairs_of rows)
        → AreKept rows first_live empties
        → AreKept (take end rows ++ record { number = number; value = Some value } ∷ []) (min first_live end) (empties - (length rows - end))
    kept_pushed first_live empties number value live below kept =
        let new : Row T = record { number = number; value = Some value } in
        let short : length (take end rows) ≡ end = length-take-le end rows within in
        let pairs : pairs_of (take end rows) ≡ pairs_of rows = pairs_until rows end empty in
        let ascend : Ascend (take end rows) = Ascend-front (take end rows) (drop end rows) (subst Ascend (sym (take-append-drop end rows)) kept.places.ascend) in
        let less : All (Below number) (take end rows) = all_below number (take end rows) ascend (ends_live live) (subst (AllBelow number) (sym pairs) below) in
        let long : length (take end rows ++ new ∷ []) ≡ end + 1 = length-append (take end rows) (new ∷ []) ∙ ap (λ n. n + 1) short in
        let count : length (pairs_of (take end rows ++ new ∷ [])) ≡ length (pairs_of rows) + 1 =
        ap length (pairs_pushed number value) ∙ length-append (pairs_of rows) ((number, value) ∷ []) in
        let fits : length rows - end ≤ empties = enough first_live empties kept.places in
        record {
          places = record {
            ascend = Ascend-push (take end rows) new ascend less;
            within = omega (arith, long);
            leading = λ k d from inside.
                let early : k < end = omega (arith, inside) in
                let first : k < first_live = omega (arith, inside) in
                ap (λ r. r.value) (get_or_append_left (take end rows) (new ∷ []) d k (omega (arith, short, early)) ∙ get_or-take end rows k d early) ∙ kept.places.leading k d from first;
            counted = omega (arith, long, count, fits, within, kept.places.counted);
          };
          first = λ inside. first_pushed first_live new refl kept.first;
          half = omega (arith, long, fits, within, kept.half);
        }

  -- ---- where a number is sought

  pub rises : (rows : List (Row T)) → Ascend rows → (i j : ℕ) (d : Row T) → i < j → j < length rows → (get_or rows i d).number < (get_or rows j d).number
  rises [] ascend i j d order inside = absurd (omega (arith, inside))
  rises (row ∷ rows) ascend i zero d order inside = absurd (omega (arith, order))
  rises (row ∷ rows) ascend zero (suc j) d order inside = ascend.0 j d (omega (arith, inside))
  rises (row ∷ rows) ascend (suc i) (suc j) d order inside = rises rows ascend.1 i j d (omega (arith, order)) (omega (arith, inside))

  pub never_falls : (rows : List (Row T)) → Ascend rows → IsNonDecreasingBy (λ row. row.number) rows
  never_falls rows ascend i j d order inside =
      elim (cases_lt i j) [
        | inl less ↦ let more = rises rows ascend i j d less inside in omega (arith, more)
        | inr no_less ↦ let same : i ≡ j = omega (arith, order, no_less) in subst (λ n. (get_or rows i d).number ≤ (get_or rows n d).number) same (omega arith)
      ]

  -- a number that doesn't stand where it would is nowhere
  pub nowhere : (rows : List (Row T)) (number place : ℕ) → Ascend rows → IsPartitionPoint (λ row. ltb row.number number ≡ true) (λ row. ltb row.number number ≡ false) rows place
      → (place < length rows → (d : Row T) → (get_or rows place d).number ≢ number) → All (λ row. row.number ≢ number) rows
  nowhere rows number place ascend point absent k d inside is =
      elim (cases_order k place) [
        | inl same ↦ absent (subst (λ n. n < length rows) same inside) d (subst (λ n. (get_or rows n d).number ≡ number) same is)
        | inr apart ↦
            elim apart [
              | inl before ↦ let less = ltb-true _ _ (point.0 k d (omega arith) before) in omega (arith, less, is)
              | inr behind ↦
                  let there : place < length rows = omega (arith, behind, inside) in
                  let least = ltb-false _ _ (point.1 place d (omega arith) there) in
                  let more = rises rows ascend place k d behind inside in
                  omega (arith, least, more, is)
            ]
      ]

  -- ---- the number that a search found, and one that it did not

  module _ (number place : ℕ) (slice rows : List (Row T)) (row : Row T) (same : slice ≡ rows) (ascend : Ascend rows) (within : place < length slice)
      (holds : HoldsAt (λ other. other.number ≡ number) slice place) (is : row ≡ get_or rows place row) where
    inside : place < length rows
    inside = subst (λ xs. place < length xs) same within

    number_is : row.number ≡ number
    number_is = let there : HoldsAt (λ other. other.number ≡ number) rows place = subst (λ xs. HoldsAt (λ other. other.number ≡ number) xs place) same holds in ap (λ r. r.number) is ∙ there row

    pub found : value_under number (pairs_of rows) ≡ row.value
    found = subst (λ n. value_under n (pairs_of rows) ≡ row.value) number_is (value_at rows place row ascend inside is)

    pub found_taken : (left : Option T) → left ≡ None → pairs_of (slice_set rows place (record { number = row.number; value = left })) ≡ without number (pairs_of rows)
    found_taken left none =
        ap (λ v. pairs_of (slice_set rows place (record { number = row.number; value = v }))) none
        ∙ subst (λ n. pairs_of (slice_set rows place (record { number = row.number; value = None })) ≡ without n (pairs_of rows)) number_is (taken_at rows place row ascend inside is)

    pub found_changed : (was value new : T) → Some was ≡ row.value → new ≡ value
        → pairs_of (slice_set rows place (record { number = row.number; value = Some new })) ≡ with_value number value (pairs_of rows)
    found_changed was value new some put =
        subst (λ n. pairs_of (slice_set rows place (record { number = row.number; value = Some new })) ≡ with_value n value (pairs_of rows)) number_is
        (changed_at rows place row ascend inside is was new (sym some) ∙ ap (λ v. with_value row.number v (pairs_of rows)) put)

    found_itself : pairs_of (slice_set rows place row) ≡ pairs_of rows
    found_itself = ap pairs_of (ap (slice_set rows place) is ∙ set-get_or rows place row)

    pub found_unchanged : (value : T) → None ≡ row.value → pairs_of (slice_set rows place row) ≡ with_value number value (pairs_of rows)
    found_unchanged value none =
        found_itself ∙ subst (λ n. pairs_of rows ≡ with_value n value (pairs_of rows)) number_is (sym (unchanged_at rows place row ascend inside is value (sym none)))

    pub found_kept_changed : (first_live empties : ℕ) (was value : T) → Some was ≡ row.value → AreKept rows first_live empties
        → AreKept (slice_set rows place (record { number = row.number; value = Some value })) first_live empties
    found_kept_changed first_live empties was value some kept = kept_changed rows place row ascend inside is first_live empties was value (sym some) kept

    pub found_kept_taken : (left : Option T) → left ≡ None → (first_live empties : ℕ) (was : T) → Some was ≡ row.value → AreCounted rows first_live empties
        → AreCounted (slice_set rows place (record { number = row.number; value = left })) first_live (empties + 1)
    found_kept_taken left none first_live empties was some kept =
        subst (λ v. AreCounted (slice_set rows place (record { number = row.number; value = v })) first_live (empties + 1)) (sym none)
        (kept_taken rows place row ascend inside is first_live empties was (sym some) kept)

  module _ (number : ℕ) (slice rows : List (Row T)) (same : slice ≡ rows) (absent : All (λ row. row.number ≢ number) slice) where
    not_there : AreApart number (pairs_of rows)
    not_there = subst (λ xs. AreApart number (pairs_of xs)) same (AreApart-rows number slice absent)

    pub absent_value : value_under number (pairs_of rows) ≡ None
    absent_value = value_under-apart number (pairs_of rows) not_there

    pub absent_without : without number (pairs_of rows) ≡ pairs_of rows
    absent_without = without-apart number (pairs_of rows) not_there

    pub absent_with_value : (value : T) → with_value number value (pairs_of rows) ≡ pairs_of rows
    absent_with_value value = with_value-apart number value (pairs_of rows) not_there

  -- ---- the places after a push, where an end was found

  module _ (slice rows : List (Row T)) (end len : ℕ) (same : slice ≡ rows) (long : len ≡ length slice) (within : end ≤ length slice) (empty : AreEmpty slice end (length slice)) where
    pub push_fits : (first_live empties : ℕ) → AreCounted rows first_live empties → len - end ≤ empties
    push_fits first_live empties kept =
        let few = enough slice end within empty first_live empties (subst (λ xs. AreCounted xs first_live empties) (sym same) kept) in
        omega (arith, few, long)

    after_is : (cut after : List (Row T)) (new : Row T) → cut ≡ take end rows → after ≡ cut ++ new ∷ [] → after ≡ take end slice ++ new ∷ []
    after_is cut after new cut_is put = put ∙ ap (λ xs. xs ++ new ∷ []) (cut_is ∙ ap (take end) (sym same))

    pub push_pairs : (number : ℕ) (value : T) (cut after : List (Row T)) → cut ≡ take end rows → after ≡ cut ++ record { number = number; value = Some value } ∷ []
        → pairs_of after ≡ pairs_of rows ++ (number, value) ∷ []
    push_pairs number value cut after cut_is put =
        ap pairs_of (after_is cut after (record { number = number; value = Some value }) cut_is put) ∙ pairs_pushed slice end within empty number value
        ∙ ap (λ xs. pairs_of xs ++ (number, value) ∷ []) same

    pub push_kept : (number : ℕ) (value : T) (cut after : List (Row T)) → cut ≡ take end rows → after ≡ cut ++ record { number = number; value = Some value } ∷ []
        → (first_live empties least : ℕ) → least ≡ min first_live end → (0 < end → IsLive slice (end - 1)) → AllBelow number (pairs_of rows)
        → AreKept rows first_live empties → AreKept after least (empties - (len - end))
    push_kept number value cut after cut_is put first_live empties least least_is live below kept =
        let kept' : AreKept slice first_live empties = subst (λ xs. AreKept xs first_live empties) (sym same) kept in
        let below' : AllBelow number (pairs_of slice) = subst (λ xs. AllBelow number (pairs_of xs)) (sym same) below in
        let there = kept_pushed slice end within empty first_live empties number value live below' kept' in
        rw (after_is cut after (record { number = number; value = Some value }) cut_is put, least_is, long) there

  -- a number under which a value stands has a place
  pub has_place : (place : Option ℕ) (number : ℕ) (slice rows : List (Row T)) → slice ≡ rows → IfNone place (All (λ row. row.number ≢ number) slice)
      → IsSome (value_under number (pairs_of rows)) → IsSome place
  has_place None number slice rows same absent some =
      absurd (let never : is_some {T = T} None ≡ true = subst (λ value. is_some value ≡ true) (absent_value number slice rows same absent) some in cc)
  has_place (Some place) number slice rows same absent some = refl

  abbrev pair_list : ℕ → List (ℕ × T) → Numbered T
  pair_list room pairs = record { pairs = pairs; room = room }

  pub with_room : (room : ℕ) (old new : List (ℕ × T)) → old ≡ new → pair_list room old ≡ pair_list room new
  with_room room old new same = ap (pair_list room) same

  -- the same of a place that was an answer, at which a value surely stands
  module _ (number place : ℕ) (answer : Option ℕ) (slice rows : List (Row T)) (row : Row T) (is_answer : answer ≡ Some place) (same : slice ≡ rows) (ascend : Ascend rows)
      (within : IfSome answer (λ other. other < length slice)) (holds : IfSome answer (λ other. HoldsAt (λ standing. standing.number ≡ number) slice other)) (is : row ≡ get_or rows place row) where
    inside_there : place < length slice
    inside_there = at_place (λ other. other < length slice) answer place is_answer within

    holds_there : HoldsAt (λ standing. standing.number ≡ number) slice place
    holds_there = at_place (λ other. HoldsAt (λ standing. standing.number ≡ number) slice other) answer place is_answer holds

    pub lent_value : value_under number (pairs_of rows) ≡ row.value
    lent_value = found number place slice rows row same ascend inside_there holds_there is

    pub lent_some : IsSome (value_under number (pairs_of rows)) → is_some row.value ≡ true
    lent_some some = subst (λ value. is_some value ≡ true) lent_value some

    pub lent_changed : (was value : T) → Some was ≡ row.value
        → pairs_of (slice_set rows place (record { number = row.number; value = Some value })) ≡ with_value number value (pairs_of rows)
    lent_changed was value some = found_changed number place slice rows row same ascend inside_there holds_there is was value value some refl

    pub lent_kept : (first_live empties : ℕ) (was value : T) → Some was ≡ row.value → AreKept rows first_live empties
        → AreKept (slice_set rows place (record { number = row.number; value = Some value })) first_live empties
    lent_kept first_live empties was value some kept =
        found_kept_changed number place slice rows row same ascend inside_there holds_there is first_live empties was value some kept
