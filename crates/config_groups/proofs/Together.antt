-- Where a group has no fault, the texts that go into each part of a message have at most 30 characters together.
use Rattle.std.proofs.Common.{◌≡◌, ◌∙◌, refl, sym, ap, subst, ℕ, ◌+◌, ◌-◌, ◌≤◌, true, false, cond, not, ◌&&◌, List, [], ◌∷◌, ◌++◌, length, take, drop, Some, None, inl, inr, arith, length-append}
use Rattle.std.specs.Prelude.{bytes_eq}
use Rattle.std.specs.List.{list_any}
use Rattle.std.specs.Str.{is_utf8, chars}
use Rattle.std.proofs.Math.Seq.{take-append_seam, drop-append_seam}
use Rattle.std.proofs.lemmas.Bool.{and_parts, and_from, or_parts, or_from, or_left, or_right, cases_Bool, not-true, not_from_false, both_ways, eqb-false}
use Rattle.std.proofs.lemmas.List.Folds.{list_any-append}
use Rattle.config_values.specs.Values.{characters}
use Rattle.config_groups.specs.declared.group.Set.{Set}
use Rattle.config_groups.specs.declared.role.Role.{Role}
use Rattle.config_groups.specs.declared.table.Range.TheVariants.{Text}
use Rattle.config_groups.specs.Roles.{has_name, first}
use Rattle.config_groups.specs.Fields.{value_by, octets, value}
use Rattle.config_groups.specs.Faults.{range_of, is_text, is_counted, text_len, text_room, has_counted, are_too_long, is_wrong, fault_from, group_fault}
use Rattle.config_groups.proofs.Tried.{none_parts, same_name, still_new, right, whole_behind, none_behind}

-- ---- the characters that count, from a place on

module _ (role : Role) (group : List Set) where
  abbrev total : (at : ℕ) → (rest : List Set) → ℕ
  total at [] = 0
  total at (set ∷ rest) = text_len role (take at group) set + total (at + 1) rest

  room_left : (room at : ℕ) (rest : List Set) → text_room role group room at rest ≡ room - total at rest
  room_left room at [] = omega arith
  room_left room at (set ∷ rest) =
      let behind = room_left (room - text_len role (take at group) set) (at + 1) rest in
      omega arith

  none_count : (at : ℕ) (rest : List Set) → has_counted role group at rest ≡ false → total at rest ≡ 0
  none_count at [] none = refl
  none_count at (set ∷ rest) none =
      let parts = or_parts (is_counted role (take at group) set) (has_counted role group (at + 1) rest) none in
      let behind = none_count (at + 1) rest parts.1 in
      rw parts.0 (omega arith)

  before : (front rest : List Set) → group ≡ front ++ rest → take (length front) group ≡ front
  before front rest whole = ap (take (length front)) whole ∙ take-append_seam front rest

  behind : (front : List Set) (set : Set) (rest : List Set) → group ≡ front ++ set ∷ rest → drop (length front + 1) group ≡ rest
  behind front set rest whole =
      let more = whole_behind role group front set rest whole in
      ap (λ at. drop at group) (sym (length-append front (set ∷ []))) ∙ ap (drop (length (front ++ set ∷ []))) more ∙ drop-append_seam (front ++ set ∷ []) rest

  -- of texts that are too long together the last one would be a fault: so there is none
  none_counted : are_too_long role group ≡ true → (front rest : List Set) → group ≡ front ++ rest → fault_from role group (length front) rest ≡ None →
      has_counted role group (length front) rest ≡ false
  none_counted long front [] whole none = refl
  none_counted long front (set ∷ rest) whole none =
      let parts = none_parts (is_wrong role group (length front) set) _ _ none in
      let ahead = none_counted long (front ++ set ∷ []) rest (whole_behind role group front set rest whole) (none_behind role group front set rest parts.1) in
      let later : has_counted role group (length front + 1) rest ≡ false = subst (λ at. has_counted role group at rest ≡ false) (length-append front (set ∷ [])) ahead in
      or_from _ _
      (elim (cases_Bool (is_counted role (take (length front) group) set)) [
        | inl is ↦
            let new : list_any (has_name set.name) front ≡ false =
            subst (λ sets. list_any (has_name set.name) sets ≡ false) (before front (set ∷ rest) whole) (not-true _ (and_parts _ _ is).1) in
            let good = (right role group front set rest whole parts.0 new).1 in
            let last = not_from_false _ (subst (λ sets. has_counted role group (length front + 1) sets ≡ false) (sym (behind front set rest whole)) later) in
            absurd (both_ways _ good (and_from _ _ (and_from _ _ is last) long))
        | inr none ↦ none
      ])
      later

  short : group_fault role group ≡ None → total 0 group ≤ 30
  short none =
      let left = room_left 31 0 group in
      elim (cases_Bool (are_too_long role group)) [
        | inl long ↦ let zero = none_count 0 group (none_counted long [] group refl none) in omega arith
        | inr fits ↦ let some = eqb-false _ 0 fits in omega (arith, some)
      ]

-- ---- the same of one name

-- the characters of the first variable of a name, where none of that name stands before
abbrev len : (name : List ℕ) → (front rest : List Set) → ℕ
len name front rest = cond (list_any (has_name name) front) 0 (characters (value_by [] (first name rest)))

-- what a variable adds to them
abbrev share : (name : List ℕ) → (front : List Set) → Set → ℕ
share name front set = cond (has_name name set && not (list_any (has_name name) front)) (characters set.value) 0

len_step : (name : List ℕ) (front : List Set) (set : Set) (rest : List Set) → len name front (set ∷ rest) ≡ share name front set + len name (front ++ set ∷ []) rest
len_step name front set rest =
    let seam = list_any-append (has_name name) front (set ∷ []) in
    elim (cases_Bool (list_any (has_name name) front)) [
      | inl known ↦
          let more : list_any (has_name name) (front ++ set ∷ []) ≡ true = seam ∙ or_left _ _ known in
          elim (cases_Bool (has_name name set)) [ inl is ↦ rw (known, more, is) refl | inr other ↦ rw (known, more, other) refl ]
      | inr new ↦ elim (cases_Bool (has_name name set)) [
        | inl is ↦
            let more : list_any (has_name name) (front ++ set ∷ []) ≡ true = seam ∙ or_right _ _ (or_left _ _ is) in
            rw (new, more, is) (omega arith)
        | inr other ↦ rw (new, still_new name front set new other, other) (omega arith)
      ]
    ]

no_share : (name : List ℕ) (front : List Set) (set : Set) → has_name name set ≡ false → share name front set ≡ 0
no_share name front set other = rw other refl

share_other : (name other : List ℕ) (front : List Set) (set : Set) → set.name ≡ name → bytes_eq name other ≡ false → share other front set ≡ 0
share_other name other front set is differ = no_share other front set (ap (λ n. bytes_eq n other) is ∙ differ)

module _ (role : Role) where
  share_text : (name : List ℕ) (front : List Set) (set : Set) → range_of role name ≡ Some Text → has_name name set ≡ true → share name front set ≡ text_len role front set
  share_text name front set text is =
      let same = same_name name set is in
      let counts : is_text (range_of role set.name) ≡ true = ap (λ n. is_text (range_of role n)) same ∙ ap is_text text in
      rw (is, counts, same) refl

  module _ (a b c : List ℕ) (text_a : range_of role a ≡ Some Text) (text_b : range_of role b ≡ Some Text) (text_c : range_of role c ≡ Some Text)
      (ab : bytes_eq a b ≡ false) (ac : bytes_eq a c ≡ false) (bc : bytes_eq b c ≡ false) where
    -- a variable adds to one name at most
    shares : (front : List Set) (set : Set) → share a front set + share b front set + share c front set ≤ text_len role front set
    shares front set =
        elim (cases_Bool (has_name a set)) [
          | inl is ↦
              let same = same_name a set is in
              omega (arith, share_text a front set text_a is, share_other a b front set same ab, share_other a c front set same ac)
          | inr no_a ↦ elim (cases_Bool (has_name b set)) [
            | inl is ↦
                let same = same_name b set is in
                omega (arith, no_share a front set no_a, share_text b front set text_b is, share_other b c front set same bc)
            | inr no_b ↦ elim (cases_Bool (has_name c set)) [
              | inl is ↦ omega (arith, no_share a front set no_a, no_share b front set no_b, share_text c front set text_c is)
              | inr no_c ↦ omega (arith, no_share a front set no_a, no_share b front set no_b, no_share c front set no_c)
            ]
          ]
        ]

    len_none : (name : List ℕ) (front : List Set) → len name front [] ≡ 0
    unfolding is_utf8 chars
    len_none name front = elim (cases_Bool (list_any (has_name name) front)) [ inl known ↦ rw known refl | inr new ↦ rw new refl ]

    all_lens : (group front rest : List Set) → group ≡ front ++ rest → len a front rest + len b front rest + len c front rest ≤ total role group (length front) rest
    all_lens group front [] whole = omega (arith, len_none a front, len_none b front, len_none c front)
    all_lens group front (set ∷ rest) whole =
        let later = all_lens group (front ++ set ∷ []) rest (whole_behind role group front set rest whole) in
        let same : total role group (length (front ++ set ∷ [])) rest ≡ total role group (length front + 1) rest = ap (λ at. total role group at rest) (length-append front (set ∷ [])) in
        let here : text_len role (take (length front) group) set ≡ text_len role front set = ap (λ sets. text_len role sets set) (before role group front (set ∷ rest) whole) in
        omega (arith, later, same, here, shares front set, len_step a front set rest, len_step b front set rest, len_step c front set rest)

    -- three such texts have at most 30 characters together
    pub together : (group : List Set) → group_fault role group ≡ None → characters (octets a group) + characters (octets b group) + characters (octets c group) ≤ 30
    unfolding value
    together group none = omega (arith, all_lens group [] group refl, short role group none)
