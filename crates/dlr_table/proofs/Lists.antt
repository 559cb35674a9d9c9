-- The lists under keys, where an entry comes or goes.
use Rattle.std.proofs.Common.{◌≡◌, ◌≢◌, ◌∙◌, refl, sym, ap, subst, ℕ, suc, ◌+◌, ◌<◌, ◌≤◌, Bool, true, false, cond, not, inl, inr, List, [], ◌∷◌, ◌++◌, length, get_or, drop, Some, None, arith}
use Rattle.std.specs.Prelude.{filter, position, ltb, slice_index_or}
use Rattle.std.specs.List.{position_or_len, remove}
use Rattle.std.proofs.lemmas.Bool.{and_parts, cases_Bool, ltb-true, ltb-false}
use Rattle.std.proofs.lemmas.List.{map-append, append-nil}
use Rattle.std.specs.Option.{option_map}
use Rattle.std.proofs.lemmas.List.Elements.{filter-append}
use Rattle.std.proofs.lemmas.Option.{none-some, cond_some}
use Rattle.std.proofs.lemmas.Slice.Eq.{bytes_eq-Decides}
use Rattle.dlr_table.specs.declared.awaited.Awaited.{Awaited}
use Rattle.dlr_table.specs.declared.reports.Entry.{Entry}
use Rattle.dlr_table.specs.Reports.{is_under, messages, oldest}

-- ---- a list of which the first item that passes is taken out

one_more : (n : ℕ) → 1 + n ≡ suc n
one_more n = omega arith

module _ {X : Type 0} (p : X → Bool) where
  here : (x : X) (xs : List X) → p x ≡ true → position_or_len p (x ∷ xs) ≡ 0
  here x xs is = ap (λ b. cond (not b) (1 + position_or_len p xs) 0) is

  behind : (x : X) (xs : List X) → p x ≡ false → position_or_len p (x ∷ xs) ≡ suc (position_or_len p xs)
  behind x xs other = ap (λ b. cond (not b) (1 + position_or_len p xs) 0) other ∙ one_more _

  oldest-filter : (d : X) (xs : List X) → position_or_len p xs < length xs → oldest (filter p xs) ≡ Some (get_or xs (position_or_len p xs) d)
  oldest-filter d [] within = absurd (omega (arith, within))
  oldest-filter d (x ∷ xs) within =
      elim (cases_Bool (p x)) [
        | inl is ↦
            let first : oldest (filter p (x ∷ xs)) ≡ Some x = rw is refl in
            first ∙ ap (λ n. Some (get_or (x ∷ xs) n d)) (sym (here x xs is))
        | inr other ↦
            let later : suc (position_or_len p xs) < suc (length xs) = subst (λ n. n < suc (length xs)) (behind x xs other) within in
            let first : oldest (filter p (x ∷ xs)) ≡ Some (get_or xs (position_or_len p xs) d) = rw other (oldest-filter d xs (omega (arith, later))) in
            first ∙ ap (λ n. Some (get_or (x ∷ xs) n d)) (sym (behind x xs other))
      ]

  filter-remove : (xs : List X) → filter p (remove xs (position_or_len p xs)) ≡ drop 1 (filter p xs)
  filter-remove [] = refl
  filter-remove (x ∷ xs) =
      elim (cases_Bool (p x)) [
        | inl is ↦
            let rest : filter p (remove (x ∷ xs) 0) ≡ drop 1 (filter p (x ∷ xs)) = rw is refl in
            ap (λ n. filter p (remove (x ∷ xs) n)) (here x xs is) ∙ rest
        | inr other ↦
            let rest : filter p (remove (x ∷ xs) (suc (position_or_len p xs))) ≡ drop 1 (filter p (x ∷ xs)) = rw other (filter-remove xs) in
            ap (λ n. filter p (remove (x ∷ xs) n)) (behind x xs other) ∙ rest
      ]

  filter_none : (xs : List X) → length xs ≤ position_or_len p xs → filter p xs ≡ []
  filter_none [] past = refl
  filter_none (x ∷ xs) past =
      elim (cases_Bool (p x)) [
        | inl is ↦
            let none : suc (length xs) ≤ 0 = subst (λ n. suc (length xs) ≤ n) (here x xs is) past in
            absurd (omega (arith, none))
        | inr other ↦
            let later : suc (length xs) ≤ suc (position_or_len p xs) = subst (λ n. suc (length xs) ≤ n) (behind x xs other) past in
            rw other (filter_none xs (omega (arith, later)))
      ]

  filter-remove_other : (q : X → Bool) → ((x : X) → p x ≡ true → q x ≡ false) → (xs : List X) → filter q (remove xs (position_or_len p xs)) ≡ filter q xs
  filter-remove_other q apart [] = refl
  filter-remove_other q apart (x ∷ xs) =
      elim (cases_Bool (p x)) [
        | inl is ↦
            let differ = apart x is in
            let rest : filter q (remove (x ∷ xs) 0) ≡ filter q (x ∷ xs) = rw differ refl in
            ap (λ n. filter q (remove (x ∷ xs) n)) (here x xs is) ∙ rest
        | inr other ↦
            let rest : filter q (remove (x ∷ xs) (suc (position_or_len p xs))) ≡ filter q (x ∷ xs) = ap (λ ys. cond (q x) (x ∷ ys) ys) (filter-remove_other q apart xs) in
            ap (λ n. filter q (remove (x ∷ xs) n)) (behind x xs other) ∙ rest
      ]

  -- where the first item that passes stands
  found_at : (n len place : ℕ) → Some place ≡ cond (ltb n len) (Some n) None → (n < len) × (n ≡ place)
  found_at n len place found = let parts = cond_some _ _ _ (sym found) in (ltb-true n len parts.0, parts.1)

  -- where none passes
  not_found : (n len : ℕ) → None ≡ cond (ltb n len) (Some n) None → len ≤ n
  not_found n len none =
      elim (cases_Bool (ltb n len)) [
        | inl is ↦ absurd (none-some n (none ∙ ap (λ b. cond b (Some n) None) is))
        | inr other ↦ ltb-false n len other
      ]

-- ---- the lists

oldest-map : (entries : List Entry) → oldest (messages entries) ≡ option_map (λ entry. entry.awaited) (oldest entries)
oldest-map [] = refl
oldest-map (entry ∷ entries) = refl

drop-map : (entries : List Entry) → messages (drop 1 entries) ≡ drop 1 (messages entries)
drop-map [] = refl
drop-map (entry ∷ entries) = refl

-- an entry has one key
one_key : (smsc foreign : List ℕ) (key : List ℕ × List ℕ) → key ≢ (smsc, foreign) → (entry : Entry) → is_under smsc foreign entry ≡ true → is_under key.0 key.1 entry ≡ false
one_key smsc foreign key differ entry is =
    elim (cases_Bool (is_under key.0 key.1 entry)) [
      | inl also ↦
          let a = and_parts _ _ is in
          let b = and_parts _ _ also in
          let own_foreign = (bytes_eq-Decides entry.key.foreign foreign).0 a.0 in
          let own_smsc = (bytes_eq-Decides entry.key.smsc smsc).0 a.1 in
          let its_foreign = (bytes_eq-Decides entry.key.foreign key.1).0 b.0 in
          let its_smsc = (bytes_eq-Decides entry.key.smsc key.0).0 b.1 in
          let same : key ≡ (smsc, foreign) = ap (λ s. (s, key.1)) (sym its_smsc ∙ own_smsc) ∙ ap (λ f. (smsc, f)) (sym its_foreign ∙ own_foreign) in
          absurd (differ same)
      | inr other ↦ other
    ]

module _ (smsc foreign : List ℕ) (entries : List Entry) where
  -- the first entry of a key holds the oldest message under it
  pub oldest_at : (place : ℕ) (entry : Entry) → Some place ≡ position (is_under smsc foreign) entries → entry ≡ slice_index_or entries place entry
      → Some entry.awaited ≡ oldest (messages (filter (is_under smsc foreign) entries))
  oldest_at place entry found stands =
      let at = found_at (is_under smsc foreign) _ _ place found in
      let first = oldest-filter (is_under smsc foreign) entry entries at.0 in
      let is : get_or entries (position_or_len (is_under smsc foreign) entries) entry ≡ entry = ap (λ n. get_or entries n entry) at.1 ∙ sym stands in
      sym (oldest-map _ ∙ ap (option_map (λ e. e.awaited)) (first ∙ ap Some is))

  -- a key without an entry has no message
  pub oldest_none : None ≡ position (is_under smsc foreign) entries → None ≡ oldest (messages (filter (is_under smsc foreign) entries))
  oldest_none none = let empty = filter_none (is_under smsc foreign) entries (not_found (is_under smsc foreign) _ _ none) in rw empty refl

  pub rest_none : None ≡ position (is_under smsc foreign) entries → messages (filter (is_under smsc foreign) entries) ≡ drop 1 (messages (filter (is_under smsc foreign) entries))
  rest_none none = let empty = filter_none (is_under smsc foreign) entries (not_found (is_under smsc foreign) _ _ none) in rw empty refl

  -- the list of a key whose first entry was removed
  pub rest_at : (place : ℕ) (after : List Entry) → Some place ≡ position (is_under smsc foreign) entries → after ≡ remove entries place
      → messages (filter (is_under smsc foreign) after) ≡ drop 1 (messages (filter (is_under smsc foreign) entries))
  rest_at place after found is =
      let at = found_at (is_under smsc foreign) _ _ place found in
      let removed : after ≡ remove entries (position_or_len (is_under smsc foreign) entries) = is ∙ ap (remove entries) (sym at.1) in
      ap (λ xs. messages (filter (is_under smsc foreign) xs)) removed ∙ ap messages (filter-remove (is_under smsc foreign) entries) ∙ drop-map _

  -- the list of another key
  pub others_at : (place : ℕ) (after : List Entry) → Some place ≡ position (is_under smsc foreign) entries → after ≡ remove entries place
      → (key : List ℕ × List ℕ) → key ≢ (smsc, foreign) → messages (filter (is_under key.0 key.1) after) ≡ messages (filter (is_under key.0 key.1) entries)
  others_at place after found is key differ =
      let at = found_at (is_under smsc foreign) _ _ place found in
      let removed : after ≡ remove entries (position_or_len (is_under smsc foreign) entries) = is ∙ ap (remove entries) (sym at.1) in
      ap (λ xs. messages (filter (is_under key.0 key.1) xs)) removed
      ∙ ap messages (filter-remove_other (is_under smsc foreign) (is_under key.0 key.1) (one_key smsc foreign key differ) entries)

  -- the list of the key of a new entry
  is_own : (awaited : Awaited) → is_under smsc foreign (record { key = record { smsc = smsc; foreign = foreign }; awaited = awaited }) ≡ true
  is_own awaited = let f = (bytes_eq-Decides foreign foreign).1 refl in let s = (bytes_eq-Decides smsc smsc).1 refl in rw (f, s) refl

  pub last_own : (awaited : Awaited) (after : List Entry) → after ≡ entries ++ record { key = record { smsc = smsc; foreign = foreign }; awaited = awaited } ∷ []
      → messages (filter (is_under smsc foreign) after) ≡ messages (filter (is_under smsc foreign) entries) ++ awaited ∷ []
  last_own awaited after is =
      let entry : Entry = record { key = record { smsc = smsc; foreign = foreign }; awaited = awaited } in
      let one : filter (is_under smsc foreign) (entry ∷ []) ≡ entry ∷ [] = ap (λ b. cond b (entry ∷ []) []) (is_own awaited) in
      ap (λ xs. messages (filter (is_under smsc foreign) xs)) is
      ∙ ap messages (filter-append (is_under smsc foreign) entries (entry ∷ []) ∙ ap (λ xs. filter (is_under smsc foreign) entries ++ xs) one)
      ∙ map-append (λ e. e.awaited) (filter (is_under smsc foreign) entries) (entry ∷ [])

  -- the list of another key than that of a new entry
  pub others_behind : (awaited : Awaited) (after : List Entry) → after ≡ entries ++ record { key = record { smsc = smsc; foreign = foreign }; awaited = awaited } ∷ []
      → (key : List ℕ × List ℕ) → key ≢ (smsc, foreign) → messages (filter (is_under key.0 key.1) after) ≡ messages (filter (is_under key.0 key.1) entries)
  others_behind awaited after is key differ =
      let entry : Entry = record { key = record { smsc = smsc; foreign = foreign }; awaited = awaited } in
      let none : filter (is_under key.0 key.1) (entry ∷ []) ≡ [] = ap (λ b. cond b (entry ∷ []) []) (one_key smsc foreign key differ entry (is_own awaited)) in
      ap (λ xs. messages (filter (is_under key.0 key.1) xs)) is
      ∙ ap messages (filter-append (is_under key.0 key.1) entries (entry ∷ []) ∙ ap (λ xs. filter (is_under key.0 key.1) entries ++ xs) none ∙ append-nil _)
