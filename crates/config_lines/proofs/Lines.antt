-- The first line of a text.
use Rattle.std.proofs.Common.{◌≡◌, ◌∙◌, refl, sym, ap, subst, List, [], ◌∷◌, ℕ, ◌+◌, ◌<◌, ◌≤◌, ◌-◌, Bool, true, false, cond, nat_lt, arith, length, take, drop, Option, Some, None}
use Rattle.std.proofs.lemmas.Bool.{ltb-true, ltb-false, ne_eqb}
use Rattle.std.specs.List.{position, position_or_len, slice_split, before_first, after_first, All}
use Rattle.std.specs.Str.Lines.{lines, lines_of_parts, strip_carriage_return}
use Rattle.std.proofs.lemmas.List.{take_all, length-drop}
use Rattle.std.proofs.lemmas.List.Sums.{fails_before_first}
use Rattle.std.proofs.lemmas.List.Splits.{slice_split_first, slice_split_none, length-slice_split}
use Rattle.config_lines.specs.Line.{is_newline}

-- a part before others is a line
part_before : (part : List ℕ) (parts : List (List ℕ)) → 0 < length parts → lines_of_parts (part ∷ parts) ≡ strip_carriage_return part ∷ lines_of_parts parts
part_before part [] some = absurd (omega arith)
part_before part (next ∷ parts) some = refl

-- there is a place
abbrev IsPlace : Option ℕ → Type 0
IsPlace (Some n) = Unit {0}
IsPlace None = ⊥

-- the place, and 0 where there is none
abbrev place_in : Option ℕ → ℕ
place_in (Some n) = n
place_in None = 0

-- where there is a place, it is the one that was looked for
place_is : (b : Bool) (n at : ℕ) → cond b (Some n) None ≡ Some at → (b ≡ true) × (n ≡ at)
place_is true n at e = (refl, ap place_in e)
place_is false n at e = absurd (subst IsPlace (sym e) tt)

-- and where there is none, nothing passed
no_place : (b : Bool) (n : ℕ) → cond b (Some n) None ≡ None → b ≡ false
no_place true n e = absurd (subst IsPlace e tt)
no_place false n e = refl

-- a part that is the last is a line where it has an octet
only_line : (text : List ℕ) → 0 < length text → lines_of_parts (text ∷ []) ≡ text ∷ []
only_line text some = ap (λ b. cond b [] (text ∷ [])) (ne_eqb (length text) 0 (λ z. omega arith))

module _ (text : List ℕ) where
  -- a line ends before the first newline
  pub cut_some : (at : ℕ) → position is_newline text ≡ Some at → lines text ≡ strip_carriage_return (take at text) ∷ lines (take (length text - (at + 1)) (drop (at + 1) text))
  cut_some at e =
      let n : ℕ = position_or_len is_newline text in
      let found = place_is (nat_lt n (length text)) n at e in
      let within : n < length text = ltb-true n (length text) found.0 in
      ap lines_of_parts (slice_split_first is_newline text 0 within)
      ∙ (part_before (before_first is_newline text) (slice_split is_newline (after_first is_newline text)) (omega (arith, length-slice_split is_newline (after_first is_newline text)))
      ∙ (ap (λ (k : ℕ). strip_carriage_return (take k text) ∷ lines (drop (k + 1) text)) found.1
      ∙ ap (λ (rest : List ℕ). strip_carriage_return (take at text) ∷ lines rest) (sym (take_all (length text - (at + 1)) (drop (at + 1) text) (omega (arith, length-drop (at + 1) text))))))

  -- and else with the text
  pub cut_none : 0 < length text → position is_newline text ≡ None → lines text ≡ text ∷ lines []
  cut_none some e =
      let n : ℕ = position_or_len is_newline text in
      let past = no_place (nat_lt n (length text)) n e in
      let beyond : length text ≤ n = ltb-false n (length text) past in
      let none : All (λ b. is_newline b ≡ false) text = λ k d within. fails_before_first is_newline text k d (omega arith) in
      ap lines_of_parts (slice_split_none is_newline text none) ∙ only_line text some
