-- Reading values one after the other, as a loop does: what was read so far stands before what is still read.
use Rattle.std.proofs.Common.{◌≡◌, ℕ, zero, suc, ◌+◌, ◌-◌, ◌<◌, ◌≤◌, List, [], ◌∷◌, ◌++◌, length, Result, Ok, Err, refl, sym, ap, ◌∙◌, append_assoc, arith}
use Rattle.std.proofs.lemmas.List.{append-nil}
use Rattle.exact_octets.specs.declared.read_fault.ReadFault.{ReadFault}
use Rattle.exact_octets.specs.declared.read_fault.ReadFault.TheVariants as faults
use Rattle.exact_octets.specs.Reading.{Reader, Fails, both, made, given, repeated, filled_within}

-- what was read before, and what is still read
abbrev pub with_front : {A : Type 0} → List A → Result (List A × List ℕ) ReadFault → Result (List A × List ℕ) ReadFault
with_front front (Ok x) = Ok (front ++ x.0, x.1)
with_front front (Err fault) = Err fault

regroup : {A : Type 0} (front : List A) (a : A) (rest : Result (List A × List ℕ) ReadFault) → with_front front (made (λ (x : A × List A). x.0 ∷ x.1) (both (given a) (λ x octets. rest)) []) ≡ with_front (front ++ a ∷ []) rest
regroup front a (Ok x) = ap (λ (xs : List _). Ok (xs, x.1)) (sym (append_assoc front (a ∷ []) x.0))
regroup front a (Err fault) = refl

nothing_more : {A : Type 0} (octets : List ℕ) (front : List A) → with_front front (given [] octets) ≡ Ok (front, octets)
nothing_more octets front = ap (λ (xs : List _). Ok (xs, octets)) (append-nil front)

-- ---- so many values

module _ {A : Type 0} (read : Reader A) where
  one_more : (a : A) (n : ℕ) (octets after : List ℕ) (front : List A) → read octets ≡ Ok (a, after) → with_front front (repeated read (suc n) octets) ≡ with_front (front ++ a ∷ []) (repeated read n after)
  unfolding repeated
  one_more a n octets after front h = rw h (regroup front a (repeated read n after))

  none_more : (fault : ReadFault) (n : ℕ) (octets : List ℕ) (front : List A) → read octets ≡ Err fault → with_front front (repeated read (suc n) octets) ≡ Err fault
  unfolding repeated
  none_more fault n octets front h = rw h refl

  all_read : (octets : List ℕ) (front : List A) → with_front front (repeated read 0 octets) ≡ Ok (front, octets)
  unfolding repeated
  all_read octets front = nothing_more octets front

  pub goes_on : (front : List A) (count i : ℕ) (octets : List ℕ) (a : A) (after : List ℕ) (total : Result (List A × List ℕ) ReadFault) → i < count → read octets ≡ Ok (a, after)
      → with_front front (repeated read (count - i) octets) ≡ total → with_front (front ++ a ∷ []) (repeated read (count - (i + 1)) after) ≡ total
  goes_on front count i octets a after total lt h so_far =
      let k : count - i ≡ suc (count - (i + 1)) = omega arith in
      sym (one_more a (count - (i + 1)) octets after front h) ∙ ap (λ (n : ℕ). with_front front (repeated read n octets)) (sym k) ∙ so_far

  pub ends : (fault : ReadFault) (front : List A) (count i : ℕ) (octets : List ℕ) (total : Result (List A × List ℕ) ReadFault) → i < count → Fails fault (read octets)
      → with_front front (repeated read (count - i) octets) ≡ total → Fails fault total
  ends faults.Memory front count i octets total lt h so_far = tt
  ends faults.Short front count i octets total lt h so_far =
      let k : count - i ≡ suc (count - (i + 1)) = omega arith in
      sym so_far ∙ ap (λ (n : ℕ). with_front front (repeated read n octets)) k ∙ none_more faults.Short (count - (i + 1)) octets front h
  ends (faults.Malformed left) front count i octets total lt h so_far =
      let k : count - i ≡ suc (count - (i + 1)) = omega arith in
      sym so_far ∙ ap (λ (n : ℕ). with_front front (repeated read n octets)) k ∙ none_more (faults.Malformed left) (count - (i + 1)) octets front h

  pub is_done : (front : List A) (count i : ℕ) (octets : List ℕ) (total : Result (List A × List ℕ) ReadFault) → count ≤ i → with_front front (repeated read (count - i) octets) ≡ total → total ≡ Ok (front, octets)
  is_done front count i octets total le so_far =
      let k : count - i ≡ 0 = omega arith in
      sym so_far ∙ ap (λ (n : ℕ). with_front front (repeated read n octets)) k ∙ all_read octets front

-- ---- values that fill so many octets

module _ {A : Type 0} (read : ℕ → Reader A) (spelled : A → List ℕ) where
  -- so many octets are left to be filled, and what was read so far stands before what is read of them
  pub record Filling (total : Result (List A × List ℕ) ReadFault) (front : List A) (left : ℕ) (octets : List ℕ) : Type 0 where
    pub steps : ℕ
    pub enough : left ≤ steps
    pub so_far : with_front front (filled_within read spelled steps left octets) ≡ total

  -- nothing was read yet
  pub filling_begins : (left : ℕ) (octets : List ℕ) → Filling (filled_within read spelled left left octets) [] left octets
  filling_begins left octets = record { steps = left; enough = omega arith; so_far = front_none (filled_within read spelled left left octets) }
    where
      front_none : (r : Result (List A × List ℕ) ReadFault) → with_front [] r ≡ r
      front_none (Ok x) = refl
      front_none (Err fault) = refl

  -- one was read, which takes so many octets
  pub filling_more : (total : Result (List A × List ℕ) ReadFault) (front : List A) (left : ℕ) (octets : List ℕ) (a : A) (takes : ℕ) (after : List ℕ) → 0 < left → length (spelled a) ≡ takes → 0 < takes → read left octets ≡ Ok (a, after)
      → Filling total front left octets → Filling total (front ++ a ∷ []) (left - takes) after
  unfolding filled_within
  filling_more total front left octets a takes after some takes-is takes-some h f = more f.steps left some f.enough h f.so_far
    where
      more : (steps left : ℕ) → 0 < left → left ≤ steps → read left octets ≡ Ok (a, after) → with_front front (filled_within read spelled steps left octets) ≡ total → Filling total (front ++ a ∷ []) (left - takes) after
      more steps zero some enough h so_far = absurd (omega arith)
      more zero (suc left) some enough h so_far = absurd (omega arith)
      more (suc steps) (suc left) some enough h so_far =
          let one : with_front front (filled_within read spelled (suc steps) (suc left) octets) ≡ with_front (front ++ a ∷ []) (filled_within read spelled steps (suc left - length (spelled a)) after) =
          rw h (regroup front a (filled_within read spelled steps (suc left - length (spelled a)) after)) in
          let same : suc left - length (spelled a) ≡ suc left - takes = ap (λ (n : ℕ). suc left - n) takes-is in
          record {
            steps = steps;
            enough = omega arith;
            so_far = ap (λ (n : ℕ). with_front (front ++ a ∷ []) (filled_within read spelled steps n after)) (sym same) ∙ sym one ∙ so_far;
          }

  -- one could not be read
  pub filling_fails : (fault : ReadFault) (total : Result (List A × List ℕ) ReadFault) (front : List A) (left : ℕ) (octets : List ℕ) → 0 < left → Fails fault (read left octets) → Filling total front left octets → Fails fault total
  unfolding filled_within
  filling_fails fault total front left octets some h f = fails fault f.steps left some f.enough h f.so_far
    where
      fails : (fault : ReadFault) (steps left : ℕ) → 0 < left → left ≤ steps → Fails fault (read left octets) → with_front front (filled_within read spelled steps left octets) ≡ total → Fails fault total
      fails fault steps zero some enough h so_far = absurd (omega arith)
      fails fault zero (suc left) some enough h so_far = absurd (omega arith)
      fails faults.Memory (suc steps) (suc left) some enough h so_far = tt
      fails faults.Short (suc steps) (suc left) some enough h so_far =
          let one : with_front front (filled_within read spelled (suc steps) (suc left) octets) ≡ Err faults.Short = rw h refl in
          sym so_far ∙ one
      fails (faults.Malformed at) (suc steps) (suc left) some enough h so_far =
          let one : with_front front (filled_within read spelled (suc steps) (suc left) octets) ≡ Err (faults.Malformed at) = rw h refl in
          sym so_far ∙ one

  -- nothing is left to be filled
  pub filling_ends : (total : Result (List A × List ℕ) ReadFault) (front : List A) (left : ℕ) (octets : List ℕ) → left ≡ 0 → Filling total front left octets → total ≡ Ok (front, octets)
  unfolding filled_within
  filling_ends total front left octets none f = sym f.so_far ∙ ends f.steps left none
    where
      ends : (steps left : ℕ) → left ≡ 0 → with_front front (filled_within read spelled steps left octets) ≡ Ok (front, octets)
      ends zero left none = nothing_more octets front
      ends (suc steps) zero none = nothing_more octets front
      ends (suc steps) (suc left) none = absurd (omega arith)
