-- Values that fill so many octets are read exactly.
use Rattle.std.proofs.Common.{◌≡◌, ℕ, zero, suc, ◌+◌, ◌-◌, ◌<◌, ◌≤◌, List, [], ◌∷◌, ◌++◌, length, refl, sym, subst, ◌∙◌, length-append, arith}
use Rattle.std.specs.List.{flat_map, AllByRecursion}
use Rattle.exact_octets.specs.Reading.{Reader, given, filled_within, filled_at}
use Rattle.exact_octets.proofs.Readers.{IsReader, then_reads, made_reads, given_reads, renamed_reads}

-- Good values fill some numbers of octets (CanFill). Where so many are left for it and those behind it, read takes one that leaves so many
module _ {A : Type 0} (Good : A → Type 0) (spelled : A → List ℕ) (read : ℕ → Reader A) (CanFill : ℕ → Type 0) where
  -- a good value that leaves as many octets as can be filled
  abbrev pub Leaves : ℕ → A → Type 0
  Leaves left a = Good a × (length (spelled a) ≤ left) × CanFill (left - length (spelled a))

  -- good values that fill so many octets
  abbrev pub Fill : ℕ → List A → Type 0
  Fill left xs = AllByRecursion Good xs × (length (flat_map spelled xs) ≡ left)

  module _ (reads : (left : ℕ) → 0 < left → CanFill left → IsReader (Leaves left) spelled (read left)) (some : (a : A) → Good a → 0 < length (spelled a))
      (can : (xs : List A) → AllByRecursion Good xs → CanFill (length (flat_map spelled xs))) where
    none_fill : (xs : List A) → Fill 0 xs → xs ≡ []
    none_fill [] fill = refl
    none_fill (a ∷ xs) fill = absurd (omega (arith, fill.1, some a fill.0.0, length-append (spelled a) (flat_map spelled xs)))

    none_reads : IsReader (Fill 0) (flat_map spelled) (given [])
    none_reads = renamed_reads (given_reads []) (λ xs e. rw e (tt, refl)) none_fill (λ xs e. rw e refl)

    fill_more : (left : ℕ) (a : A) (xs : List A) → Leaves left a → Fill (left - length (spelled a)) xs → Fill left (a ∷ xs)
    fill_more left a xs leaves fill = ((leaves.0, fill.0), omega (arith, length-append (spelled a) (flat_map spelled xs), leaves.1, fill.1))

    fill_back : (left : ℕ) (xs : List A) → Fill (suc left) xs → (p : A × List A) × (Leaves (suc left) p.0 × Fill (suc left - length (spelled p.0)) p.1) × (p.0 ∷ p.1 ≡ xs) × (spelled p.0 ++ flat_map spelled p.1 ≡ flat_map spelled xs)
    fill_back left [] fill = absurd (omega (arith, fill.1))
    fill_back left (a ∷ xs) fill =
        let len : length (spelled a) + length (flat_map spelled xs) ≡ suc left = sym (length-append (spelled a) (flat_map spelled xs)) ∙ fill.1 in
        let rest : length (flat_map spelled xs) ≡ suc left - length (spelled a) = omega arith in
        ((a, xs), ((fill.0.0, omega arith, subst CanFill rest (can xs fill.0.1)), (fill.0.1, rest)), refl, refl)

    pub filled_within_reads : (steps left : ℕ) → left ≤ steps → CanFill left → IsReader (Fill left) (flat_map spelled) (filled_within read spelled steps left)
    unfolding filled_within
    filled_within_reads zero zero le can_fill = none_reads
    filled_within_reads zero (suc left) le can_fill = absurd (omega arith)
    filled_within_reads (suc steps) zero le can_fill = none_reads
    filled_within_reads (suc steps) (suc left) le can_fill =
        made_reads (λ (x : A × List A). x.0 ∷ x.1)
        (then_reads (reads (suc left) (omega arith) can_fill) (λ a leaves. filled_within_reads steps (suc left - length (spelled a)) (omega (arith, some a leaves.0)) leaves.2))
        (record { there = λ p good. (fill_more (suc left) p.0 p.1 good.0 good.1, refl); back = fill_back left })

    -- values that fill so many octets are read exactly
    pub filled_reads : (left : ℕ) → CanFill left → IsReader (Fill left) (flat_map spelled) (filled_at read spelled left)
    filled_reads left can_fill = filled_within_reads left left (omega arith) can_fill
