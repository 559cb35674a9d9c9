-- As many values as stand one after the other: they are those that were spelled, whatever closed octets follow.
use Rattle.std.proofs.Common.{◌≡◌, ℕ, zero, suc, ◌<◌, ◌≤◌, List, [], ◌∷◌, ◌++◌, length, Result, Ok, Err, refl, sym, ap, subst, ◌∙◌, append_assoc, length-append, arith}
use Rattle.std.specs.List.{flat_map, AllByRecursion}
use Rattle.exact_octets.specs.declared.read_fault.ReadFault.{ReadFault}
use Rattle.exact_octets.specs.Reading.{Reader, with_more, many_within, many}
use Rattle.exact_octets.proofs.Readers.{AreOctets, AreOctets-rest, Answers, IsReader}

abbrev failed : {A : Type 0} → ReadFault → Result (A × List ℕ) ReadFault
failed fault = Err fault

-- no value stands first in the octets
abbrev pub StandsNone : {A : Type 0} → Reader A → List ℕ → Type 0
StandsNone read octets = (fault : ReadFault) × (read octets ≡ failed fault)

pub many_none : {A : Type 0} (read : Reader A) (octets : List ℕ) → StandsNone read octets → many read octets ≡ ([], octets)
unfolding many many_within
many_none read octets none = within (length octets)
  where
    within : (most : ℕ) → many_within read most octets ≡ ([], octets)
    within zero = refl
    within (suc most) = ap (λ (r : Result (_ × List ℕ) ReadFault). with_more r (many_within read most) octets) none.1

module _ {A : Type 0} (Good : A → Type 0) (spelled : A → List ℕ) (read : Reader A) (reads : IsReader Good spelled read) (some : (a : A) → Good a → 0 < length (spelled a)) where
  -- what is read is good, and shorter by its spelling
  read_good : (octets : List ℕ) (a : A) (after : List ℕ) → AreOctets octets → read octets ≡ Ok (a, after) → Good a × (octets ≡ spelled a ++ after)
  read_good octets a after fits h = subst (Answers Good spelled octets) h (reads.answers octets fits)

  shorter : (octets : List ℕ) (a : A) (after : List ℕ) → Good a → octets ≡ spelled a ++ after → length after < length octets
  shorter octets a after good parts = omega (arith, ap length parts, length-append (spelled a) after, some a good)

  -- where there is a value there are octets
  some_octets : (octets : List ℕ) (a : A) (after : List ℕ) → AreOctets octets → read octets ≡ Ok (a, after) → 0 < length octets
  some_octets octets a after fits h = let g = read_good octets a after fits h in omega (arith, shorter octets a after g.0 g.1)

  none_within : (octets : List ℕ) (most : ℕ) (r : Result (A × List ℕ) ReadFault) → AreOctets octets → length octets ≤ 0 → read octets ≡ r → with_more r (many_within read most) octets ≡ ([], octets)
  none_within octets most (Ok x) fits le h = absurd (omega (arith, some_octets octets x.0 x.1 fits h))
  none_within octets most (Err fault) fits le h = refl

  same_more : (m n : ℕ) (octets : List ℕ) (r : Result (A × List ℕ) ReadFault) → AreOctets octets → length octets ≤ suc m → length octets ≤ suc n → read octets ≡ r
      → ((after : List ℕ) → AreOctets after → length after ≤ m → length after ≤ n → many_within read m after ≡ many_within read n after)
      → with_more r (many_within read m) octets ≡ with_more r (many_within read n) octets
  same_more m n octets (Ok x) fits p q h same =
      let g = read_good octets x.0 x.1 fits h in
      let less = shorter octets x.0 x.1 g.0 g.1 in
      ap (λ (rest : List A × List ℕ). (x.0 ∷ rest.0, rest.1)) (same x.1 (AreOctets-rest (spelled x.0) x.1 (subst AreOctets g.1 fits)) (omega arith) (omega arith))
  same_more m n octets (Err fault) fits p q h same = refl

  -- more steps than octets change nothing
  enough : (m n : ℕ) (octets : List ℕ) → AreOctets octets → length octets ≤ m → length octets ≤ n → many_within read m octets ≡ many_within read n octets
  unfolding many_within
  enough zero zero octets fits p q = refl
  enough zero (suc n) octets fits p q = sym (none_within octets n (read octets) fits p refl)
  enough (suc m) zero octets fits p q = none_within octets m (read octets) fits q refl
  enough (suc m) (suc n) octets fits p q = same_more m n octets (read octets) fits p q refl (enough m n)

  -- one value, and those behind it
  pub many_more : (octets : List ℕ) (a : A) (after : List ℕ) → AreOctets octets → read octets ≡ Ok (a, after) → many read octets ≡ (a ∷ (many read after).0, (many read after).1)
  unfolding many many_within
  many_more octets a after fits h =
      let g = read_good octets a after fits h in
      steps (length octets) (AreOctets-rest (spelled a) after (subst AreOctets g.1 fits)) (shorter octets a after g.0 g.1)
    where
      steps : (most : ℕ) → AreOctets after → length after < most → many_within read most octets ≡ (a ∷ (many_within read (length after) after).0, (many_within read (length after) after).1)
      steps zero rest less = absurd (omega arith)
      steps (suc most) rest less =
          ap (λ (r : Result (A × List ℕ) ReadFault). with_more r (many_within read most) octets) h
          ∙ ap (λ (p : List A × List ℕ). (a ∷ p.0, p.1)) (enough most (length after) after rest (omega arith) (omega arith))

  -- what was spelled comes back, whatever stands behind it that begins with no value
  pub many_again : (xs : List A) (rest : List ℕ) → AllByRecursion Good xs → StandsNone read rest → many read (flat_map spelled xs ++ rest) ≡ (xs, rest)
  unfolding many many_within
  many_again xs rest good none = within xs good (length (flat_map spelled xs ++ rest)) (omega (arith, length-append (flat_map spelled xs) rest))
    where
      nothing : (most : ℕ) → many_within read most rest ≡ ([], rest)
      nothing zero = refl
      nothing (suc most) = ap (λ (r : Result (A × List ℕ) ReadFault). with_more r (many_within read most) rest) none.1

      within : (xs : List A) → AllByRecursion Good xs → (most : ℕ) → length (flat_map spelled xs) ≤ most → many_within read most (flat_map spelled xs ++ rest) ≡ (xs, rest)
      within [] good most le = nothing most
      within (x ∷ xs) good zero le = absurd (omega (arith, length-append (spelled x) (flat_map spelled xs), some x good.0))
      within (x ∷ xs) good (suc most) le =
          let parts : (spelled x ++ flat_map spelled xs) ++ rest ≡ spelled x ++ (flat_map spelled xs ++ rest) = append_assoc (spelled x) (flat_map spelled xs) rest in
          let first : read ((spelled x ++ flat_map spelled xs) ++ rest) ≡ Ok (x, flat_map spelled xs ++ rest) = ap read parts ∙ reads.again x (flat_map spelled xs ++ rest) good.0 in
          ap (λ (r : Result (A × List ℕ) ReadFault). with_more r (many_within read most) ((spelled x ++ flat_map spelled xs) ++ rest)) first
          ∙ ap (λ (p : List A × List ℕ). (x ∷ p.0, p.1)) (within xs good.1 most (omega (arith, length-append (spelled x) (flat_map spelled xs), some x good.0)))

  -- what is read is good, the octets are its spelling and what stands behind, and that begins with no value
  pub record IsMany (octets : List ℕ) (xs : List A) (rest : List ℕ) : Type 0 where
    pub good : AllByRecursion Good xs
    pub spells : octets ≡ flat_map spelled xs ++ rest
    pub none : StandsNone read rest

  one_more : (most : ℕ) (octets : List ℕ) (r : Result (A × List ℕ) ReadFault) → AreOctets octets → length octets ≤ suc most → read octets ≡ r
      → ((after : List ℕ) → AreOctets after → length after ≤ most → IsMany after (many_within read most after).0 (many_within read most after).1)
      → IsMany octets (with_more r (many_within read most) octets).0 (with_more r (many_within read most) octets).1
  one_more most octets (Err fault) fits le h more = record { good = tt; spells = refl; none = (fault, h) }
  one_more most octets (Ok x) fits le h more =
      let g = read_good octets x.0 x.1 fits h in
      let rest = more x.1 (AreOctets-rest (spelled x.0) x.1 (subst AreOctets g.1 fits)) (omega (arith, shorter octets x.0 x.1 g.0 g.1)) in
      record {
        good = (g.0, rest.good);
        spells = g.1 ∙ ap (λ (t : List ℕ). spelled x.0 ++ t) rest.spells ∙ sym (append_assoc (spelled x.0) (flat_map spelled (many_within read most x.1).0) (many_within read most x.1).1);
        none = rest.none;
      }

  no_more : (octets : List ℕ) (r : Result (A × List ℕ) ReadFault) → AreOctets octets → length octets ≤ 0 → read octets ≡ r → IsMany octets [] octets
  no_more octets (Ok x) fits le h = absurd (omega (arith, some_octets octets x.0 x.1 fits h))
  no_more octets (Err fault) fits le h = record { good = tt; spells = refl; none = (fault, h) }

  are_many : (most : ℕ) (octets : List ℕ) → AreOctets octets → length octets ≤ most → IsMany octets (many_within read most octets).0 (many_within read most octets).1
  unfolding many_within
  are_many zero octets fits le = no_more octets (read octets) fits le refl
  are_many (suc most) octets fits le = one_more most octets (read octets) fits le refl (are_many most)

  pub many_reads : (octets : List ℕ) → AreOctets octets → IsMany octets (many read octets).0 (many read octets).1
  unfolding many
  many_reads octets fits = are_many (length octets) octets fits (omega arith)
