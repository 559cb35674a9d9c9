-- What an exact reader tells: where a spelling stands, and where octets cease to begin one.
use Rattle.std.proofs.Common.{◌≡◌, ℕ, zero, suc, ◌+◌, ◌-◌, ◌≤◌, List, [], ◌∷◌, ◌++◌, length, take, drop, Result, Ok, Err, refl, sym, ap, subst, ◌∙◌, append_assoc, length-append, take-append-drop, arith, inl, inr}
use Rattle.std.specs.Borrow.{Bor}
use Rattle.std.proofs.lemmas.List.{append-nil, take_at, take-take, take-append-le}
use Rattle.std.proofs.lemmas.Bool.{cases_lt}
use Rattle.exact_octets.specs.declared.read_fault.ReadFault.{ReadFault}
use Rattle.exact_octets.specs.declared.read_fault.ReadFault.TheVariants as faults
use Rattle.exact_octets.specs.declared.record_fault.RecordFault.TheVariants as told
use Rattle.exact_octets.specs.Reading.{Reader, Gives}
use Rattle.exact_octets.specs.Telling.{IsWithin, first_told, behind_told, all_told}
use Rattle.exact_octets.specs.Fronts.{Begins, IsProperFront, BreaksOffAt, GoesWrongAt, IsSpelled, ReadsFirst, ReadsAll}
use Rattle.exact_octets.proofs.Readers.{AreOctets, Begun, Lacking, Wrong, Answers, IsReader, ok_is}

nothing_last : (a b : List ℕ) → a ++ b ≡ [] → b ≡ []
nothing_last [] b e = e
nothing_last (x ∷ a) b e = absurd cc

take_past : (a b : List ℕ) (n : ℕ) → length a ≤ n → take n (a ++ b) ≡ a ++ take (n - length a) b
take_past [] b n le = let e : n - 0 ≡ n = omega arith in rw e refl
take_past (x ∷ a) b zero le = absurd (omega arith)
take_past (x ∷ a) b (suc n) le =
    let e : suc n - suc (length a) ≡ n - length a = omega arith in
    rw e (ap (λ (t : List ℕ). x ∷ t) (take_past a b n (omega arith)))

abbrev pair : {A : Type 0} → A → ℕ → A × ℕ
pair a n = (a, n)

module _ {A : Type 0} (Good : A → Type 0) (spelled : A → List ℕ) where
  abbrev Spelled : List ℕ → Type 0
  Spelled = IsSpelled Good spelled

  begins_from : (front : List ℕ) → Begun Good spelled front → Begins Spelled front
  begins_from front b = record { more = b.more; whole = (b.value, b.good, b.whole) }

  begun_from : (front : List ℕ) → Begins Spelled front → Begun Good spelled front
  begun_from front b = record { value = b.whole.0; more = b.more; good = b.whole.1; whole = b.whole.2 }

  pub proper_front : (octets : List ℕ) → Lacking Good spelled octets → IsProperFront Spelled octets
  proper_front octets h = record { more = h.more; some = h.some; whole = (h.value, h.good, h.whole) }

  pub goes_wrong : (octets : List ℕ) (at left : ℕ) → at + left ≡ length octets → Wrong Good spelled octets left → GoesWrongAt Spelled octets at
  goes_wrong octets at left place h =
      let len : length h.front ≡ at = omega (arith, ap length h.parts, length-append h.front (h.octet ∷ h.rest), h.at) in
      let front : take at octets ≡ h.front = ap (take at) h.parts ∙ take_at h.front (h.octet ∷ h.rest) at len in
      let len' : length (h.front ++ h.octet ∷ []) ≡ at + 1 = omega (arith, length-append h.front (h.octet ∷ [])) in
      let parts' : octets ≡ (h.front ++ h.octet ∷ []) ++ h.rest = h.parts ∙ sym (append_assoc h.front (h.octet ∷ []) h.rest) in
      let front' : take (at + 1) octets ≡ h.front ++ h.octet ∷ [] = ap (take (at + 1)) parts' ∙ take_at (h.front ++ h.octet ∷ []) h.rest (at + 1) len' in
      record {
        there = omega (arith, h.at);
        begins = subst (Begins Spelled) (sym front) (begins_from h.front h.begins);
        ends = λ b. h.ends (begun_from (h.front ++ h.octet ∷ []) (subst (Begins Spelled) front' b));
      }

  -- how many octets are left at a fault is at most how many there are
  pub left_within : (octets : List ℕ) (left : ℕ) → Wrong Good spelled octets left → left ≤ length octets
  left_within octets left h = omega (arith, ap length h.parts, length-append h.front (h.octet ∷ h.rest), h.at)

  -- ---- uniqueness: a spelling begins no other

  module _ (read : Reader A) (reads : IsReader Good spelled read) where
    pub one_spelling : (a b : A) (x y : List ℕ) → Good a → Good b → spelled a ++ x ≡ spelled b ++ y → (a ≡ b) × (x ≡ y)
    one_spelling a b x y ga gb e =
        let pair = ok_is (a, x) (b, y) (sym (reads.again a x ga) ∙ ap read e ∙ reads.again b y gb) in
        (ap (λ (p : A × List ℕ). p.0) pair, ap (λ (p : A × List ℕ). p.1) pair)

    -- a spelling with something behind it is no front of a spelling's front
    not_lacking : (octets : List ℕ) (a : A) (rest : List ℕ) → Good a → octets ≡ spelled a ++ rest → IsProperFront Spelled octets → ⊥
    not_lacking octets a rest good parts h =
        let one : spelled a ++ (rest ++ h.more) ≡ spelled h.whole.0 ++ [] = sym (append_assoc (spelled a) rest h.more) ∙ ap (λ (t : List ℕ). t ++ h.more) (sym parts) ∙ h.whole.2 ∙ sym (append-nil (spelled h.whole.0)) in
        let same = one_spelling a h.whole.0 (rest ++ h.more) [] good h.whole.1 one in
        h.some (nothing_last rest h.more same.1)

    -- octets that begin a spelling up to a place begin one up to each earlier place
    pub begins_earlier : (octets : List ℕ) (m n : ℕ) → m ≤ n → Begins Spelled (take n octets) → Begins Spelled (take m octets)
    begins_earlier octets m n le b =
        let parts : take m octets ++ drop m (take n octets) ≡ take n octets = ap (λ (t : List ℕ). t ++ drop m (take n octets)) (sym (take-take m n octets le)) ∙ take-append-drop m (take n octets) in
        let one : take m octets ++ (drop m (take n octets) ++ b.more) ≡ take n octets ++ b.more = sym (append_assoc (take m octets) (drop m (take n octets)) b.more) ∙ ap (λ (t : List ℕ). t ++ b.more) parts in
        record { more = drop m (take n octets) ++ b.more; whole = (b.whole.0, b.whole.1, one ∙ b.whole.2) }

    -- octets that begin a spelling begin one up to each place
    begins_within : (octets more : List ℕ) (m : ℕ) → Spelled (octets ++ more) → Begins Spelled (take m octets)
    begins_within octets more m s =
        let one : take m octets ++ (drop m octets ++ more) ≡ octets ++ more = sym (append_assoc (take m octets) (drop m octets) more) ∙ ap (λ (t : List ℕ). t ++ more) (take-append-drop m octets) in
        record { more = drop m octets ++ more; whole = (s.0, s.1, one ∙ s.2) }

    -- the place where octets cease to begin a spelling is the only one
    same_place : (octets : List ℕ) (at at' : ℕ) → Begins Spelled (take at octets) → (Begins Spelled (take (at + 1) octets) → ⊥) → Begins Spelled (take at' octets) → (Begins Spelled (take (at' + 1) octets) → ⊥) → at ≡ at'
    same_place octets at at' b e b' e' =
        elim (cases_lt at at') [
          | inl lt ↦ absurd (e (begins_earlier octets (at + 1) at' (omega arith) b'))
          | inr le ↦ elim (cases_lt at' at) [
            | inl lt ↦ absurd (e' (begins_earlier octets (at' + 1) at (omega arith) b))
            | inr le' ↦ omega arith
          ]
        ]

    -- a wrong octet stands behind a proper front
    breaks_off : (octets : List ℕ) (at left : ℕ) → at + left ≡ length octets → read octets ≡ Err (faults.Malformed left) → Wrong Good spelled octets left → BreaksOffAt Spelled octets at
    breaks_off octets at left place failed h =
        let w = goes_wrong octets at left place h in
        record {
          there = w.there;
          begins = record {
            more = w.begins.more;
            some = λ none.
                let front : take at octets ≡ spelled w.begins.whole.0 = sym (append-nil (take at octets)) ∙ ap (λ (t : List ℕ). take at octets ++ t) (sym none) ∙ w.begins.whole.2 in
                let parts : octets ≡ spelled w.begins.whole.0 ++ drop at octets = sym (take-append-drop at octets) ∙ ap (λ (t : List ℕ). t ++ drop at octets) front in
                let read_so : read octets ≡ Ok (w.begins.whole.0, drop at octets) = ap read parts ∙ reads.again w.begins.whole.0 (drop at octets) w.begins.whole.1 in
                cc (failed, read_so);
            whole = w.begins.whole;
          };
          ends = w.ends;
        }

    -- where a spelling stands first, no octet of it is wrong
    not_broken : (octets : List ℕ) (at : ℕ) (a : A) (rest : List ℕ) → Good a → octets ≡ spelled a ++ rest → BreaksOffAt Spelled octets at → ⊥
    not_broken octets at a rest good parts h =
        elim (cases_lt at (length (spelled a))) [
          | inl lt ↦
              let front : take (at + 1) octets ≡ take (at + 1) (spelled a) = ap (take (at + 1)) parts ∙ take-append-le (at + 1) (spelled a) rest (omega arith) in
              let b : Begins Spelled (take (at + 1) (spelled a)) = record { more = drop (at + 1) (spelled a); whole = (a, good, take-append-drop (at + 1) (spelled a)) } in
              h.ends (subst (Begins Spelled) (sym front) b)
          | inr le ↦
              let len : length (spelled a) ≤ at = le in
              let front : take at octets ≡ spelled a ++ take (at - length (spelled a)) rest = ap (take at) parts ∙ take_past (spelled a) rest at len in
              not_lacking (take at octets) a (take (at - length (spelled a)) rest) good front h.begins
        ]

    -- ---- what is told of what was read

    good_of : (octets : List ℕ) (a : A) (rest : List ℕ) → AreOctets octets → read octets ≡ Ok (a, rest) → Good a × (octets ≡ spelled a ++ rest)
    good_of octets a rest fits e = subst (Answers Good spelled octets) e (reads.answers octets fits)

    lacking_of : (octets : List ℕ) → AreOctets octets → read octets ≡ Err faults.Short → Lacking Good spelled octets
    lacking_of octets fits e = subst (Answers Good spelled octets) e (reads.answers octets fits)

    wrong_of : (octets : List ℕ) (left : ℕ) → AreOctets octets → read octets ≡ Err (faults.Malformed left) → Wrong Good spelled octets left
    wrong_of octets left fits e = subst (Answers Good spelled octets) e (reads.answers octets fits)

    -- the place of a fault
    place_of : (octets : List ℕ) (left : ℕ) → Wrong Good spelled octets left → (length octets - left) + left ≡ length octets
    place_of octets left h = let le = left_within octets left h in omega (arith, le)

    -- where a spelling stands first, nothing else is read
    read_again : (octets : List ℕ) (a : A) (rest : List ℕ) → Good a → octets ≡ spelled a ++ rest → read octets ≡ Ok (a, rest)
    read_again octets a rest good parts = ap read parts ∙ reads.again a rest good

    abbrev AsRead : List ℕ → Result (A × Bor (List ℕ)) ReadFault → Type 0
    AsRead octets r = Gives (λ (x : A × Bor (List ℕ)). (x.0, x.1.now)) r (read octets)

    -- what was read lies within the octets
    is_within : (octets : List ℕ) (r : Result (A × Bor (List ℕ)) ReadFault) → AreOctets octets → AsRead octets r → IsWithin (length octets) r
    is_within octets (Ok x) fits h = let g = good_of octets x.0 x.1.now fits h in omega (arith, ap length g.1, length-append (spelled x.0) x.1.now)
    is_within octets (Err faults.Short) fits h = tt
    is_within octets (Err (faults.Malformed left)) fits h = left_within octets left (wrong_of octets left fits h)
    is_within octets (Err faults.Memory) fits h = tt

    first_told_of : (octets : List ℕ) (r : Result (A × Bor (List ℕ)) ReadFault) → AreOctets octets → AsRead octets r → ReadsFirst Good spelled octets (first_told (length octets) r)
    first_told_of octets (Ok x) fits h =
        let g = good_of octets x.0 x.1.now fits h in
        let len : length octets - length x.1.now ≡ length (spelled x.0) = omega (arith, ap length g.1, length-append (spelled x.0) x.1.now) in
        record {
          found = (g.0, len, ap (take (length octets - length x.1.now)) g.1 ∙ take_at (spelled x.0) x.1.now (length octets - length x.1.now) (sym len));
          only = λ a rest good parts.
              let same = ok_is (x.0, x.1.now) (a, rest) (sym h ∙ read_again octets a rest good parts) in
              let value : x.0 ≡ a = ap (λ (p : A × List ℕ). p.0) same in
              ap (λ (n : ℕ). pair x.0 n) len ∙ ap (λ (v : A). pair v (length (spelled v))) value;
          fault = tt;
          short = λ proper. not_lacking octets x.0 x.1.now g.0 g.1 proper;
          malformed = λ at broken. not_broken octets at x.0 x.1.now g.0 g.1 broken;
        }
    first_told_of octets (Err faults.Short) fits h =
        let l = lacking_of octets fits h in
        record {
          found = tt;
          only = λ a rest good parts. let again = read_again octets a rest good parts in cc (h, again);
          fault = proper_front octets l;
          short = λ proper. refl;
          malformed = λ at broken. absurd (broken.ends (begins_within octets l.more (at + 1) (l.value, l.good, l.whole)));
        }
    first_told_of octets (Err (faults.Malformed left)) fits h =
        let wrong = wrong_of octets left fits h in
        let w = goes_wrong octets (length octets - left) left (place_of octets left wrong) wrong in
        record {
          found = tt;
          only = λ a rest good parts. let again = read_again octets a rest good parts in cc (h, again);
          fault = breaks_off octets (length octets - left) left (place_of octets left wrong) h wrong;
          short = λ proper. absurd (w.ends (begins_within octets proper.more (length octets - left + 1) proper.whole));
          malformed = λ at broken. ap (λ (n : ℕ). told.Malformed n) (same_place octets (length octets - left) at w.begins w.ends (record { more = broken.begins.more; whole = broken.begins.whole }) broken.ends);
        }
    first_told_of octets (Err faults.Memory) fits h = record { found = tt; only = λ a rest good parts. tt; fault = tt; short = λ proper. tt; malformed = λ at broken. tt }

    -- behind the spelling of a good value no octet goes on
    behind_wrong : (octets : List ℕ) (a : A) (octet : ℕ) (rest : List ℕ) → Good a → octets ≡ spelled a ++ octet ∷ rest → Wrong Good spelled octets (length (octet ∷ rest))
    behind_wrong octets a octet rest good parts = record {
      front = spelled a;
      octet = octet;
      rest = rest;
      parts = parts;
      at = refl;
      begins = record { value = a; more = []; good = good; whole = append-nil (spelled a) };
      ends = λ b.
          let one : spelled a ++ (octet ∷ b.more) ≡ spelled b.value ++ [] = sym (append_assoc (spelled a) (octet ∷ []) b.more) ∙ b.whole ∙ sym (append-nil (spelled b.value)) in
          let none : octet ∷ b.more ≡ [] = (one_spelling a b.value (octet ∷ b.more) [] good b.good one).1 in
          absurd (cc (none));
    }

    -- octets that go wrong where so many are left are no spelling
    wrong_told : (octets : List ℕ) (left : ℕ) → Wrong Good spelled octets left → ReadsAll Good spelled octets (Err (told.Malformed (length octets - left)))
    wrong_told octets left wrong =
        let w = goes_wrong octets (length octets - left) left (place_of octets left wrong) wrong in
        record {
          found = tt;
          only = λ a good parts. absurd (w.ends (begins_within octets [] (length octets - left + 1) (a, good, append-nil octets ∙ parts)));
          fault = w;
          short = λ proper. absurd (w.ends (begins_within octets proper.more (length octets - left + 1) proper.whole));
          malformed = λ at at_wrong. ap (λ (n : ℕ). told.Malformed n) (same_place octets (length octets - left) at w.begins w.ends at_wrong.begins at_wrong.ends);
        }

    -- a value with nothing behind it
    alone_told : (octets : List ℕ) (a : A) → Good a → octets ≡ spelled a → ReadsAll Good spelled octets (Ok a)
    alone_told octets a good parts = record {
      found = (good, parts);
      only = λ b good' parts'. (one_spelling a b [] [] good good' (append-nil (spelled a) ∙ sym parts ∙ parts' ∙ sym (append-nil (spelled b)))).0;
      fault = tt;
      short = λ proper. not_lacking octets a [] good (parts ∙ sym (append-nil (spelled a))) proper;
      malformed = λ at wrong. wrong.ends (begins_within octets [] (at + 1) (a, good, append-nil octets ∙ parts));
    }

    value_told : (octets : List ℕ) (a : A) (rest : List ℕ) → Good a → octets ≡ spelled a ++ rest → ReadsAll Good spelled octets (behind_told (length octets) a rest)
    value_told octets a [] good parts = alone_told octets a good (parts ∙ append-nil (spelled a))
    value_told octets a (octet ∷ rest) good parts = wrong_told octets (length (octet ∷ rest)) (behind_wrong octets a octet rest good parts)

    all_told_of : (octets : List ℕ) (r : Result (A × Bor (List ℕ)) ReadFault) → AreOctets octets → AsRead octets r → ReadsAll Good spelled octets (all_told (length octets) r)
    all_told_of octets (Ok x) fits h = let g = good_of octets x.0 x.1.now fits h in value_told octets x.0 x.1.now g.0 g.1
    all_told_of octets (Err faults.Short) fits h =
        let l = lacking_of octets fits h in
        record {
          found = tt;
          only = λ a good parts. let again = read_again octets a [] good (parts ∙ sym (append-nil (spelled a))) in cc (h, again);
          fault = proper_front octets l;
          short = λ proper. refl;
          malformed = λ at wrong. absurd (wrong.ends (begins_within octets l.more (at + 1) (l.value, l.good, l.whole)));
        }
    all_told_of octets (Err (faults.Malformed left)) fits h = wrong_told octets left (wrong_of octets left fits h)
    all_told_of octets (Err faults.Memory) fits h = record { found = tt; only = λ a good parts. tt; fault = tt; short = λ proper. tt; malformed = λ at wrong. tt }

-- ---- for the functions that read, by the law of their reader

module _ {A : Type 0} {Good : A → Type 0} {spelled : A → List ℕ} {read : Reader A} (reads : IsReader Good spelled read) (octets : List ℕ) (r : Result (A × Bor (List ℕ)) ReadFault)
    (fits : AreOctets octets) (h : Gives (λ (x : A × Bor (List ℕ)). (x.0, x.1.now)) r (read octets)) where
  -- what was read lies within the octets
  pub lies_within : IsWithin (length octets) r
  lies_within = is_within Good spelled read reads octets r fits h

  -- what is told of it is exact
  pub reads_first : ReadsFirst Good spelled octets (first_told (length octets) r)
  reads_first = first_told_of Good spelled read reads octets r fits h

  pub reads_all : ReadsAll Good spelled octets (all_told (length octets) r)
  reads_all = all_told_of Good spelled read reads octets r fits h

-- no spelling begins another: octets that begin with two spellings begin with one
pub one_first : {A : Type 0} {Good : A → Type 0} {spelled : A → List ℕ} {read : Reader A} → IsReader Good spelled read
    → (a b : A) (x y : List ℕ) → Good a → Good b → spelled a ++ x ≡ spelled b ++ y → (a ≡ b) × (x ≡ y)
one_first reads = one_spelling _ _ _ reads
