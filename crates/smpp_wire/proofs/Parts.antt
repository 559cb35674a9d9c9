-- Parts of octets whose length is known: a part is read by how many octets are left for it and what stands behind it.
use Rattle.std.proofs.Common.{◌≡◌, ℕ, ◌+◌, ◌-◌, ◌≤◌, List, ◌++◌, length, sym, ap, subst, length-append, arith}
use Rattle.exact_octets.specs.Reading.{Reader, made}
use Rattle.exact_octets.proofs.Readers.{IsReader, Same, then_reads, made_reads, reworded_reads}
use Rattle.smpp_wire.specs.Reading.{then_at}

-- Can says how many octets a part and what stands behind it can fill, Rest how many what stands behind it can
module _ {A : Type 0} (Good : A → Type 0) (spelled : A → List ℕ) (Rest : ℕ → Type 0) where
  -- a good value that leaves as many octets as can be filled
  abbrev pub Leaves : ℕ → A → Type 0
  Leaves left a = Good a × (length (spelled a) ≤ left) × Rest (left - length (spelled a))

-- a part that is read exactly
pub record IsPart {A : Type 0} (Good : A → Type 0) (spelled : A → List ℕ) (read : ℕ → Reader A) (Can Rest : ℕ → Type 0) : Type 0 where
  pub reads : (left : ℕ) → Can left → IsReader (Leaves Good spelled Rest left) spelled (read left)
  pub can : (a : A) → Good a → (n : ℕ) → Rest n → Can (length (spelled a) + n)

-- a value of one length, by any reader that is exact
pub fixed_part : {A : Type 0} {Good : A → Type 0} {spelled : A → List ℕ} {read : Reader A} {Can Rest : ℕ → Type 0} → IsReader Good spelled read
    → (len : ℕ) → ((a : A) → Good a → length (spelled a) ≡ len) → ((left : ℕ) → Can left → (len ≤ left) × Rest (left - len)) → ((n : ℕ) → Rest n → Can (len + n))
    → IsPart Good spelled (λ left. read) Can Rest
fixed_part {Can = Can} {Rest = Rest} reads len is there back = record {
  reads = λ left can.
      let t = there left can in
      reworded_reads reads (λ a good. (good, omega (arith, is a good, t.0), subst (λ (n : ℕ). Rest (left - n)) (sym (is a good)) t.1)) (λ a good. good.0);
  can = λ a good n rest. subst (λ (m : ℕ). Can (m + n)) (sym (is a good)) (back n rest);
}

-- the same part, where what can be filled is said in other words
pub reworded_part : {A : Type 0} {Good : A → Type 0} {spelled : A → List ℕ} {read : ℕ → Reader A} {Can Can' Rest : ℕ → Type 0} → IsPart Good spelled read Can Rest
    → ((left : ℕ) → Can' left → Can left) → ((left : ℕ) → Can left → Can' left) → IsPart Good spelled read Can' Rest
reworded_part {spelled = spelled} part there back = record {
  reads = λ left can. part.reads left (there left can);
  can = λ a good n rest. back (length (spelled a) + n) (part.can a good n rest);
}

-- the same part, where what is good is said in other words
pub regarded_part : {A : Type 0} {Good Good' : A → Type 0} {spelled : A → List ℕ} {read : ℕ → Reader A} {Can Rest : ℕ → Type 0} → IsPart Good spelled read Can Rest
    → ((a : A) → Good a → Good' a) → ((a : A) → Good' a → Good a) → IsPart Good' spelled read Can Rest
regarded_part part there back = record {
  reads = λ left can. reworded_reads (part.reads left can) (λ a l. (there a l.0, l.1, l.2)) (λ a l. (back a l.0, l.1, l.2));
  can = λ a good n rest. part.can a (back a good) n rest;
}

module _ {A B : Type 0} (GA : A → Type 0) (sA : A → List ℕ) (rA : ℕ → Reader A) (GB : B → Type 0) (sB : B → List ℕ) (rB : ℕ → Reader B) (Can Mid Rest : ℕ → Type 0)
    (first : IsPart GA sA rA Can Mid) (second : IsPart GB sB rB Mid Rest) (size : A → ℕ) (is : (a : A) → GA a → size a ≡ length (sA a)) where
  abbrev Good : A × B → Type 0
  Good p = GA p.0 × GB p.1

  abbrev spelled : A × B → List ℕ
  spelled p = sA p.0 ++ sB p.1

  leaves_there : (left : ℕ) (p : A × B) → Leaves GA sA Mid left p.0 × Leaves GB sB Rest (left - length (sA p.0)) p.1 → Leaves Good spelled Rest left p
  leaves_there left p l =
      let len = length-append (sA p.0) (sB p.1) in
      let same : left - length (sA p.0) - length (sB p.1) ≡ left - length (sA p.0 ++ sB p.1) = omega arith in
      ((l.0.0, l.1.0), omega (arith, l.0.1, l.1.1), subst Rest same l.1.2)

  leaves_back : (left : ℕ) (p : A × B) → Leaves Good spelled Rest left p → Leaves GA sA Mid left p.0 × Leaves GB sB Rest (left - length (sA p.0)) p.1
  leaves_back left p l =
      let len = length-append (sA p.0) (sB p.1) in
      let rest : left - length (sA p.0 ++ sB p.1) ≡ left - length (sA p.0) - length (sB p.1) = omega arith in
      let mid : length (sB p.1) + (left - length (sA p.0 ++ sB p.1)) ≡ left - length (sA p.0) = omega (arith, l.1) in
      ((l.0.0, omega (arith, l.1), subst Mid mid (second.can p.1 l.0.1 (left - length (sA p.0 ++ sB p.1)) l.2)), (l.0.1, omega (arith, l.1), subst Rest rest l.2))

  then_is_part : IsPart Good spelled (then_at size rA rB) Can Rest
  then_is_part = record {
    reads = λ left can.
        reworded_reads
        (then_reads (first.reads left can) (λ a leaves.
        subst (λ (n : ℕ). IsReader (Leaves GB sB Rest (left - length (sA a))) sB (rB (left - n))) (sym (is a leaves.0)) (second.reads (left - length (sA a)) leaves.2)))
        (leaves_there left) (leaves_back left);
    can = λ p good n rest.
        let len = length-append (sA p.0) (sB p.1) in
        let all : length (sA p.0) + (length (sB p.1) + n) ≡ length (sA p.0 ++ sB p.1) + n = omega arith in
        subst Can all (first.can p.0 good.0 (length (sB p.1) + n) (second.can p.1 good.1 n rest));
  }

-- a part, and what stands behind it
pub then_part : {A B : Type 0} {GA : A → Type 0} {sA : A → List ℕ} {rA : ℕ → Reader A} {GB : B → Type 0} {sB : B → List ℕ} {rB : ℕ → Reader B} {Can Mid Rest : ℕ → Type 0}
    → IsPart GA sA rA Can Mid → (size : A → ℕ) → ((a : A) → GA a → size a ≡ length (sA a)) → IsPart GB sB rB Mid Rest → IsPart (λ (p : A × B). GA p.0 × GB p.1) (λ p. sA p.0 ++ sB p.1) (then_at size rA rB) Can Rest
then_part first size is second = then_is_part _ _ _ _ _ _ _ _ _ first second size is

-- a part made of what is read, by a function that loses nothing of it
pub made_part : {A C : Type 0} {GA : A → Type 0} {sA : A → List ℕ} {rA : ℕ → Reader A} {GC : C → Type 0} {sC : C → List ℕ} {Can Rest : ℕ → Type 0} (f : A → C)
    → IsPart GA sA rA Can Rest → Same GA sA GC sC f → IsPart GC sC (λ left. made f (rA left)) Can Rest
made_part {GC = GC} {sC = sC} {Can = Can} {Rest = Rest} f part same = record {
  reads = λ left can.
      made_reads f (part.reads left can) (record {
        there = λ a leaves.
            let t = same.there a leaves.0 in
            let len = ap length t.1 in
            ((t.0, omega (arith, len, leaves.1), subst (λ (n : ℕ). Rest (left - n)) (sym len) leaves.2), t.1);
        back = λ c leaves.
            let b = same.back c leaves.0 in
            let len = ap length b.3 in
            (b.0, (b.1, omega (arith, len, leaves.1), subst (λ (n : ℕ). Rest (left - n)) (sym len) leaves.2), b.2, b.3);
      });
  can = λ c good n rest.
      let b = same.back c good in
      subst (λ (m : ℕ). Can (m + n)) (ap length b.3) (part.can b.0 b.1 n rest);
}

-- ---- a part that fills what is left

abbrev pub IsNone : ℕ → Type 0
IsNone n = (0 ≤ n) × (n ≤ 0)

abbrev pub Fills : {A : Type 0} → (A → Type 0) → (A → List ℕ) → ℕ → A → Type 0
Fills Good spelled left a = Good a × (length (spelled a) ≡ left)

-- it is read exactly where so many octets can be filled
pub part_reads : {A : Type 0} {Good : A → Type 0} {spelled : A → List ℕ} {read : ℕ → Reader A} {Can : ℕ → Type 0} → IsPart Good spelled read Can IsNone
    → (left : ℕ) → Can left → IsReader (Fills Good spelled left) spelled (read left)
part_reads part left can = reworded_reads (part.reads left can) (λ a l. (l.0, omega (arith, l.1, l.2.1))) (λ a l. (l.0, omega (arith, l.1), (omega arith, omega (arith, l.1))))

-- what is good can be filled
pub part_can : {A : Type 0} {Good : A → Type 0} {spelled : A → List ℕ} {read : ℕ → Reader A} {Can : ℕ → Type 0} → IsPart Good spelled read Can IsNone
    → (a : A) → Good a → Can (length (spelled a))
part_can {spelled = spelled} {Can = Can} part a good =
    let all : length (spelled a) + 0 ≡ length (spelled a) = omega arith in
    subst Can all (part.can a good 0 (omega arith, omega arith))

-- such a part by its readers
pub part_of : {A : Type 0} {Good : A → Type 0} {spelled : A → List ℕ} {read : ℕ → Reader A} {Can : ℕ → Type 0}
    → ((left : ℕ) → Can left → IsReader (Fills Good spelled left) spelled (read left)) → ((a : A) → Good a → Can (length (spelled a))) → IsPart Good spelled read Can IsNone
part_of {spelled = spelled} {Can = Can} reads can = record {
  reads = λ left can_fill. reworded_reads (reads left can_fill) (λ a f. (f.0, omega (arith, f.1), (omega arith, omega (arith, f.1)))) (λ a l. (l.0, omega (arith, l.1, l.2.1)));
  can = λ a good n none.
      let all : length (spelled a) ≡ length (spelled a) + n = omega (arith, none.1) in
      subst Can all (can a good);
}
