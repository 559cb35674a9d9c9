-- Readers that are exact for a grammar: what they read is spelled so, what is spelled so they read, and each fault is at its first octet.
use Rattle.std.proofs.Common.{◌≡◌, ℕ, zero, suc, ◌+◌, ◌<◌, Bool, true, false, cond, List, [], ◌∷◌, ◌++◌, length, get_or, Result, Ok, Err, refl, sym, ap, subst, ◌∙◌, append_assoc, arith, inl, inr, ◌⊎◌}
use Rattle.std.proofs.lemmas.List.{get_or-append-add}
use Rattle.std.specs.List.{flat_map, AllByRecursion}
use Rattle.exact_octets.specs.declared.read_fault.ReadFault.{ReadFault}
use Rattle.exact_octets.specs.declared.read_fault.ReadFault.TheVariants as faults
use Rattle.exact_octets.specs.Reading.{◌>>=◌, Reader, both, made, given, octet_at, repeated}

-- octets are numbers below 256
abbrev pub AreOctets : List ℕ → Type 0
AreOctets octets = (i : ℕ) → get_or octets i 0 < 256

-- the octets behind others are octets
pub AreOctets-rest : (front rest : List ℕ) → AreOctets (front ++ rest) → AreOctets rest
AreOctets-rest front rest fits i = rw (← get_or-append-add front rest i 0) (fits (length front + i))

-- octets with which the spelling of a good value begins
pub record Begun {A : Type 0} (Good : A → Type 0) (spelled : A → List ℕ) (front : List ℕ) : Type 0 where
  pub value : A
  pub more : List ℕ
  pub good : Good value
  pub whole : front ++ more ≡ spelled value

-- the same, where something lacks
pub record Lacking {A : Type 0} (Good : A → Type 0) (spelled : A → List ℕ) (front : List ℕ) : Type 0 where
  pub value : A
  pub more : List ℕ
  pub good : Good value
  pub whole : front ++ more ≡ spelled value
  pub some : more ≡ [] → ⊥

-- octets that begin a spelling up to an octet with which none goes on, behind which so many are left
pub record Wrong {A : Type 0} (Good : A → Type 0) (spelled : A → List ℕ) (octets : List ℕ) (left : ℕ) : Type 0 where
  pub front : List ℕ
  pub octet : ℕ
  pub rest : List ℕ
  pub parts : octets ≡ front ++ octet ∷ rest
  pub at : left ≡ suc (length rest)
  pub begins : Begun Good spelled front
  pub ends : Begun Good spelled (front ++ octet ∷ []) → ⊥

-- what a reader may answer
abbrev pub Answers : {A : Type 0} → (A → Type 0) → (A → List ℕ) → List ℕ → Result (A × List ℕ) ReadFault → Type 0
Answers Good spelled octets (Ok x) = Good x.0 × (octets ≡ spelled x.0 ++ x.1)
Answers Good spelled octets (Err faults.Short) = Lacking Good spelled octets
Answers Good spelled octets (Err (faults.Malformed left)) = Wrong Good spelled octets left
Answers Good spelled octets (Err faults.Memory) = ⊥

-- a reader that is exact
pub record IsReader {A : Type 0} (Good : A → Type 0) (spelled : A → List ℕ) (read : Reader A) : Type 0 where
  pub one : (a : A) × Good a
  pub again : (a : A) (rest : List ℕ) → Good a → read (spelled a ++ rest) ≡ Ok (a, rest)
  pub answers : (octets : List ℕ) → AreOctets octets → Answers Good spelled octets (read octets)

abbrev pub done : {A : Type 0} → A → Result A ReadFault
done x = Ok x

pub ok_is : {A : Type 0} (x y : A) → done x ≡ done y → x ≡ y
ok_is x y e = cc

-- two lists that begin one list: the first ends within the second, or the other way round
pub split_at_end : (a b c d : List ℕ) → a ++ b ≡ c ++ d → ((m : List ℕ) × (a ++ m ≡ c)) ⊎ ((m : List ℕ) × (a ≡ c ++ m))
split_at_end [] b c d e = inl (c, refl)
split_at_end (x ∷ a) b [] d e = inr (x ∷ a, refl)
split_at_end (x ∷ a) b (y ∷ c) d e =
    let head : x ≡ y = cc in
    let rest : a ++ b ≡ c ++ d = cc in
    elim (split_at_end a b c d rest) [
      | inl w ↦ inl (w.0, ap (λ (t : List ℕ). x ∷ t) w.1 ∙ ap (λ h. h ∷ c) head)
      | inr w ↦ inr (w.0, ap (λ (t : List ℕ). x ∷ t) w.1 ∙ ap (λ h. h ∷ (c ++ w.0)) head)
    ]

no_more : (a b : List ℕ) → a ++ b ≡ [] → a ≡ []
no_more [] b e = refl
no_more (x ∷ a) b e = absurd cc

-- a value that takes no octets
pub given_reads : {A : Type 0} (value : A) → IsReader (λ a. a ≡ value) (λ a. []) (given value)
given_reads value = record {
  one = (value, refl);
  again = λ a rest e. ap (λ v. Ok (v, rest)) (sym e);
  answers = λ octets fits. (refl, refl);
}

-- ---- one behind the other

module _ {A B : Type 0} (GA : A → Type 0) (sA : A → List ℕ) (rA : Reader A) (GB : A → B → Type 0) (sB : A → B → List ℕ) (rB : A → Reader B)
    (first : IsReader GA sA rA) (second : (a : A) → GA a → IsReader (GB a) (sB a) (rB a)) where
  abbrev Good : A × B → Type 0
  Good p = GA p.0 × GB p.0 p.1

  abbrev spelled : A × B → List ℕ
  spelled p = sA p.0 ++ sB p.0 p.1

  -- what begins the first begins both
  begun_first : (front : List ℕ) → Begun GA sA front → Begun Good spelled front
  begun_first front b =
      let one = (second b.value b.good).one in
      record { value = (b.value, one.0); more = b.more ++ sB b.value one.0; good = (b.good, one.1); whole = sym (append_assoc front b.more (sB b.value one.0)) ∙ ap (λ (t : List ℕ). t ++ sB b.value one.0) b.whole }

  -- what begins the second behind a first begins both
  begun_second : (a : A) (front : List ℕ) → GA a → Begun (GB a) (sB a) front → Begun Good spelled (sA a ++ front)
  begun_second a front good b = record { value = (a, b.value); more = b.more; good = (good, b.good); whole = append_assoc (sA a) front b.more ∙ ap (λ (t : List ℕ). sA a ++ t) b.whole }

  -- a first value is the only one
  same_first : (a b : A) (x y : List ℕ) → GA a → GA b → sA a ++ x ≡ sA b ++ y → (a ≡ b) × (x ≡ y)
  same_first a b x y ga gb e =
      let both_read : done (a, x) ≡ done (b, y) = sym (first.again a x ga) ∙ ap rA e ∙ first.again b y gb in
      let pair = ok_is (a, x) (b, y) both_read in
      (ap (λ (p : A × List ℕ). p.0) pair, ap (λ (p : A × List ℕ). p.1) pair)

  -- what begins both behind a first begins the second
  second_begun : (a : A) (front : List ℕ) → GA a → Begun Good spelled (sA a ++ front) → Begun (GB a) (sB a) front
  second_begun a front good b =
      let same = same_first a b.value.0 (front ++ b.more) (sB b.value.0 b.value.1) good b.good.0 (sym (append_assoc (sA a) front b.more) ∙ b.whole) in
      let at_a : GB a b.value.1 × (front ++ b.more ≡ sB a b.value.1) = subst (λ (c : A). GB c b.value.1 × (front ++ b.more ≡ sB c b.value.1)) (sym same.0) (b.good.1, same.1) in
      record { value = b.value.1; more = b.more; good = at_a.0; whole = at_a.1 }

  -- what begins both begins the first, unless a first stands before its end
  first_begun : (front rest : List ℕ) (e : ReadFault) → rA (front ++ rest) ≡ Err e → Begun Good spelled front → Begun GA sA front
  first_begun front rest e failed b =
      elim (split_at_end front b.more (sA b.value.0) (sB b.value.0 b.value.1) b.whole) [
        | inl w ↦ record { value = b.value.0; more = w.0; good = b.good.0; whole = w.1 }
        | inr w ↦
            let read : rA (front ++ rest) ≡ Ok (b.value.0, w.0 ++ rest) = ap rA (ap (λ (t : List ℕ). t ++ rest) w.1 ∙ append_assoc (sA b.value.0) w.0 rest) ∙ first.again b.value.0 (w.0 ++ rest) b.good.0 in
            absurd (cc (failed, read))
      ]

  second_answers : (octets : List ℕ) (a : A) (behind : List ℕ) (r : Result (B × List ℕ) ReadFault) → GA a → octets ≡ sA a ++ behind → Answers (GB a) (sB a) behind r
      → Answers Good spelled octets (r >>= λ y. Ok ((a, y.0), y.1))
  second_answers octets a behind (Ok y) good e h = ((good, h.0), e ∙ ap (λ (t : List ℕ). sA a ++ t) h.1 ∙ sym (append_assoc (sA a) (sB a y.0) y.1))
  second_answers octets a behind (Err faults.Short) good e h = record {
    value = (a, h.value);
    more = h.more;
    good = (good, h.good);
    whole = ap (λ (t : List ℕ). t ++ h.more) e ∙ append_assoc (sA a) behind h.more ∙ ap (λ (t : List ℕ). sA a ++ t) h.whole;
    some = h.some;
  }
  second_answers octets a behind (Err (faults.Malformed left)) good e h = record {
    front = sA a ++ h.front;
    octet = h.octet;
    rest = h.rest;
    parts = e ∙ ap (λ (t : List ℕ). sA a ++ t) h.parts ∙ sym (append_assoc (sA a) h.front (h.octet ∷ h.rest));
    at = h.at;
    begins = begun_second a h.front good h.begins;
    ends = λ b. h.ends (second_begun a (h.front ++ h.octet ∷ []) good (subst (Begun Good spelled) (append_assoc (sA a) h.front (h.octet ∷ [])) b));
  }
  second_answers octets a behind (Err faults.Memory) good e h = absurd h

  both_answers : (octets : List ℕ) → AreOctets octets → (r : Result (A × List ℕ) ReadFault) → rA octets ≡ r → Answers GA sA octets r
      → Answers Good spelled octets (r >>= λ x. rB x.0 x.1 >>= λ y. Ok ((x.0, y.0), y.1))
  unfolding begun_first
  both_answers octets fits (Ok x) e h =
      second_answers octets x.0 x.1 (rB x.0 x.1) h.0 h.1 ((second x.0 h.0).answers x.1 (AreOctets-rest (sA x.0) x.1 (subst AreOctets h.1 fits)))
  both_answers octets fits (Err faults.Short) e h =
      let b = begun_first octets (record { value = h.value; more = h.more; good = h.good; whole = h.whole }) in
      record { value = b.value; more = b.more; good = b.good; whole = b.whole; some = λ none. h.some (no_more h.more (sB h.value (second h.value h.good).one.0) none) }
  both_answers octets fits (Err (faults.Malformed left)) e h = record {
    front = h.front;
    octet = h.octet;
    rest = h.rest;
    parts = h.parts;
    at = h.at;
    begins = begun_first h.front h.begins;
    ends = λ b. h.ends (first_begun (h.front ++ h.octet ∷ []) h.rest (faults.Malformed left) (ap rA (append_assoc h.front (h.octet ∷ []) h.rest ∙ sym h.parts) ∙ e) b);
  }
  both_answers octets fits (Err faults.Memory) e h = absurd h

  both_is_reader : IsReader Good spelled (both rA rB)
  both_is_reader = record {
    one = ((first.one.0, (second first.one.0 first.one.1).one.0), (first.one.1, (second first.one.0 first.one.1).one.1));
    again = λ p rest good. ap (both rA rB) (append_assoc (sA p.0) (sB p.0 p.1) rest) ∙ rw (first.again p.0 (sB p.0 p.1 ++ rest) good.0, (second p.0 good.0).again p.1 rest good.1) refl;
    answers = λ octets fits. both_answers octets fits (rA octets) refl (first.answers octets fits);
  }

-- a value, and a second one behind it that hangs on the first
pub then_reads : {A B : Type 0} {GA : A → Type 0} {sA : A → List ℕ} {rA : Reader A} {GB : A → B → Type 0} {sB : A → B → List ℕ} {rB : A → Reader B}
    → IsReader GA sA rA → ((a : A) → GA a → IsReader (GB a) (sB a) (rB a)) → IsReader (λ (p : A × B). GA p.0 × GB p.0 p.1) (λ p. sA p.0 ++ sB p.0 p.1) (both rA rB)
then_reads first second = both_is_reader _ _ _ _ _ _ first second

infixr 20 ◌&◌
-- a value, and a second one behind it
pub ◌&◌ : {A B : Type 0} {GA : A → Type 0} {sA : A → List ℕ} {rA : Reader A} {GB : B → Type 0} {sB : B → List ℕ} {rB : Reader B}
    → IsReader GA sA rA → IsReader GB sB rB → IsReader (λ (p : A × B). GA p.0 × GB p.1) (λ p. sA p.0 ++ sB p.1) (both rA (λ a. rB))
first & second = then_reads first (λ a good. second)

-- ---- a value made of what is read

-- two ways to see what is spelled
pub record Same {A C : Type 0} (GA : A → Type 0) (sA : A → List ℕ) (GC : C → Type 0) (sC : C → List ℕ) (f : A → C) : Type 0 where
  pub there : (a : A) → GA a → GC (f a) × (sC (f a) ≡ sA a)
  pub back : (c : C) → GC c → (a : A) × GA a × (f a ≡ c) × (sA a ≡ sC c)

module _ {A C : Type 0} (GA : A → Type 0) (sA : A → List ℕ) (rA : Reader A) (GC : C → Type 0) (sC : C → List ℕ) (f : A → C)
    (reads : IsReader GA sA rA) (same : Same GA sA GC sC f) where
  made_begun : (front : List ℕ) → Begun GA sA front → Begun GC sC front
  made_begun front b = let t = same.there b.value b.good in record { value = f b.value; more = b.more; good = t.0; whole = b.whole ∙ sym t.1 }

  begun_made : (front : List ℕ) → Begun GC sC front → Begun GA sA front
  begun_made front b = let t = same.back b.value b.good in record { value = t.0; more = b.more; good = t.1; whole = b.whole ∙ sym t.3 }

  made_answers : (octets : List ℕ) (r : Result (A × List ℕ) ReadFault) → Answers GA sA octets r → Answers GC sC octets (r >>= λ x. Ok (f x.0, x.1))
  made_answers octets (Ok x) h = let t = same.there x.0 h.0 in (t.0, h.1 ∙ ap (λ (y : List ℕ). y ++ x.1) (sym t.1))
  made_answers octets (Err faults.Short) h =
      let t = same.there h.value h.good in
      record { value = f h.value; more = h.more; good = t.0; whole = h.whole ∙ sym t.1; some = h.some }
  made_answers octets (Err (faults.Malformed left)) h = record {
    front = h.front;
    octet = h.octet;
    rest = h.rest;
    parts = h.parts;
    at = h.at;
    begins = made_begun h.front h.begins;
    ends = λ b. h.ends (begun_made (h.front ++ h.octet ∷ []) b);
  }
  made_answers octets (Err faults.Memory) h = absurd h

  made_again : (c : C) (rest : List ℕ) → GC c → made f rA (sC c ++ rest) ≡ Ok (c, rest)
  made_again c rest good =
      let t = same.back c good in
      ap (λ (y : List ℕ). made f rA (y ++ rest)) (sym t.3) ∙ rw (reads.again t.0 rest t.1) (ap (λ v. Ok (v, rest)) t.2)

  made_is_reader : IsReader GC sC (made f rA)
  made_is_reader = record {
    one = (f reads.one.0, (same.there reads.one.0 reads.one.1).0);
    again = made_again;
    answers = λ octets fits. made_answers octets (rA octets) (reads.answers octets fits);
  }

-- a value made of what is read, by a function that loses nothing of it
pub made_reads : {A C : Type 0} {GA : A → Type 0} {sA : A → List ℕ} {rA : Reader A} {GC : C → Type 0} {sC : C → List ℕ} (f : A → C)
    → IsReader GA sA rA → Same GA sA GC sC f → IsReader GC sC (made f rA)
made_reads f reads same = made_is_reader _ _ _ _ _ f reads same

-- ---- one octet

module _ (allowed : ℕ → Bool) (P : ℕ → Type 0) (means : (x : ℕ) → x < 256 → allowed x ≡ true → P x) (tests : (x : ℕ) → P x → allowed x ≡ true) (example : (x : ℕ) × P x) where
  octet_answers : (octet : ℕ) (rest : List ℕ) (b : Bool) → octet < 256 → allowed octet ≡ b
      → Answers P (λ x. x ∷ []) (octet ∷ rest) (cond b (Ok (octet, rest)) (Err (faults.Malformed (suc (length rest)))))
  octet_answers octet rest true fits e = (means octet fits e, refl)
  octet_answers octet rest false fits e = record {
    front = [];
    octet = octet;
    rest = rest;
    parts = refl;
    at = refl;
    begins = record { value = example.0; more = example.0 ∷ []; good = example.1; whole = refl };
    ends = λ b.
        let same : octet ≡ b.value = cc (b.whole) in
        let right : allowed octet ≡ true = ap allowed same ∙ tests b.value b.good in
        cc;
  }

  octet_all_answers : (octets : List ℕ) → AreOctets octets → Answers P (λ x. x ∷ []) octets (octet_at allowed octets)
  octet_all_answers [] fits = record { value = example.0; more = example.0 ∷ []; good = example.1; whole = refl; some = λ none. cc }
  octet_all_answers (octet ∷ rest) fits = octet_answers octet rest (allowed octet) (fits 0) refl

  pub octet_reads : IsReader P (λ x. x ∷ []) (octet_at allowed)
  octet_reads = record { one = example; again = λ x rest good. rw (tests x good) refl; answers = octet_all_answers }

-- ---- so many values

abbrev nothing : List ℕ
nothing = []

module _ {A : Type 0} (GA : A → Type 0) (sA : A → List ℕ) (rA : Reader A) (reads : IsReader GA sA rA) where
  abbrev pub AreGood : ℕ → List A → Type 0
  AreGood n xs = (length xs ≡ n) × AllByRecursion GA xs

  none_back : (xs : List A) → AreGood 0 xs → (ys : List A) × (ys ≡ []) × (ys ≡ xs) × (nothing ≡ flat_map sA xs)
  none_back [] good = ([], refl, refl, refl)
  none_back (x ∷ xs) good = absurd (omega (arith, good.0))

  same_none : Same (λ (xs : List A). xs ≡ []) (λ xs. []) (AreGood 0) (flat_map sA) (λ xs. xs)
  same_none = record {
    there = λ xs e. rw e ((refl, tt), refl);
    back = none_back;
  }

  cons_back : (n : ℕ) (xs : List A) → AreGood (suc n) xs → (p : A × List A) × (GA p.0 × AreGood n p.1) × (p.0 ∷ p.1 ≡ xs) × (sA p.0 ++ flat_map sA p.1 ≡ flat_map sA xs)
  cons_back n [] good = absurd (omega (arith, good.0))
  cons_back n (x ∷ xs) good = ((x, xs), (good.1.0, (omega (arith, good.0), good.1.1)), refl, refl)

  same_cons : (n : ℕ) → Same (λ (p : A × List A). GA p.0 × AreGood n p.1) (λ p. sA p.0 ++ flat_map sA p.1) (AreGood (suc n)) (flat_map sA) (λ p. p.0 ∷ p.1)
  same_cons n = record {
    there = λ p good. ((ap suc good.1.0, (good.0, good.1.1)), refl);
    back = cons_back n;
  }

  repeated_is_reader : (n : ℕ) → IsReader (AreGood n) (flat_map sA) (repeated rA n)
  unfolding repeated
  repeated_is_reader zero = made_reads (λ (xs : List A). xs) (given_reads []) same_none
  repeated_is_reader (suc n) = made_reads (λ (p : A × List A). p.0 ∷ p.1) (reads & repeated_is_reader n) (same_cons n)

-- so many values
pub repeated_reads : {A : Type 0} {GA : A → Type 0} {sA : A → List ℕ} {rA : Reader A} → IsReader GA sA rA
    → (n : ℕ) → IsReader (λ xs. (length xs ≡ n) × AllByRecursion GA xs) (flat_map sA) (repeated rA n)
repeated_reads reads n = repeated_is_reader _ _ _ reads n

-- ---- the same values in other words

made_same : {A : Type 0} (r : Result (A × List ℕ) ReadFault) → (r >>= λ x. Ok (x.0, x.1)) ≡ r
made_same (Ok x) = refl
made_same (Err fault) = refl

-- the same values, seen and spelled in other words
pub renamed_reads : {A : Type 0} {GA : A → Type 0} {sA : A → List ℕ} {rA : Reader A} {GC : A → Type 0} {sC : A → List ℕ}
    → IsReader GA sA rA → ((a : A) → GA a → GC a) → ((a : A) → GC a → GA a) → ((a : A) → GA a → sA a ≡ sC a) → IsReader GC sC rA
renamed_reads {rA = rA} {GC = GC} {sC = sC} reads there back spells =
    let same = made_reads {GC = GC} {sC = sC} (λ a. a) reads (record { there = λ a good. (there a good, sym (spells a good)); back = λ a good. (a, back a good, refl, spells a (back a good)) }) in
    record {
      one = same.one;
      again = λ a rest good. sym (made_same (rA (sC a ++ rest))) ∙ same.again a rest good;
      answers = λ octets fits. subst (Answers GC sC octets) (made_same (rA octets)) (same.answers octets fits);
    }

-- values that are good for the same reason
pub reworded_reads : {A : Type 0} {GA GC : A → Type 0} {sA : A → List ℕ} {rA : Reader A}
    → IsReader GA sA rA → ((a : A) → GA a → GC a) → ((a : A) → GC a → GA a) → IsReader GC sA rA
reworded_reads reads there back = renamed_reads reads there back (λ a good. refl)
