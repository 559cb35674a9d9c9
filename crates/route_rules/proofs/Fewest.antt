-- The first of links with the fewest in flight, found one link at a time.
use Rattle.std.proofs.Common.{◌≡◌, refl, sym, ap, subst, ◌∙◌, ℕ, ◌==◌, length, IsNone, Contains, IfSome, ◌≤◌, Bool, true, false, ◌&&◌, nat_le, List, [], ◌∷◌, Option, Some, None, slice_index, inl, inr, arith}
use Rattle.std.specs.List.{list_all, find}
use Rattle.std.proofs.lemmas.Bool.{cases_Bool, and_parts, le-leb, lt-leb, ne_eqb, cases_lt, false≢true}
use Rattle.std.proofs.lemmas.List.Elements.{Contains-append_left, Contains-append_right, Contains-push}
use Rattle.route_rules.specs.Routes.{has_fewest, first_of_fewest}
use Rattle.route_rules.specs.Steps.{fewer}

-- which of three links it is doesn't depend on which two are compared first
pub fewer-assoc : (flight : List ℕ) (a : Option ℕ) (k : ℕ) (o : Option ℕ) → fewer flight (fewer flight a (Some k)) o ≡ fewer flight a (fewer flight (Some k) o)
fewer-assoc flight None k o = refl
fewer-assoc flight (Some a) k None =
    let fa = slice_index flight a in
    let fk = slice_index flight k in
    elim (cases_lt fk fa) [
      | inl less ↦ rw (lt-leb fa fk less) refl
      | inr most ↦ rw (le-leb fa fk most) refl
    ]
fewer-assoc flight (Some a) k (Some b) =
    let fa = slice_index flight a in
    let fk = slice_index flight k in
    let fb = slice_index flight b in
    elim (cases_lt fk fa) [
      | inl less ↦ elim (cases_lt fb fk) [
        | inl least ↦ rw (lt-leb fa fk less, lt-leb fk fb least, lt-leb fa fb (omega arith)) refl
        | inr other ↦ rw (lt-leb fa fk less, le-leb fk fb other, lt-leb fa fk less) refl
      ]
      | inr most ↦ elim (cases_lt fb fk) [
        | inl least ↦ rw (le-leb fa fk most, lt-leb fk fb least) refl
        | inr other ↦ rw (le-leb fa fk most, le-leb fk fb other, le-leb fa fb (omega arith), le-leb fa fk most) refl
      ]
    ]

-- what is found by a test is found by that test and another, where it passes the other
find-and : (q r : ℕ → Bool) (ks : List ℕ) (b : ℕ) → find r ks ≡ Some b → q b ≡ true → find (λ x. q x && r x) ks ≡ Some b
find-and q r [] b found passes = cc
find-and q r (x ∷ xs) b found passes =
    elim (cases_Bool (r x)) [
      | inl is_so ↦
          let at_head : Some x ≡ Some b = rw is_so at found in
          let here : x ≡ b = cc in
          let too : q x ≡ true = ap q here ∙ passes in
          rw (is_so, too) (ap Some here)
      | inr is_not ↦ let rest : find r xs ≡ Some b = rw is_not at found in elim (cases_Bool (q x)) [
        | inl too ↦ rw (is_not, too) (find-and q r xs b rest passes)
        | inr other ↦ rw (is_not, other) (find-and q r xs b rest passes)
      ]
    ]

-- a link with at most as many as another has at most as many as all that the other has
has_fewest-less : (flight links : List ℕ) (x b : ℕ) → slice_index flight x ≤ slice_index flight b → has_fewest flight links b ≡ true → has_fewest flight links x ≡ true
has_fewest-less flight [] x b less fewest = refl
has_fewest-less flight (k ∷ ks) x b less fewest =
    let parts = and_parts (nat_le (slice_index flight b) (slice_index flight k)) (has_fewest flight ks b) fewest in
    let most : slice_index flight b ≤ slice_index flight k = grind (arith, parts.0) in
    rw (le-leb (slice_index flight x) (slice_index flight k) (omega arith)) (has_fewest-less flight ks x b less parts.1)

at_front : (k : ℕ) (ks : List ℕ) → Contains (k ∷ ks) k
at_front k ks = Contains-append_left (k ∷ []) ks k (Contains-push [] k)

-- a link is the first with the fewest in flight
record IsFirst (flight links : List ℕ) (b : ℕ) : Type 0 where
  found : first_of_fewest flight links ≡ Some b
  fewest : has_fewest flight links b ≡ true
  among : (p : ℕ → Bool) → list_all p links ≡ true → p b ≡ true
  within : Contains links b

-- it is so behind one more link too
record IsNext (flight : List ℕ) (k : ℕ) (ks : List ℕ) : Type 0 where
  link : ℕ
  first : IsFirst flight (k ∷ ks) link
  is : fewer flight (Some k) (first_of_fewest flight ks) ≡ Some link

alone : (flight : List ℕ) (k : ℕ) → IsNext flight k []
alone flight k =
    let same = le-leb (slice_index flight k) (slice_index flight k) (omega arith) in
    record {
      link = k;
      first = record { found = rw same refl; fewest = rw same refl; among = λ p all. (and_parts (p k) true all).0; within = at_front k [] };
      is = refl;
    }

more : (flight : List ℕ) (k : ℕ) (ks : List ℕ) (b : ℕ) → IsFirst flight ks b → IsNext flight k ks
more flight k ks b is_first =
    let fk = slice_index flight k in
    let fb = slice_index flight b in
    elim (cases_lt fb fk) [
      | inl less ↦
          let worse : has_fewest flight ks k ≡ false = elim (cases_Bool (has_fewest flight ks k)) [
            | inl is_so ↦ absurd (false≢true (sym (lt-leb fk fb less) ∙ is_first.among (λ other. nat_le fk (slice_index flight other)) is_so))
            | inr is_not ↦ is_not
          ] in
          let same = le-leb fk fk (omega arith) in
          let better = le-leb fb fk (omega arith) in
          record {
            link = b;
            first = record {
              found = rw (same, worse) (find-and (λ x. nat_le (slice_index flight x) fk) (has_fewest flight ks) ks b is_first.found better);
              fewest = rw better is_first.fewest;
              among = λ p all. is_first.among p (and_parts (p k) (list_all p ks) all).1;
              within = Contains-append_right (k ∷ []) ks b is_first.within;
            };
            is = rw (is_first.found, lt-leb fk fb less) refl;
          }
      | inr most ↦
          let same = le-leb fk fk (omega arith) in
          let best = has_fewest-less flight ks k b most is_first.fewest in
          record {
            link = k;
            first = record { found = rw (same, best) refl; fewest = rw (same, best) refl; among = λ p all. (and_parts (p k) (list_all p ks) all).0; within = at_front k ks };
            is = rw (is_first.found, le-leb fk fb most) refl;
          }
    ]

next : (flight : List ℕ) (k : ℕ) (ks : List ℕ) → IsNext flight k ks
next flight k [] = alone flight k
next flight k (j ∷ ks) = let behind = next flight j ks in more flight k (j ∷ ks) behind.link behind.first

-- the first of links is the first one, or the first of those behind it
pub first_of_fewest-cons : (flight : List ℕ) (k : ℕ) (ks : List ℕ) → first_of_fewest flight (k ∷ ks) ≡ fewer flight (Some k) (first_of_fewest flight ks)
first_of_fewest-cons flight k ks = let here = next flight k ks in here.first.found ∙ sym here.is

-- ---- what the first is of

-- where there is one, there are links
pub some_links : (flight links : List ℕ) (b : ℕ) → first_of_fewest flight links ≡ Some b → (length links == 0) ≡ false
some_links flight [] b found = cc
some_links flight (k ∷ ks) b found = ne_eqb (length (k ∷ ks)) 0 (λ e. omega arith)

-- where there is none, there are no links
pub no_links : (flight links : List ℕ) → first_of_fewest flight links ≡ None → links ≡ []
no_links flight [] found = refl
no_links flight (k ∷ ks) found = let here = next flight k ks in let other : Some here.link ≡ None = sym here.first.found ∙ found in cc

none_here : (flight links : List ℕ) (r : Option ℕ) → r ≡ first_of_fewest flight links → IsNone r → links ≡ []
none_here flight links None is none = no_links flight links (sym is)
none_here flight links (Some b) is none = absurd (false≢true (sym none))

pub none_of_links : (flight links : List ℕ) (r : Option ℕ) → r ≡ first_of_fewest flight links → (IsNone r → links ≡ []) × (links ≡ [] → IsNone r)
none_of_links flight links r is = (none_here flight links r is, λ empty. subst IsNone (sym (is ∙ ap (first_of_fewest flight) empty)) refl)

-- it is one of the links
is_of_links : (flight links : List ℕ) (b : ℕ) → first_of_fewest flight links ≡ Some b → Contains links b
is_of_links flight [] b found = cc
is_of_links flight (k ∷ ks) b found =
    let here = next flight k ks in
    let at_once : Some here.link ≡ Some b = sym here.first.found ∙ found in
    let is : here.link ≡ b = cc in
    subst (λ x. Contains (k ∷ ks) x) is here.first.within

pub one_of_links : (flight links : List ℕ) (r : Option ℕ) → r ≡ first_of_fewest flight links → IfSome r (λ b. Contains links b)
one_of_links flight links None is = tt
one_of_links flight links (Some b) is = is_of_links flight links b (sym is)
