-- What comes next, by the places of a table.
use Rattle.std.proofs.Common.{◌≡◌, refl, sym, ap, ◌∙◌, ℕ, ◌≤◌, Bool, true, false, cond, not, List, [], ◌∷◌, filter, subst, Option, Some, None, arith, inl, inr}
use Rattle.std.specs.Prelude.{All, find, fold, nat_le, option_map}
use Rattle.std.specs.List.{list_all}
use Rattle.std.proofs.lemmas.Bool.{cases_Bool, leb-true, leb-false, le-leb, lt-leb, and_parts}
use Rattle.std.proofs.lemmas.List.Elements.{All-nil, All-cons, All-head, All-tail, All-weaker}
use Rattle.std.specs.Option.{option_map_or}
use Rattle.numbered_table.specs.declared.row.Row.{Row}
use Rattle.numbered_table.specs.Rows.{pairs_of}
use Rattle.gate_model.specs.declared.job.Job.{Job}
use Rattle.gate_model.specs.NextSteps.{fewer, better, better_of}

module _ {T : Type 0} (test : T → Bool) where
  -- the number of the first place whose value passes
  abbrev pub first_place : List (Row T) → Option ℕ
  first_place rows = option_map (λ row. row.number) (find (λ row. option_map_or test row.value false) rows)

  -- the number of the first pair whose value passes
  abbrev pub first_pair : List (ℕ × T) → Option ℕ
  first_pair pairs = option_map (λ pair. pair.0) (find (λ pair. test pair.1) pairs)

  one_more : (number : ℕ) (value : Option T) (rows : List (Row T)) → first_place rows ≡ first_pair (pairs_of rows)
      → first_place (record { number = number; value = value } ∷ rows) ≡ first_pair (pairs_of (record { number = number; value = value } ∷ rows))
  one_more number None rows same = same
  one_more number (Some value) rows same =
      elim (test value) as (λ b. option_map (λ row. row.number) (cond b (Some (record { number = number; value = Some value })) (find (λ row. option_map_or test row.value false) rows)) ≡ option_map (λ pair. pair.0) (cond b (Some (number, value)) (find (λ pair. test pair.1) (pairs_of rows)))) [
        | true ↦ refl
        | false ↦ same
      ]

  pub next_found : (rows : List (Row T)) → first_place rows ≡ first_pair (pairs_of rows)
  next_found [] = refl
  next_found (row ∷ rows) = one_more row.number row.value rows (next_found rows)

-- ---- the job that was given back least often

-- a job by its number and how often it was given back
abbrev pub counted : ℕ × Job → ℕ × ℕ
counted pair = (pair.0, pair.1.returns)

abbrev pub is_free_pair : ℕ × Job → Bool
is_free_pair pair = not pair.1.leased

-- of two, the one that was given back less often, and the first where both were as often
abbrev either : ℕ × ℕ → Option (ℕ × ℕ) → ℕ × ℕ
either first None = first
either first (Some later) = fewer later (Some first)

-- the first of those that were given back least often
abbrev least : List (ℕ × Job) → Option (ℕ × ℕ)
least [] = None
least (pair ∷ pairs) = Some (either (counted pair) (least pairs))

-- the better of three is found from either side
either_again : (a b : ℕ × ℕ) (c : Option (ℕ × ℕ)) → either (fewer b (Some a)) c ≡ either a (Some (either b c))
either_again a b None = refl
either_again a b (Some c) =
    elim (cases_Bool (nat_le a.1 b.1)) [
      | inl ab ↦
          elim (cases_Bool (nat_le b.1 c.1)) [
            | inl bc ↦
                let ac : nat_le a.1 c.1 ≡ true = le-leb a.1 c.1 (let x = leb-true a.1 b.1 ab in let y = leb-true b.1 c.1 bc in omega (arith, x, y)) in
                rw (ab, bc, ac, ab) refl
            | inr cb ↦ rw (ab, cb) refl
          ]
      | inr ba ↦
          elim (cases_Bool (nat_le b.1 c.1)) [
            | inl bc ↦ rw (ba, bc, ba) refl
            | inr cb ↦
                let ca : nat_le a.1 c.1 ≡ false = lt-leb a.1 c.1 (let x = leb-false a.1 b.1 ba in let y = leb-false b.1 c.1 cb in omega (arith, x, y)) in
                rw (ba, cb, ca) refl
          ]
    ]

-- what a search from the first place on has found, where one was found before
abbrev found_with : Option (ℕ × ℕ) → List (ℕ × Job) → Option (ℕ × ℕ)
found_with None pairs = least pairs
found_with (Some best) pairs = Some (either best (least pairs))

with_one_more : (best : Option (ℕ × ℕ)) (pair : ℕ × Job) (pairs : List (ℕ × Job)) → found_with (Some (fewer (counted pair) best)) pairs ≡ found_with best (pair ∷ pairs)
with_one_more None pair pairs = refl
with_one_more (Some best) pair pairs = ap Some (either_again best (counted pair) (least pairs))

found_nothing : (best : Option (ℕ × ℕ)) → best ≡ found_with best []
found_nothing None = refl
found_nothing (Some one) = refl

-- one place more
searched_on : (number : ℕ) (value : Option Job) (rows : List (Row Job)) (best : Option (ℕ × ℕ))
    → ((b : Option (ℕ × ℕ)) → fold better b rows ≡ found_with b (filter is_free_pair (pairs_of rows)))
    → fold better (better_of best number value) rows ≡ found_with best (filter is_free_pair (pairs_of (record { number = number; value = value } ∷ rows)))
searched_on number None rows best rest = rest best
searched_on number (Some job) rows best rest =
    let pair : ℕ × Job = (number, job) in
    elim job.leased as (λ b. fold better (cond b best (Some (fewer (number, job.returns) best))) rows
    ≡ found_with best (cond (not b) (pair ∷ filter is_free_pair (pairs_of rows)) (filter is_free_pair (pairs_of rows)))) [
      | true ↦ rest best
      | false ↦ rest (Some (fewer (number, job.returns) best)) ∙ with_one_more best pair (filter is_free_pair (pairs_of rows))
    ]

searched : (rows : List (Row Job)) (best : Option (ℕ × ℕ)) → fold better best rows ≡ found_with best (filter is_free_pair (pairs_of rows))
searched [] best = found_nothing best
searched (row ∷ rows) best = searched_on row.number row.value rows best (searched rows)

-- each job was given back so often at least
abbrev AllReturned : ℕ → List (ℕ × Job) → Type 0
AllReturned n pairs = All (λ pair. n ≤ pair.1.returns) pairs

bound_on : (n : ℕ) (pair : ℕ × Job) (rest : Option (ℕ × ℕ)) (best : ℕ × ℕ) → n ≤ pair.1.returns → ((later : ℕ × ℕ) → rest ≡ Some later → n ≤ later.1)
    → Some (either (counted pair) rest) ≡ Some best → n ≤ best.1
bound_on n pair None best here others is = let same : counted pair ≡ best = cc in subst (λ b. n ≤ b.1) same here
bound_on n pair (Some later) best here others is =
    let there = others later refl in
    let same : cond (nat_le pair.1.returns later.1) (counted pair) later ≡ best = cc in
    subst (λ b. n ≤ b.1) same (elim (nat_le pair.1.returns later.1) as (λ b. n ≤ (cond b (counted pair) later).1) [ true ↦ here | false ↦ there ])

-- the first of those that were given back least often was given back so often at least
least_bound : (n : ℕ) (pairs : List (ℕ × Job)) (best : ℕ × ℕ) → AllReturned n pairs → least pairs ≡ Some best → n ≤ best.1
least_bound n [] best all is = absurd cc
least_bound n (pair ∷ pairs) best all is =
    bound_on n pair (least pairs) best (All-head (λ p. n ≤ p.1.returns) pair pairs all)
    (λ later some. least_bound n pairs later (All-tail (λ p. n ≤ p.1.returns) pair pairs all) some) is

none_left : (n : ℕ) (pairs : List (ℕ × Job)) → least pairs ≡ None → AllReturned n pairs
none_left n [] none = All-nil (λ p. n ≤ p.1.returns)
none_left n (pair ∷ pairs) none = absurd cc

least_on : (pair : ℕ × Job) (pairs : List (ℕ × Job)) (rest : Option (ℕ × ℕ)) (best : ℕ × ℕ) → least pairs ≡ rest
    → ((later : ℕ × ℕ) → rest ≡ Some later → AllReturned later.1 pairs) → Some (either (counted pair) rest) ≡ Some best → AllReturned best.1 (pair ∷ pairs)
least_on pair pairs None best none others is =
    let same : counted pair ≡ best = cc in
    subst (λ b. AllReturned b.1 (pair ∷ pairs)) same (All-cons (λ p. pair.1.returns ≤ p.1.returns) pair pairs (omega arith) (none_left pair.1.returns pairs none))
least_on pair pairs (Some later) best some others is =
    let rest = others later refl in
    let same : cond (nat_le pair.1.returns later.1) (counted pair) later ≡ best = cc in
    elim (cases_Bool (nat_le pair.1.returns later.1)) [
      | inl le ↦
          let first : counted pair ≡ best = sym (ap (λ b. cond b (counted pair) later) le) ∙ same in
          let low = leb-true pair.1.returns later.1 le in
          subst (λ b. AllReturned b.1 (pair ∷ pairs)) first
          (All-cons (λ p. pair.1.returns ≤ p.1.returns) pair pairs (omega arith)
          (All-weaker (λ p. later.1 ≤ p.1.returns) (λ p. pair.1.returns ≤ p.1.returns) (λ p high. omega (arith, low, high)) pairs rest))
      | inr gt ↦
          let second : later ≡ best = sym (ap (λ b. cond b (counted pair) later) gt) ∙ same in
          let low = leb-false pair.1.returns later.1 gt in
          subst (λ b. AllReturned b.1 (pair ∷ pairs)) second (All-cons (λ p. later.1 ≤ p.1.returns) pair pairs (omega (arith, low)) rest)
    ]

-- each was given back as often as that one at least
least_is_least : (pairs : List (ℕ × Job)) (best : ℕ × ℕ) → least pairs ≡ Some best → AllReturned best.1 pairs
least_is_least [] best is = absurd cc
least_is_least (pair ∷ pairs) best is = least_on pair pairs (least pairs) best refl (λ later some. least_is_least pairs later some) is

some_same : (a b : ℕ × ℕ) → Some a ≡ Some b → a ≡ b
some_same a b e = cc

-- a test for how often a job was given back, which passes only what is given back so seldom as all
module _ (passes : ℕ → Bool) where
  -- the number of the first job that passes
  abbrev first_passing : List (ℕ × Job) → Option ℕ
  first_passing pairs = option_map (λ pair. pair.0) (find (λ pair. passes pair.1.returns) pairs)

  found_if : (pair : ℕ × Job) (pairs : List (ℕ × Job)) (b : Bool) → passes pair.1.returns ≡ b
      → first_passing (pair ∷ pairs) ≡ option_map (λ p. p.0) (cond b (Some pair) (find (λ p. passes p.1.returns) pairs))
  found_if pair pairs b is = ap (λ x. option_map (λ p. p.0) (cond x (Some pair) (find (λ p. passes p.1.returns) pairs))) is

  first_on : (pair : ℕ × Job) (pairs : List (ℕ × Job)) (rest : Option (ℕ × ℕ)) → least pairs ≡ rest → ((n : ℕ) → passes n ≡ true → AllReturned n (pair ∷ pairs))
      → ((best : ℕ × ℕ) → least (pair ∷ pairs) ≡ Some best → passes best.1 ≡ true)
      → (((n : ℕ) → passes n ≡ true → AllReturned n pairs) → ((best : ℕ × ℕ) → least pairs ≡ Some best → passes best.1 ≡ true)
      → first_passing pairs ≡ option_map (λ best. best.0) (least pairs))
      → first_passing (pair ∷ pairs) ≡ option_map (λ best. best.0) (least (pair ∷ pairs))
  first_on pair pairs None none low good others =
      let is : least (pair ∷ pairs) ≡ Some (counted pair) = ap (λ rest. Some (either (counted pair) rest)) none in
      found_if pair pairs true (good (counted pair) is) ∙ sym (ap (option_map (λ best. best.0)) is)
  first_on pair pairs (Some later) some low good others =
      elim (cases_Bool (nat_le pair.1.returns later.1)) [
        | inl le ↦
            let is : least (pair ∷ pairs) ≡ Some (counted pair) = ap (λ rest. Some (either (counted pair) rest)) some ∙ ap (λ b. Some (cond b (counted pair) later)) le in
            found_if pair pairs true (good (counted pair) is) ∙ sym (ap (option_map (λ best. best.0)) is)
        | inr gt ↦
            let is : least (pair ∷ pairs) ≡ Some later = ap (λ rest. Some (either (counted pair) rest)) some ∙ ap (λ b. Some (cond b (counted pair) later)) gt in
            let low_later = leb-false pair.1.returns later.1 gt in
            let tails : (n : ℕ) → passes n ≡ true → AllReturned n pairs = λ n pass. All-tail (λ p. n ≤ p.1.returns) pair pairs (low n pass) in
            let fails : passes pair.1.returns ≡ false =
            elim (cases_Bool (passes pair.1.returns)) [
              | inl pass ↦ absurd (let high = least_bound pair.1.returns pairs later (tails pair.1.returns pass) some in omega (arith, high, low_later))
              | inr fails ↦ fails
            ] in
            found_if pair pairs false fails
            ∙ others tails (λ best there. let same : later ≡ best = some_same later best (sym some ∙ there) in subst (λ b. passes b.1 ≡ true) same (good later is))
            ∙ ap (option_map (λ best. best.0)) some ∙ sym (ap (option_map (λ best. best.0)) is)
      ]

  first_least : (pairs : List (ℕ × Job)) → ((n : ℕ) → passes n ≡ true → AllReturned n pairs) → ((best : ℕ × ℕ) → least pairs ≡ Some best → passes best.1 ≡ true)
      → first_passing pairs ≡ option_map (λ best. best.0) (least pairs)
  first_least [] low good = refl
  first_least (pair ∷ pairs) low good = first_on pair pairs (least pairs) refl low good (λ tails best. first_least pairs tails best)

all_listed : (n : ℕ) (pairs : List (ℕ × Job)) → list_all (λ other. nat_le n other.1.returns) pairs ≡ true → AllReturned n pairs
all_listed n [] all = All-nil (λ p. n ≤ p.1.returns)
all_listed n (pair ∷ pairs) all =
    let both = and_parts _ _ all in All-cons (λ p. n ≤ p.1.returns) pair pairs (leb-true n pair.1.returns both.0) (all_listed n pairs both.1)

listed_all : (n : ℕ) (pairs : List (ℕ × Job)) → AllReturned n pairs → list_all (λ other. nat_le n other.1.returns) pairs ≡ true
listed_all n [] all = refl
listed_all n (pair ∷ pairs) all =
    let first = le-leb n pair.1.returns (All-head (λ p. n ≤ p.1.returns) pair pairs all) in
    let rest = listed_all n pairs (All-tail (λ p. n ≤ p.1.returns) pair pairs all) in
    rw (first, rest) refl

-- the job that is called next is the one that the search finds
pub next_job_found : (rows : List (Row Job)) → option_map (λ best. best.0) (fold better None rows)
    ≡ option_map (λ pair. pair.0) (find (λ pair. list_all (λ other. nat_le pair.1.returns other.1.returns) (filter is_free_pair (pairs_of rows))) (filter is_free_pair (pairs_of rows)))
next_job_found rows =
    let free = filter is_free_pair (pairs_of rows) in
    ap (option_map (λ best. best.0)) (searched rows None)
    ∙ sym (first_least (λ n. list_all (λ other. nat_le n other.1.returns) free) free (λ n all. all_listed n free all)
    (λ best is. listed_all best.1 free (least_is_least free best is)))
