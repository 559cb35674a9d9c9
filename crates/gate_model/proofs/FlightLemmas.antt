-- How many messages each link has in flight, as messages come, are taken and given back, and end.
use Rattle.std.proofs.Common.{◌≡◌, ◌≢◌, refl, sym, ap, ◌∙◌, subst, ℕ, ◌+◌, ◌-◌, ◌≤◌, zero, suc, cond, List, [], ◌∷◌, ◌++◌, length, map, Option, Some, None, arith, ne_eqb, eq-eqb, add-zero, zero-add}
use Rattle.std.specs.Prelude.{slice_set, slice_index, replicate}
use Rattle.std.specs.List.{range_with_len}
use Rattle.std.proofs.lemmas.List.Sums.{sum_by-cons, sum_by-append, count_by-le-length}
use Rattle.sms_record.specs.declared.sms.Sms.{Sms}
use Rattle.gate_model.specs.declared.waiting.Waiting.{Waiting}
use Rattle.gate_model.specs.Numbers.{value_under, without, with_change, numbered_from}
use Rattle.gate_model.specs.State.{State, IsInOrder, flight_of, flights, is_link}
use Rattle.gate_model.specs.Fold.{accepts, ends, leases, unleased}
use Rattle.gate_model.specs.Links.{raised, lowered}
use Rattle.gate_model.proofs.NumberLemmas.{sum_by-without, sum_by-with_change}

module _ (f g : ℕ → ℕ) where
  -- two functions that agree from a number on make the same list
  same_from : (a n : ℕ) → ((j : ℕ) → a ≤ j → f j ≡ g j) → map f (range_with_len a n) ≡ map g (range_with_len a n)
  same_from a zero same = refl
  same_from a (suc n) same =
      let rest = same_from (a + 1) n (λ j le. same j (omega arith)) in
      ap (λ x. x ∷ map f (range_with_len (a + 1) n)) (same a (omega arith)) ∙ ap (λ xs. g a ∷ xs) rest

  -- two that agree but at one number make lists that agree but at its place
  changed_at : (h : ℕ → ℕ) (a n i k : ℕ) → a + i ≡ k → h (f k) ≡ g k → ((j : ℕ) → j ≢ k → f j ≡ g j)
      → slice_set (map f (range_with_len a n)) i (h (slice_index (map f (range_with_len a n)) i)) ≡ map g (range_with_len a n)
  changed_at h a zero i k at is same = refl
  changed_at h a (suc n) zero k at is same =
      let here : k ≡ a = omega arith in
      let head : h (f a) ≡ g a = subst (λ x. h (f x) ≡ g x) here is in
      let rest = same_from (a + 1) n (λ j le. same j (λ e. omega arith)) in
      ap (λ x. x ∷ map f (range_with_len (a + 1) n)) head ∙ ap (λ xs. g a ∷ xs) rest
  changed_at h a (suc n) (suc i) k at is same =
      let rest = changed_at h (a + 1) n i k (omega arith) is same in
      let head : f a ≡ g a = same a (λ e. omega arith) in
      ap (λ x. x ∷ slice_set (map f (range_with_len (a + 1) n)) i (h (slice_index (map f (range_with_len (a + 1) n)) i))) head ∙ ap (λ xs. g a ∷ xs) rest

-- what a lease adds to the flight of a link
abbrev pub of_lease : (link : ℕ) → Option ℕ → ℕ
of_lease link lease = cond (is_link link lease) 1 0

-- without a message that has this lease
flights_less : (before after : List (ℕ × Waiting)) (lease : Option ℕ) (links : ℕ) → ((link : ℕ) → flight_of after link + of_lease link lease ≡ flight_of before link)
    → lowered lease (map (flight_of before) (range_with_len 0 links)) ≡ map (flight_of after) (range_with_len 0 links)
flights_less before after None links sums = same_from (flight_of before) (flight_of after) 0 links (λ j le. let s = sums j in omega (arith, s))
flights_less before after (Some link) links sums =
    let here : flight_of after link + 1 ≡ flight_of before link = rw (eq-eqb link link refl) at (sums link) in
    changed_at (flight_of before) (flight_of after) (λ n. n - 1) 0 links link link (omega arith) (omega (arith, here))
    (λ j ne. let there : flight_of after j + 0 ≡ flight_of before j = rw (ne_eqb link j (λ e. ne (sym e))) at (sums j) in omega (arith, there))

-- with one that has
flights_more : (before after : List (ℕ × Waiting)) (link links : ℕ) → ((other : ℕ) → flight_of after other ≡ flight_of before other + of_lease other (Some link))
    → raised link (map (flight_of before) (range_with_len 0 links)) ≡ map (flight_of after) (range_with_len 0 links)
flights_more before after link links sums =
    let here : flight_of after link ≡ flight_of before link + 1 = rw (eq-eqb link link refl) at (sums link) in
    changed_at (flight_of before) (flight_of after) (λ n. n + 1) 0 links link link (omega arith) (sym here)
    (λ j ne. let there : flight_of after j ≡ flight_of before j + 0 = rw (ne_eqb link j (λ e. ne (sym e))) at (sums j) in omega (arith, there))

module _ (state : State) (message : ℕ) (waiting : Waiting) (order : IsInOrder state) (is : value_under message state.waiting ≡ Some waiting) where
  -- a message ends
  pub flights-ends : lowered waiting.lease (flights state) ≡ flights (ends message state)
  flights-ends =
      flights_less state.waiting (without message state.waiting) waiting.lease (length state.up)
      (λ link. sum_by-without (λ pair. of_lease link pair.1.lease) 1 (state.last_message + 1) message waiting state.waiting order.waiting is)

  changed : (lease : Option ℕ) (link : ℕ) → flight_of (with_change message (λ w. record w { lease = lease }) state.waiting) link + of_lease link waiting.lease ≡ flight_of state.waiting link + of_lease link lease
  changed lease link = sum_by-with_change (λ pair. of_lease link pair.1.lease) 1 (state.last_message + 1) message (λ w. record w { lease = lease }) waiting state.waiting order.waiting is

  -- it is given back
  pub flights-returned : lowered waiting.lease (flights state) ≡ flights (leases message None state)
  flights-returned =
      flights_less state.waiting (with_change message (λ w. record w { lease = None }) state.waiting) waiting.lease (length state.up)
      (λ link. changed None link ∙ add-zero (flight_of state.waiting link))

  -- a link takes it, where none had
  pub flights-taken : (link : ℕ) → waiting.lease ≡ None → raised link (flights state) ≡ flights (leases message (Some link) state)
  flights-taken link free =
      flights_more state.waiting (with_change message (λ w. record w { lease = Some link }) state.waiting) link (length state.up)
      (λ other. sym (add-zero (flight_of (with_change message (λ w. record w { lease = Some link }) state.waiting) other))
      ∙ subst (λ lease. flight_of (with_change message (λ w. record w { lease = Some link }) state.waiting) other + of_lease other lease ≡ flight_of state.waiting other + of_lease other (Some link)) free (changed (Some link) other))

-- no link has taken messages that were just accepted
unleased_free : (link first : ℕ) (parts : List Sms) → flight_of (numbered_from first (map unleased parts)) link ≡ 0
unleased_free link first [] = refl
unleased_free link first (part ∷ parts) =
    sum_by-cons (λ pair. of_lease link pair.1.lease) (first, unleased part) (numbered_from (first + 1) (map unleased parts)) ∙ zero-add _ ∙ unleased_free link (first + 1) parts

-- messages come
pub flights-accepts : (parts : List Sms) (state : State) → flights state ≡ flights (accepts parts state)
flights-accepts parts state =
    let first = state.last_message + 1 in
    same_from (flight_of state.waiting) (flight_of (state.waiting ++ numbered_from first (map unleased parts))) 0 (length state.up)
    (λ link le. omega (arith, sum_by-append (λ (pair : ℕ × Waiting). of_lease link pair.1.lease) state.waiting (numbered_from first (map unleased parts)), unleased_free link first parts))

-- no message is in flight
pub flights-none : (links : ℕ) → map (flight_of []) (range_with_len 0 links) ≡ replicate links 0
flights-none links = none 0 links
  where
    none : (a n : ℕ) → map (flight_of []) (range_with_len a n) ≡ replicate n 0
    none a zero = refl
    none a (suc n) = ap (λ xs. 0 ∷ xs) (none (a + 1) n)

-- no more are in flight than wait
pub flight_of-le : (waiting : List (ℕ × Waiting)) (link : ℕ) → flight_of waiting link ≤ length waiting
flight_of-le waiting link = count_by-le-length (λ (pair : ℕ × Waiting). is_link link pair.1.lease) waiting
