-- What comes next may be taken.
use Rattle.std.proofs.Common.{◌≡◌, ◌≢◌, refl, sym, ap, ◌∙◌, subst, ℕ, ◌+◌, ◌<◌, ◌≤◌, ◌^◌, zero, suc, Bool, true, false, not, cond, List, [], ◌∷◌, All, Option, Some, None, arith, leb-true, ltb-true, eqb-true, eq-eqb, ne_eqb}
use Rattle.std.specs.Prelude.{◌&&◌, nat_le, find, filter, option_map, IsSome, IsSomeAnd, is_none, is_some, slice_get}
use Rattle.std.specs.List.{list_all}
use Rattle.std.specs.Option.{option_and_then, option_map_or}
use Rattle.std.proofs.lemmas.Bool.{and_parts}
use Rattle.std.proofs.lemmas.List.Elements.{All-head, All-tail}
use Rattle.route_rules.specs.declared.link_rule.LinkRule.{LinkRule}
use Rattle.route_rules.specs.declared.rules.Rules.{Rules}
use Rattle.gate_entries.specs.declared.cause.Cause.TheVariants.{Expired}
use Rattle.gate_entries.specs.declared.recorded.Recorded.{Recorded}
use Rattle.gate_entries.specs.declared.recorded.Recorded.TheVariants as entry
use Rattle.gate_entries.specs.Entry.{IsEntry, IsText}
use Rattle.gate_entries.proofs.Sizes.{entry_bound}
use Rattle.gate_entries.specs.declared.passing.Passing.TheVariants.{Took, Returned, TookJob, TookArrival}
use Rattle.gate_model.specs.declared.arrival.Arrival.{Arrival}
use Rattle.gate_model.specs.declared.job.Job.{Job}
use Rattle.gate_model.specs.declared.waiting.Waiting.{Waiting}
use Rattle.gate_model.specs.Fold.{recorded, sms_of}
use Rattle.gate_model.specs.Gate.{IsWhole, HaveIds, id_of, url_of, arrival_of, is_leased}
use Rattle.gate_model.specs.Lawful.{IsLawful, MayPass, MayTake, is_expired, is_time}
use Rattle.gate_model.specs.Numbers.{Rise, is_held, value_under}
use Rattle.gate_model.specs.Routing.{next, next_job, next_arrival, free_jobs, may_take, link_for}
use Rattle.gate_model.specs.State.{State, IsInOrder, is_link}
use Rattle.gate_model.proofs.FatesLaws.{held_below}
use Rattle.gate_model.proofs.NextLemmas.{first_pair}
use Rattle.gate_model.proofs.NumberLemmas.{by_number, value_under-before, Rise-wider}

module _ {T : Type 0} (test : T → Bool) where
  -- The value under this number passes.
  pub record Found (number : ℕ) (pairs : List (ℕ × T)) : Type 0 where
    pub value : T
    pub there : value_under number pairs ≡ Some value
    pub passes : test value ≡ true

  first_step : (number : ℕ) (pair : ℕ × T) (pairs : List (ℕ × T)) (b : Bool) → test pair.1 ≡ b → (Found number pairs → pair.0 ≢ number) → (first_pair test pairs ≡ Some number → Found number pairs)
      → option_map (λ p. p.0) (cond b (Some pair) (find (λ p. test p.1) pairs)) ≡ Some number → Found number (pair ∷ pairs)
  first_step number pair pairs true passes apart rest is =
      let same : pair.0 ≡ number = cc in
      record { value = pair.1; there = ap (λ b. cond b (Some pair.1) (value_under number pairs)) (eq-eqb pair.0 number same); passes = passes }
  first_step number pair pairs false passes apart rest is =
      let found = rest is in
      record { value = found.value; there = ap (λ b. cond b (Some pair.1) (value_under number pairs)) (ne_eqb pair.0 number (apart found)) ∙ found.there; passes = found.passes }

  -- the first pair whose value passes is found under its number
  first_found : (from below number : ℕ) (pairs : List (ℕ × T)) → Rise from below pairs → first_pair test pairs ≡ Some number → Found number pairs
  first_found from below number [] rise is = absurd cc
  first_found from below number (pair ∷ pairs) rise is =
      first_step number pair pairs (test pair.1) refl
      (λ found e. let none = value_under-before (pair.0 + 1) below number pairs (omega arith) rise.2 in let t : Some found.value ≡ None = sym found.there ∙ none in cc)
      (first_found (pair.0 + 1) below number pairs rise.2) is

none_is : {T : Type 0} (o : Option T) → is_none o ≡ true → o ≡ None
none_is None is = refl
none_is (Some x) is = absurd cc

link_is : (link : ℕ) (o : Option ℕ) → is_link link o ≡ true → o ≡ Some link
link_is link None is = absurd cc
link_is link (Some other) is = ap Some (eqb-true other link is)

some_and : {T : Type 0} (o : Option T) (value : T) (P : T → Type 0) → o ≡ Some value → P value → IsSomeAnd o P
some_and o value P is p = subst (λ x. IsSomeAnd x P) (sym is) p

-- the message that a link takes next may be taken by it
pub next_may_be_taken : (rules : Rules) (state : State) (link now message : ℕ) → IsInOrder state → is_time now ≡ true → next rules state link now ≡ Some message → MayPass rules state (Took link message now)
next_may_be_taken rules state link now message order time is =
    let found = first_found (may_take rules state link now) 1 (state.last_message + 1) message state.waiting order.waiting is in
    let parts = and_parts _ _ found.passes in
    let more = and_parts _ _ parts.1 in (
      some_and (value_under message state.waiting) found.value (MayTake rules state link now) found.there
          (none_is found.value.lease parts.0, leb-true _ now more.0, link_is link (link_for rules state found.value.sms) more.1),
      time,
    )

-- it is stored
pub next_is_stored : (rules : Rules) (state : State) (link now message : ℕ) → IsInOrder state → next rules state link now ≡ Some message → IsSome (sms_of message state)
next_is_stored rules state link now message order is =
    let found = first_found (may_take rules state link now) 1 (state.last_message + 1) message state.waiting order.waiting is in
    subst (λ w. IsSome (option_map (λ waiting. waiting.sms) w)) (sym found.there) refl

-- the SMSC id of a link is a text, also where there is no link
id_is_text : (link : ℕ) (rules : List LinkRule) → All (λ rule. IsText rule.id) rules → IsText (option_map_or (λ rule. rule.id) (slice_get rules link) [])
id_is_text link [] ids = omega arith
id_is_text zero (rule ∷ rules) ids = All-head (λ rule. IsText rule.id) rule rules ids
id_is_text (suc link) (rule ∷ rules) ids = id_is_text link rules (All-tail (λ rule. IsText rule.id) rule rules ids)

-- the entry by which a message is given up that a link would take next, and that is no longer worth sending
abbrev pub expiry : Rules → (link now message : ℕ) → Recorded
expiry rules link now message = entry.Rejected (record { message = message; smsc = id_of link rules; cause = Expired; time = now })

-- such a message may be given up
pub expired_may_end : (rules : Rules) (flight : List ℕ) (state : State) (link now message : ℕ) → IsWhole rules flight state → HaveIds rules → is_time now ≡ true
    → next rules state link now ≡ Some message → is_expired message now state ≡ true → IsLawful rules state (recorded (expiry rules link now message))
expired_may_end rules flight state link now message whole ids time is expired =
    let found = first_found (may_take rules state link now) 1 (state.last_message + 1) message state.waiting whole.order.waiting is in
    let held : is_held message state.waiting ≡ true = ap is_some found.there in
    let below = held_below 1 (state.last_message + 1) message state.waiting whole.order.waiting held in
    let last = whole.bounded.last_message in
    let few = whole.bounded.entries in
    let soon : now < 2 ^ 37 = ltb-true now (2 ^ 37) time in
    let is_entry : IsEntry (expiry rules link now message) = record {
      message = omega (arith, below, last, few);
      smsc = id_is_text link rules.links ids;
      cause = tt;
      time = omega (arith, soon);
    } in
    let size = entry_bound (expiry rules link now message) is_entry in (
      (is_entry, ap (λ b. b && is_time now) expired ∙ time),
      some_and (value_under message state.waiting) found.value (λ w. w.lease ≡ None) found.there (none_is found.value.lease (and_parts _ _ found.passes).0),
      omega (arith, size),
    )

-- a message that a link has taken may be given back
pub leased_may_return : (rules : Rules) (state : State) (message : ℕ) → is_leased message state ≡ true → MayPass rules state (Returned message)
leased_may_return rules state message is = by_value (value_under message state.waiting) is
  where
    by_value : (o : Option Waiting) → is_some (option_and_then (λ w. w.lease) o) ≡ true → IsSomeAnd o (λ w. w.lease ≢ None)
    by_value None is = absurd cc
    by_value (Some w) is = λ none. let t : false ≡ true = sym (ap is_some none) ∙ is in cc

-- ---- jobs

module _ {T : Type 0} (test : ℕ × T → Bool) where
  -- numbers that rise still rise where some are left out
  Rise-filter : (from below : ℕ) (pairs : List (ℕ × T)) → Rise from below pairs → Rise from below (filter test pairs)
  Rise-filter from below [] rise = tt
  Rise-filter from below (pair ∷ pairs) rise =
      let rest = Rise-filter (pair.0 + 1) below pairs rise.2 in
      elim (test pair) as (λ b. Rise from below (cond b (pair ∷ filter test pairs) (filter test pairs))) [
        | true ↦ (rise.0, rise.1, rest)
        | false ↦ Rise-wider (pair.0 + 1) below from below (filter test pairs) (omega arith) (omega arith) rest
      ]

  under_on : (from below number : ℕ) (value : T) (pair : ℕ × T) (pairs : List (ℕ × T)) (b : Bool) → test pair ≡ b → from ≤ pair.0 → Rise (pair.0 + 1) below pairs
      → (value_under number (filter test pairs) ≡ Some value → (value_under number pairs ≡ Some value) × (test (number, value) ≡ true))
      → value_under number (cond b (pair ∷ filter test pairs) (filter test pairs)) ≡ Some value
      → (value_under number (pair ∷ pairs) ≡ Some value) × (test (number, value) ≡ true)
  under_on from below number value pair pairs true passes low rise rest there =
      by_number
      (λ b. cond b (Some pair.1) (value_under number (filter test pairs)) ≡ Some value → (cond b (Some pair.1) (value_under number pairs) ≡ Some value) × (test (number, value) ≡ true)) pair.0 number
      (λ e found.
      let same : pair.1 ≡ value = cc in
      let whole : ◌≡◌ {A = ℕ × T} pair (number, value) = ap (λ n. (n, pair.1)) e ∙ ap (λ v. (number, v)) same in
      (found, ap test (sym whole) ∙ passes))
      (λ ne found. rest found)
      there
  under_on from below number value pair pairs false fails low rise rest there =
      let found = rest there in
      by_number
      (λ b. (cond b (Some pair.1) (value_under number pairs) ≡ Some value) × (test (number, value) ≡ true)) pair.0 number
      (λ e. absurd (let none = value_under-before (pair.0 + 1) below number pairs (omega arith) rise in let t : Some value ≡ None = sym found.0 ∙ none in cc))
      (λ ne. found)

  -- what is under a number then is under it, and passes
  under-filter : (from below number : ℕ) (value : T) (pairs : List (ℕ × T)) → Rise from below pairs → value_under number (filter test pairs) ≡ Some value
      → (value_under number pairs ≡ Some value) × (test (number, value) ≡ true)
  under-filter from below number value [] rise is = absurd cc
  under-filter from below number value (pair ∷ pairs) rise is =
      under_on from below number value pair pairs (test pair) refl rise.0 rise.2 (λ there. under-filter (pair.0 + 1) below number value pairs rise.2 there) is

-- a job that comes next, and that nobody has taken
record IsFreeJob (state : State) (job : ℕ) : Type 0 where
  value : Job
  there : value_under job state.jobs ≡ Some value
  free : not value.leased ≡ true

free_job_found : (state : State) (job : ℕ) → IsInOrder state → next_job state ≡ Some job → IsFreeJob state job
free_job_found state job order is =
    let end = state.last_job + 1 in
    let found = first_found (λ (j : Job). list_all (λ other. nat_le j.returns other.1.returns) (free_jobs state)) 1 end job (free_jobs state)
    (Rise-filter (λ (pair : ℕ × Job). not pair.1.leased) 1 end state.jobs order.jobs) is in
    let under = under-filter (λ (pair : ℕ × Job). not pair.1.leased) 1 end job found.value state.jobs order.jobs found.there in
    record { value = found.value; there = under.0; free = under.1 }

not_false : (b : Bool) → not b ≡ true → b ≡ false
not_false true is = absurd cc
not_false false is = refl

-- the job that is called next may be taken
pub next_job_may_be_taken : (rules : Rules) (state : State) (job : ℕ) → IsInOrder state → next_job state ≡ Some job → MayPass rules state (TookJob job)
next_job_may_be_taken rules state job order is =
    let free = free_job_found state job order is in
    some_and (value_under job state.jobs) free.value (λ j. j.leased ≡ false) free.there (not_false free.value.leased free.free)

-- it is held
pub next_job_is_held : (state : State) (job : ℕ) → IsInOrder state → next_job state ≡ Some job → IsSome (url_of job state)
next_job_is_held state job order is =
    let free = free_job_found state job order is in
    subst (λ j. IsSome (option_map (λ job. job.url) j)) (sym free.there) refl

-- ---- arrivals

free_arrival_found : (state : State) (arrival : ℕ) → IsInOrder state → next_arrival state ≡ Some arrival → Found (λ (a : Arrival). not a.leased) arrival state.arrivals
free_arrival_found state arrival order is = first_found (λ (a : Arrival). not a.leased) 1 (state.last_arrival + 1) arrival state.arrivals order.arrivals is

-- the arrival that is dealt with next may be taken
pub next_arrival_may_be_taken : (rules : Rules) (state : State) (arrival : ℕ) → IsInOrder state → next_arrival state ≡ Some arrival → MayPass rules state (TookArrival arrival)
next_arrival_may_be_taken rules state arrival order is =
    let free = free_arrival_found state arrival order is in
    some_and (value_under arrival state.arrivals) free.value (λ a. a.leased ≡ false) free.there (not_false free.value.leased free.passes)

-- it is held
pub next_arrival_is_held : (state : State) (arrival : ℕ) → IsInOrder state → next_arrival state ≡ Some arrival → IsSome (arrival_of arrival state)
next_arrival_is_held state arrival order is =
    let free = free_arrival_found state arrival order is in
    subst (λ a. IsSome (option_map (λ arrival. arrival.sms) a)) (sym free.there) refl
