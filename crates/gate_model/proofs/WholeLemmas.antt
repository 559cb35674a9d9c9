-- What keeps a state whole is kept by each thing that a gate does.
use Rattle.std.proofs.Common.{◌≡◌, refl, sym, ap, ◌∙◌, subst, ℕ, ◌+◌, ◌*◌, ◌≤◌, ◌<◌, ◌^◌, zero, suc, Bool, List, [], ◌∷◌, ◌++◌, length, map, Option, Some, None, arith, length-set, add-zero}
use Rattle.std.specs.Prelude.{slice_set, slice_index, IsSome, IsSomeAnd, replicate, false}
use Rattle.std.specs.List.{range_with_len}
use Rattle.std.proofs.lemmas.List.{append-nil, length-replicate}
use Rattle.sms_record.specs.declared.sms.Sms.{Sms}
use Rattle.route_rules.specs.declared.rules.Rules.{Rules}
use Rattle.gate_entries.specs.Limits.{most_messages}
use Rattle.gate_model.specs.declared.gate.Gate.{Gate}
use Rattle.gate_model.specs.declared.waiting.Waiting.{Waiting}
use Rattle.gate_model.specs.Numbers.{Rise, value_under}
use Rattle.gate_model.specs.declared.job.Job.{Job}
use Rattle.gate_model.specs.State.{State, Lists, flight_of, flights, empty}
use Rattle.gate_model.specs.Fold.{accepts, answers, arrives, calls, new_job, if_any, ends, leases, leases_arrival, counts_entry}
use Rattle.gate_model.specs.Gate.{IsGate, IsWhole, IsBounded}
use Rattle.gate_model.specs.Lawful.{most_entries}
use Rattle.gate_model.specs.Links.{raised, lowered}
use Rattle.gate_model.proofs.FlightLemmas.{flights-ends, flights-returned, flights-taken, flights-accepts, flights-none, flight_of-le}
use Rattle.gate_model.proofs.NumberLemmas.{Rise-without, Rise-with_change}
use Rattle.gate_model.proofs.OrderLemmas.{IsInOrder-accepts, IsInOrder-calls, IsInOrder-empty, Rise-one_more, Rise-fold_without}

-- what always holds of a gate, read from its type
pub is_gate : (gate : Gate) → IsGate gate
is_gate gate = gate.whole

-- what is whole stays so under other names
pub whole_as : (rules : Rules) (flight other_flight : List ℕ) (state other : State) → other_flight ≡ flight → other ≡ state → IsWhole rules flight state → IsWhole rules other_flight other
whole_as rules flight other_flight state other flights holds whole =
    subst (λ f. IsWhole rules f other) (sym flights) (subst (λ s. IsWhole rules flight s) (sym holds) whole)

-- where no URL is called nothing changes
pub calls_none : (state : State) → state ≡ calls None state
calls_none state =
    let jobs = sym (append-nil state.jobs) in
    let last = sym (add-zero state.last_job) in
    (λ i. record state { jobs = jobs i; last_job = last i })

pub called_none : (state : State) (url : Option (List ℕ)) → url ≡ None → state ≡ calls url state
called_none state url none = calls_none state ∙ ap (λ u. calls u state) (sym none)

-- where one is, it comes last
pub called_one : (state : State) (url : Option (List ℕ)) (one : List ℕ) (pairs : List (ℕ × Job)) → url ≡ Some one
    → pairs ≡ state.jobs ++ (state.last_job + 1, new_job one) ∷ [] → record state { jobs = pairs; last_job = state.last_job + 1 } ≡ calls url state
called_one state url one pairs is pushed =
    ap (λ ps. record state { jobs = ps; last_job = state.last_job + 1 }) pushed ∙ ap (λ u. calls u state) (sym is)

-- the value under a number, where there is one
pub some_value : {T : Type 0} (o : Option T) → IsSome o → (value : T) × (o ≡ Some value)
some_value None is = absurd cc
some_value (Some value) is = (value, refl)

-- and what is known of it
pub some_value_and : {T : Type 0} (o : Option T) (P : T → Type 0) → IsSomeAnd o P → (value : T) × (o ≡ Some value) × P value
some_value_and None P is = absurd is
some_value_and (Some value) P is = (value, refl, is)

-- numbers that rise are no more than there are places for them
pub length-Rise : {T : Type 0} (from below : ℕ) (pairs : List (ℕ × T)) → from ≤ below → Rise from below pairs → from + length pairs ≤ below
length-Rise from below [] le rise = omega arith
length-Rise from below (pair ∷ pairs) le rise = let rest = length-Rise (pair.0 + 1) below pairs (omega arith) rise.2 in omega (arith, rest)

slice_index-le : (f : ℕ → ℕ) (most a n i : ℕ) → ((j : ℕ) → f j ≤ most) → slice_index (map f (range_with_len a n)) i ≤ most
slice_index-le f most a zero i le = omega arith
slice_index-le f most a (suc n) zero le = le a
slice_index-le f most a (suc n) (suc i) le = slice_index-le f most (a + 1) n i le

module _ (rules : Rules) (flight : List ℕ) (state : State) (whole : IsWhole rules flight state) where
  -- fewer than 2^62 messages wait
  pub few_waiting : length state.waiting ≤ 5000 * 2 ^ 48
  few_waiting =
      let rise = length-Rise 1 (state.last_message + 1) state.waiting (omega arith) whole.order.waiting in
      let last = whole.bounded.last_message in
      let few = whole.bounded.entries in
      omega (arith, rise, last, few)

  -- so no link has more in flight
  pub few_in_flight : (link : ℕ) → slice_index flight link ≤ 5000 * 2 ^ 48
  few_in_flight link =
      let most = few_waiting in
      let waiting = state.waiting in
      subst (λ fs. slice_index fs link ≤ 5000 * 2 ^ 48) (sym whole.flights)
      (slice_index-le (flight_of waiting) (5000 * 2 ^ 48) 0 (length state.up) link (λ j. let le = flight_of-le waiting j in omega (arith, le, most)))

  bounded_like : (s : State) → s.entries ≡ state.entries → s.accepted ≡ state.accepted → s.acked ≡ state.acked → s.rejected ≡ state.rejected → s.unmatched ≡ state.unmatched
      → s.called ≡ state.called → s.dropped ≡ state.dropped → s.arrived ≡ state.arrived → s.last_message ≡ state.last_message → s.last_job ≡ state.last_job
      → s.last_arrival ≡ state.last_arrival → IsBounded s
  bounded_like s entries accepted acked rejected unmatched called dropped arrived last_message last_job last_arrival =
      let b = whole.bounded in record {
        entries = omega (arith, b.entries);
        accepted = omega (arith, b.accepted);
        last_message = omega (arith, b.last_message);
        acked = omega (arith, b.acked);
        rejected = omega (arith, b.rejected);
        unmatched = omega (arith, b.unmatched);
        called = omega (arith, b.called);
        dropped = omega (arith, b.dropped);
        last_job = omega (arith, b.last_job);
        arrived = omega (arith, b.arrived);
        last_arrival = omega (arith, b.last_arrival);
      }

  pub whole-ends : (message : ℕ) (waiting : Waiting) → value_under message state.waiting ≡ Some waiting → IsWhole rules (lowered waiting.lease flight) (ends message state)
  whole-ends message waiting is = record {
    few_links = whole.few_links;
    ups = whole.ups;
    flights = ap (lowered waiting.lease) whole.flights ∙ flights-ends state message waiting whole.order is;
    order = record { waiting = Rise-without _ _ message state.waiting whole.order.waiting; arrivals = whole.order.arrivals; jobs = whole.order.jobs };
    bounded = bounded_like (ends message state) refl refl refl refl refl refl refl refl refl refl refl;
  }

  pub whole-returned : (message : ℕ) (waiting : Waiting) → value_under message state.waiting ≡ Some waiting → IsWhole rules (lowered waiting.lease flight) (leases message None state)
  whole-returned message waiting is = record {
    few_links = whole.few_links;
    ups = whole.ups;
    flights = ap (lowered waiting.lease) whole.flights ∙ flights-returned state message waiting whole.order is;
    order = record { waiting = Rise-with_change _ _ message _ state.waiting whole.order.waiting; arrivals = whole.order.arrivals; jobs = whole.order.jobs };
    bounded = bounded_like (leases message None state) refl refl refl refl refl refl refl refl refl refl refl;
  }

  pub whole-taken : (message link : ℕ) (waiting : Waiting) → value_under message state.waiting ≡ Some waiting → waiting.lease ≡ None → IsWhole rules (raised link flight) (leases message (Some link) state)
  whole-taken message link waiting is free = record {
    few_links = whole.few_links;
    ups = whole.ups;
    flights = ap (raised link) whole.flights ∙ flights-taken state message waiting whole.order is link free;
    order = record { waiting = Rise-with_change _ _ message _ state.waiting whole.order.waiting; arrivals = whole.order.arrivals; jobs = whole.order.jobs };
    bounded = bounded_like (leases message (Some link) state) refl refl refl refl refl refl refl refl refl refl refl;
  }

  pub whole-leases_arrival : (arrival : ℕ) (leased : Bool) → IsWhole rules flight (leases_arrival arrival leased state)
  whole-leases_arrival arrival leased = record {
    few_links = whole.few_links;
    ups = whole.ups;
    flights = whole.flights;
    order = record { waiting = whole.order.waiting; arrivals = Rise-with_change _ _ arrival _ state.arrivals whole.order.arrivals; jobs = whole.order.jobs };
    bounded = bounded_like (leases_arrival arrival leased state) refl refl refl refl refl refl refl refl refl refl refl;
  }

  pub whole-answers : (arrivals : List ℕ) → IsWhole rules flight (answers arrivals state)
  whole-answers arrivals = record {
    few_links = whole.few_links;
    ups = whole.ups;
    flights = whole.flights;
    order = record { waiting = whole.order.waiting; arrivals = Rise-fold_without _ _ state.arrivals arrivals whole.order.arrivals; jobs = whole.order.jobs };
    bounded = bounded_like (answers arrivals state) refl refl refl refl refl refl refl refl refl refl refl;
  }

  pub whole-accepts : (parts : List Sms) → state.entries < most_entries → length parts ≤ most_messages → IsWhole rules flight (counts_entry (accepts parts state))
  whole-accepts parts few short =
      let order = IsInOrder-accepts parts state whole.order in
      let b = whole.bounded in record {
        few_links = whole.few_links;
        ups = whole.ups;
        flights = whole.flights ∙ flights-accepts parts state;
        order = record { waiting = order.waiting; arrivals = order.arrivals; jobs = order.jobs };
        bounded = record {
          entries = omega arith;
          accepted = omega (arith, b.accepted);
          last_message = omega (arith, b.last_message);
          acked = omega (arith, b.acked);
          rejected = omega (arith, b.rejected);
          unmatched = omega (arith, b.unmatched);
          called = omega (arith, b.called);
          dropped = omega (arith, b.dropped);
          last_job = omega (arith, b.last_job);
          arrived = omega (arith, b.arrived);
          last_arrival = omega (arith, b.last_arrival);
        };
      }

  pub whole-arrives : (sms : Sms) → state.entries < most_entries → IsWhole rules flight (counts_entry (arrives sms state))
  whole-arrives sms few =
      let b = whole.bounded in record {
        few_links = whole.few_links;
        ups = whole.ups;
        flights = whole.flights;
        order = record { waiting = whole.order.waiting; arrivals = Rise-one_more state.last_arrival state.arrivals _ whole.order.arrivals; jobs = whole.order.jobs };
        bounded = record {
          entries = omega arith;
          accepted = omega (arith, b.accepted);
          last_message = omega (arith, b.last_message);
          acked = omega (arith, b.acked);
          rejected = omega (arith, b.rejected);
          unmatched = omega (arith, b.unmatched);
          called = omega (arith, b.called);
          dropped = omega (arith, b.dropped);
          last_job = omega (arith, b.last_job);
          arrived = omega (arith, b.arrived);
          last_arrival = omega (arith, b.last_arrival);
        };
      }

  -- one more entry was recorded, by which each count rose by at most one
  pub whole-counted : (s : State) → state.entries < most_entries → s.entries ≡ state.entries + 1 → s.up ≡ state.up → s.waiting ≡ state.waiting → s.arrivals ≡ state.arrivals
      → s.jobs ≡ state.jobs → s.accepted ≡ state.accepted → s.last_message ≡ state.last_message → s.last_arrival ≡ state.last_arrival → s.last_job ≡ state.last_job
      → s.arrived ≡ state.arrived → s.acked ≤ state.acked + 1 → s.rejected ≤ state.rejected + 1 → s.unmatched ≤ state.unmatched + 1 → s.called ≤ state.called + 1
      → s.dropped ≤ state.dropped + 1 → IsWhole rules flight s
  whole-counted s few entries up waiting arrivals jobs accepted last_message last_arrival last_job arrived acked rejected unmatched called dropped =
      let b = whole.bounded in record {
        few_links = whole.few_links;
        ups = ap length up ∙ whole.ups;
        flights = whole.flights ∙ ap (λ ps. map (flight_of ps) (range_with_len 0 (length state.up))) (sym waiting) ∙ ap (λ us. map (flight_of s.waiting) (range_with_len 0 (length us))) (sym up);
        order = record {
          waiting = subst (λ ps. Rise 1 (s.last_message + 1) ps) (sym waiting) (subst (λ n. Rise 1 (n + 1) state.waiting) (sym last_message) whole.order.waiting);
          arrivals = subst (λ ps. Rise 1 (s.last_arrival + 1) ps) (sym arrivals) (subst (λ n. Rise 1 (n + 1) state.arrivals) (sym last_arrival) whole.order.arrivals);
          jobs = subst (λ ps. Rise 1 (s.last_job + 1) ps) (sym jobs) (subst (λ n. Rise 1 (n + 1) state.jobs) (sym last_job) whole.order.jobs);
        };
        bounded = record {
          entries = omega arith;
          accepted = omega (arith, b.accepted);
          last_message = omega (arith, b.last_message);
          acked = omega (arith, b.acked);
          rejected = omega (arith, b.rejected);
          unmatched = omega (arith, b.unmatched);
          called = omega (arith, b.called);
          dropped = omega (arith, b.dropped);
          last_job = omega (arith, b.last_job);
          arrived = omega (arith, b.arrived);
          last_arrival = omega (arith, b.last_arrival);
        };
      }

  -- which reports are awaited is no part of what keeps a state whole
  pub whole-awaited : (lists : Lists) (count : ℕ) → IsWhole rules flight (record state { awaited = lists; awaited_count = count })
  whole-awaited lists count = record {
    few_links = whole.few_links;
    ups = whole.ups;
    flights = whole.flights;
    order = record { waiting = whole.order.waiting; arrivals = whole.order.arrivals; jobs = whole.order.jobs };
    bounded = bounded_like (record state { awaited = lists; awaited_count = count }) refl refl refl refl refl refl refl refl refl refl refl;
  }

  -- a job ends, is taken or given back
  pub whole-jobs : (jobs : List (ℕ × Job)) → Rise 1 (state.last_job + 1) jobs → IsWhole rules flight (record state { jobs = jobs })
  whole-jobs jobs rise = record {
    few_links = whole.few_links;
    ups = whole.ups;
    flights = whole.flights;
    order = record { waiting = whole.order.waiting; arrivals = whole.order.arrivals; jobs = rise };
    bounded = bounded_like (record state { jobs = jobs }) refl refl refl refl refl refl refl refl refl refl refl;
  }

  -- a URL is to be called, where fewer were than entries were recorded
  pub whole-calls : (url : Option (List ℕ)) → state.last_job < state.entries → IsWhole rules flight (calls url state)
  whole-calls url fewer =
      let order = IsInOrder-calls url state whole.order in
      let b = whole.bounded in
      let one = at_most_one url in record {
        few_links = whole.few_links;
        ups = whole.ups;
        flights = whole.flights;
        order = record { waiting = order.waiting; arrivals = order.arrivals; jobs = order.jobs };
        bounded = record {
          entries = b.entries;
          accepted = b.accepted;
          last_message = b.last_message;
          acked = b.acked;
          rejected = b.rejected;
          unmatched = b.unmatched;
          called = b.called;
          dropped = b.dropped;
          last_job = omega (arith, one);
          arrived = b.arrived;
          last_arrival = b.last_arrival;
        };
      }
    where
      at_most_one : (url : Option (List ℕ)) → length (if_any url) ≤ 1
      at_most_one None = omega arith
      at_most_one (Some url) = omega arith

  -- a link is up or down
  pub whole-up : (link : ℕ) (is_up : Bool) → IsWhole rules flight (record state { up = slice_set state.up link is_up })
  whole-up link is_up =
      let same = length-set state.up link is_up in record {
        few_links = whole.few_links;
        ups = same ∙ whole.ups;
        flights = whole.flights ∙ ap (λ n. map (flight_of state.waiting) (range_with_len 0 n)) (sym same);
        order = record { waiting = whole.order.waiting; arrivals = whole.order.arrivals; jobs = whole.order.jobs };
        bounded = bounded_like (record state { up = slice_set state.up link is_up }) refl refl refl refl refl refl refl refl refl refl refl;
      }

-- a gate in which nothing has happened
pub whole-empty : (rules : Rules) (links : ℕ) → length rules.links ≡ links → links < 2 ^ 32 → IsWhole rules (replicate links 0) (empty links)
whole-empty rules links are few = record {
  few_links = omega arith;
  ups = length-replicate links false ∙ sym are;
  flights = sym (ap (λ n. map (flight_of []) (range_with_len 0 n)) (length-replicate links false) ∙ flights-none links);
  order = IsInOrder-empty links;
  bounded = record { entries = omega arith; accepted = omega arith; last_message = omega arith; acked = omega arith; rejected = omega arith; unmatched = omega arith; called = omega arith; dropped = omega arith; last_job = omega arith; arrived = omega arith; last_arrival = omega arith };
}

-- a list of flights has as many as there are links
pub length-flights : (rules : Rules) (flight : List ℕ) (state : State) → IsWhole rules flight state → length flight ≡ length rules.links
length-flights rules flight state whole = ap length whole.flights ∙ length-map-range (flight_of state.waiting) 0 (length state.up) ∙ whole.ups
  where
    length-map-range : (f : ℕ → ℕ) (a n : ℕ) → length (map f (range_with_len a n)) ≡ n
    length-map-range f a zero = refl
    length-map-range f a (suc n) = ap suc (length-map-range f (a + 1) n)

-- whatever is that state is whole
pub whole-new : (rules : Rules) (flight : List ℕ) (state : State) (links : ℕ) → flight ≡ replicate links 0 → state ≡ empty links → length rules.links ≡ links → links < 2 ^ 32 → IsWhole rules flight state
whole-new rules flight state links none holds are few =
    subst (λ f. IsWhole rules f state) (sym none) (subst (IsWhole rules (replicate links 0)) (sym holds) (whole-empty rules links are few))
