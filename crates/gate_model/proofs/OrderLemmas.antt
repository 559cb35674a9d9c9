-- Numbers stay in order, whatever entries do.
use Rattle.std.proofs.Common.{subst, ℕ, ◌+◌, true, false, cond, List, [], ◌∷◌, ◌++◌, length, map, Option, Some, None, arith}
use Rattle.std.proofs.lemmas.List.{length-map}
use Rattle.std.specs.Prelude.{fold}
use Rattle.sms_record.specs.declared.sms.Sms.{Sms}
use Rattle.gate_entries.specs.declared.recorded.Recorded.{Recorded}
use Rattle.gate_entries.specs.declared.recorded.Recorded.TheVariants as entry
use Rattle.gate_entries.specs.declared.passing.Passing.{Passing}
use Rattle.gate_entries.specs.declared.passing.Passing.TheVariants.{Up, Down, Took, Returned, TookJob, ReturnedJob, TookArrival, ReturnedArrival}
use Rattle.gate_model.specs.Numbers.{without, numbered_from, Rise}
use Rattle.dlr_table.specs.declared.awaited.Awaited.{Awaited}
use Rattle.gate_entries.specs.declared.reported.Reported.{Reported}
use Rattle.gate_model.specs.State.{State, IsInOrder, empty}
use Rattle.gate_model.specs.Fold.{Entry, recorded, passing, keeps, moves, calls, new_job, if_any, url_in, passes, does, after, accepts, hears, closes, unleased, is_last}
use Rattle.gate_model.proofs.NumberLemmas.{Rise-without, Rise-with_change, Rise-numbered_from, Rise-append}

module _ {T : Type 0} where
  -- more values behind the last number
  pub Rise-more : (last : ℕ) (pairs : List (ℕ × T)) (values : List T) → Rise 1 (last + 1) pairs → Rise 1 (last + length values + 1) (pairs ++ numbered_from (last + 1) values)
  Rise-more last pairs values rise =
      Rise-append 1 (last + 1) (last + length values + 1) pairs (numbered_from (last + 1) values) rise
      (Rise-numbered_from (last + 1) (last + length values + 1) values (omega arith)) (omega arith) (omega arith)

  pub Rise-one_more : (last : ℕ) (pairs : List (ℕ × T)) (value : T) → Rise 1 (last + 1) pairs → Rise 1 (last + 1 + 1) (pairs ++ (last + 1, value) ∷ [])
  Rise-one_more last pairs value rise = Rise-more last pairs (value ∷ []) rise

  -- values under several numbers fewer
  pub Rise-fold_without : (from below : ℕ) (pairs : List (ℕ × T)) (numbers : List ℕ) → Rise from below pairs → Rise from below (fold (λ ps number. without number ps) pairs numbers)
  Rise-fold_without from below pairs [] rise = rise
  Rise-fold_without from below pairs (number ∷ numbers) rise = Rise-fold_without from below (without number pairs) numbers (Rise-without from below number pairs rise)

pub IsInOrder-accepts : (parts : List Sms) (state : State) → IsInOrder state → IsInOrder (accepts parts state)
IsInOrder-accepts parts state h = record {
  waiting =
      let rise = Rise-more state.last_message state.waiting (map unleased parts) h.waiting in
      subst (λ n. Rise 1 (state.last_message + n + 1) (state.waiting ++ numbered_from (state.last_message + 1) (map unleased parts))) (length-map parts unleased) rise;
  arrivals = h.arrivals;
  jobs = h.jobs;
}

IsInOrder-hears : (reported : Reported) (found : Option Awaited) (state : State) → IsInOrder state → IsInOrder (hears reported found state)
IsInOrder-hears reported None state h = record { waiting = h.waiting; arrivals = h.arrivals; jobs = h.jobs }
IsInOrder-hears reported (Some awaited) state h =
    elim (is_last reported.kind) as (λ b. IsInOrder (cond b (closes reported.smsc reported.foreign state) state)) [
      | true ↦ record { waiting = h.waiting; arrivals = h.arrivals; jobs = h.jobs }
      | false ↦ h
    ]

IsInOrder-moves : (state : State) (kept : Recorded) → IsInOrder state → IsInOrder (moves kept state)
IsInOrder-moves state (entry.Accept accept) h = IsInOrder-accepts accept.parts state h
IsInOrder-moves state (entry.Acked acked) h = record { waiting = Rise-without _ _ acked.message state.waiting h.waiting; arrivals = h.arrivals; jobs = h.jobs }
IsInOrder-moves state (entry.Rejected rejected) h = record { waiting = Rise-without _ _ rejected.message state.waiting h.waiting; arrivals = h.arrivals; jobs = h.jobs }
IsInOrder-moves state (entry.Reported reported) h = IsInOrder-hears reported _ state h
IsInOrder-moves state (entry.Arrived arrived) h = record { waiting = h.waiting; arrivals = Rise-one_more state.last_arrival state.arrivals _ h.arrivals; jobs = h.jobs }
IsInOrder-moves state (entry.Answered answered) h = IsInOrder-accepts answered.parts _ (record { waiting = h.waiting; arrivals = Rise-fold_without _ _ state.arrivals answered.arrivals h.arrivals; jobs = h.jobs })
IsInOrder-moves state other h = record { waiting = h.waiting; arrivals = h.arrivals; jobs = Rise-without _ _ _ state.jobs h.jobs }

pub IsInOrder-calls : (url : Option (List ℕ)) (state : State) → IsInOrder state → IsInOrder (calls url state)
IsInOrder-calls url state h = record {
  waiting = h.waiting;
  arrivals = h.arrivals;
  jobs =
      let rise = Rise-more state.last_job state.jobs (map new_job (if_any url)) h.jobs in
      subst (λ n. Rise 1 (state.last_job + n + 1) (state.jobs ++ numbered_from (state.last_job + 1) (map new_job (if_any url)))) (length-map (if_any url) new_job) rise;
}

pub IsInOrder-keeps : (birth : ℕ) (state : State) (kept : Recorded) → IsInOrder state → IsInOrder (keeps birth kept state)
IsInOrder-keeps birth state kept h = IsInOrder-calls (url_in birth state kept) (moves kept state) (IsInOrder-moves state kept h)

pub IsInOrder-passes : (state : State) (brief : Passing) → IsInOrder state → IsInOrder (passes brief state)
IsInOrder-passes state (Up link) h = record { waiting = h.waiting; arrivals = h.arrivals; jobs = h.jobs }
IsInOrder-passes state (Down link) h = record { waiting = h.waiting; arrivals = h.arrivals; jobs = h.jobs }
IsInOrder-passes state (Took link message time) h = record { waiting = Rise-with_change _ _ message _ state.waiting h.waiting; arrivals = h.arrivals; jobs = h.jobs }
IsInOrder-passes state (Returned message) h = record { waiting = Rise-with_change _ _ message _ state.waiting h.waiting; arrivals = h.arrivals; jobs = h.jobs }
IsInOrder-passes state (TookJob job) h = record { waiting = h.waiting; arrivals = h.arrivals; jobs = Rise-with_change _ _ job _ state.jobs h.jobs }
IsInOrder-passes state (ReturnedJob job) h = record { waiting = h.waiting; arrivals = h.arrivals; jobs = Rise-with_change _ _ job _ state.jobs h.jobs }
IsInOrder-passes state (TookArrival arrival) h = record { waiting = h.waiting; arrivals = Rise-with_change _ _ arrival _ state.arrivals h.arrivals; jobs = h.jobs }
IsInOrder-passes state (ReturnedArrival arrival) h = record { waiting = h.waiting; arrivals = Rise-with_change _ _ arrival _ state.arrivals h.arrivals; jobs = h.jobs }

pub IsInOrder-does : (birth : ℕ) (state : State) (one : Entry) → IsInOrder state → IsInOrder (does birth state one)
IsInOrder-does birth state (recorded kept) h = let k = IsInOrder-keeps birth state kept h in record { waiting = k.waiting; arrivals = k.arrivals; jobs = k.jobs }
IsInOrder-does birth state (passing brief) h = IsInOrder-passes state brief h

pub IsInOrder-after : (birth : ℕ) (state : State) (entries : List Entry) → IsInOrder state → IsInOrder (after birth state entries)
IsInOrder-after birth state [] h = h
IsInOrder-after birth state (one ∷ entries) h = IsInOrder-after birth (does birth state one) entries (IsInOrder-does birth state one h)

pub IsInOrder-empty : (links : ℕ) → IsInOrder (empty links)
IsInOrder-empty links = record { waiting = tt; arrivals = tt; jobs = tt }
