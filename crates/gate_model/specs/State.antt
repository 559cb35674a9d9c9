-- What a store of messages holds, and what it has counted.
use Rattle.std.specs.Prelude.{ℕ, ◌+◌, Bool, false, ◌&&◌, ◌==◌, List, [], length, map, replicate, count_by, Option, Some, None, bytes_eq, if◌then◌else◌}
use Rattle.std.specs.List.{range_with_len}
use Rattle.dlr_table.specs.declared.awaited.Awaited.{Awaited}
use Rattle.gate_model.specs.declared.arrival.Arrival.{Arrival}
use Rattle.gate_model.specs.declared.job.Job.{Job}
use Rattle.gate_model.specs.declared.totals.Totals.{Totals}
use Rattle.gate_model.specs.declared.waiting.Waiting.{Waiting}
use Rattle.gate_model.specs.Numbers.{Rise}

-- the messages of which a report is awaited: a list under each key of an SMSC id and a foreign id, the oldest first
abbrev pub Lists : Type 0
Lists = (smsc foreign : List ℕ) → List Awaited

-- these two ids are the key
abbrev pub is_key : (smsc foreign : List ℕ) → List ℕ → List ℕ → Bool
is_key smsc foreign other_smsc other_foreign = bytes_eq other_smsc smsc && bytes_eq other_foreign foreign

-- the list under one key is another one
abbrev pub with_list : (smsc foreign : List ℕ) → List Awaited → Lists → Lists
with_list smsc foreign list lists other_smsc other_foreign = if is_key smsc foreign other_smsc other_foreign then list else lists other_smsc other_foreign

-- Messages, jobs and arrivals have numbers of their own, from 1. What has ended is no longer there, and neither is its lease.
pub record State : Type 0 where
  -- messages that wait to be sent
  pub waiting : List (ℕ × Waiting)
  -- messages from centres that are still to be dealt with
  pub arrivals : List (ℕ × Arrival)
  -- URLs that are still to be called
  pub jobs : List (ℕ × Job)
  -- messages of which a report is awaited, under each key, and how many these are in all
  pub awaited : Lists
  pub awaited_count : ℕ
  -- of each link whether it is up
  pub up : List Bool
  -- what was counted since the store's birth
  pub accepted : ℕ
  pub acked : ℕ
  pub rejected : ℕ
  pub unmatched : ℕ
  pub called : ℕ
  pub dropped : ℕ
  pub arrived : ℕ
  pub entries : ℕ
  -- the last numbers that were given
  pub last_message : ℕ
  pub last_job : ℕ
  pub last_arrival : ℕ

-- nothing has happened yet, and none of so many links is up
abbrev pub empty : (links : ℕ) → State
empty links = record {
  waiting = [];
  arrivals = [];
  jobs = [];
  awaited = λ smsc foreign. [];
  awaited_count = 0;
  up = replicate links false;
  accepted = 0;
  acked = 0;
  rejected = 0;
  unmatched = 0;
  called = 0;
  dropped = 0;
  arrived = 0;
  entries = 0;
  last_message = 0;
  last_job = 0;
  last_arrival = 0;
}

-- Numbers are given in order, from 1: those that are held rise, and none is above the last one.
pub record IsInOrder (state : State) : Type 0 where
  pub waiting : Rise 1 (state.last_message + 1) state.waiting
  pub arrivals : Rise 1 (state.last_arrival + 1) state.arrivals
  pub jobs : Rise 1 (state.last_job + 1) state.jobs

-- this is the link
abbrev pub is_link : (link : ℕ) → Option ℕ → Bool
is_link link None = false
is_link link (Some other) = other == link

-- how many messages a link has in flight: those that it has taken
abbrev pub flight_of : List (ℕ × Waiting) → (link : ℕ) → ℕ
flight_of waiting link = count_by (λ pair. is_link link pair.1.lease) waiting

abbrev pub flight : State → (link : ℕ) → ℕ
flight state link = flight_of state.waiting link

-- the same of each link, in their order
abbrev pub flights : State → List ℕ
flights state = map (flight state) (range_with_len 0 (length state.up))

-- what a state counts
abbrev pub totals_of : State → Totals
totals_of state = record {
  accepted = state.accepted;
  acked = state.acked;
  rejected = state.rejected;
  waiting = length state.waiting;
  awaited = state.awaited_count;
  unmatched = state.unmatched;
  jobs = length state.jobs;
  called = state.called;
  dropped = state.dropped;
  arrived = state.arrived;
  arrivals = length state.arrivals;
  entries = state.entries;
}
