-- What keeps a gate whole: its state, its rules, and how many messages each link has in flight.
use Rattle.std.specs.Prelude.{◌≡◌, ℕ, ◌+◌, ◌*◌, ◌<◌, ◌≤◌, ◌^◌, Bool, List, [], ◌∷◌, length}
use Rattle.std.specs.Coded.{Unit-prop}
use Rattle.std.proofs.Props.{props}
use Rattle.route_rules.specs.declared.rules.Rules.{Rules}
use Rattle.dlr_table.specs.Reports.{under, count_of}
use Rattle.dlr_table.specs.declared.reports.Reports.{Reports}
use Rattle.gate_entries.specs.Limits.{most_messages}
use Rattle.gate_model.specs.declared.arrival.Arrival.{Arrival}
use Rattle.gate_model.specs.declared.counts.Counts.{Counts}
use Rattle.gate_model.specs.declared.job.Job.{Job}
use Rattle.gate_model.specs.declared.waiting.Waiting.{Waiting}
use Rattle.gate_model.specs.Lawful.{most_entries}
use Rattle.gate_model.specs.Numbers.{Rise}
use Rattle.gate_model.specs.State.{State, IsInOrder, flights}

-- the state that tables, reports, links and counts make
abbrev pub state_of : (waiting : List (ℕ × Waiting)) (arrivals : List (ℕ × Arrival)) (jobs : List (ℕ × Job)) → Reports → (up : List Bool) → Counts → State
state_of waiting arrivals jobs reports up counts = record {
  waiting = waiting;
  arrivals = arrivals;
  jobs = jobs;
  awaited = under reports;
  awaited_count = count_of reports;
  up = up;
  accepted = counts.accepted;
  acked = counts.acked;
  rejected = counts.rejected;
  unmatched = counts.unmatched;
  called = counts.called;
  dropped = counts.dropped;
  arrived = counts.arrived;
  entries = counts.entries;
  last_message = counts.last_message;
  last_job = counts.last_job;
  last_arrival = counts.last_arrival;
}

-- Counts and numbers are bounded by the entries, and these by the most that are ever recorded.
pub record IsBounded (state : State) : Type 0 where
  pub entries : state.entries ≤ most_entries
  pub accepted : state.accepted ≤ most_messages * state.entries
  pub last_message : state.last_message ≤ most_messages * state.entries
  pub acked : state.acked ≤ state.entries
  pub rejected : state.rejected ≤ state.entries
  pub unmatched : state.unmatched ≤ state.entries
  pub called : state.called ≤ state.entries
  pub dropped : state.dropped ≤ state.entries
  pub last_job : state.last_job ≤ state.entries
  pub arrived : state.arrived ≤ state.entries
  pub last_arrival : state.last_arrival ≤ state.entries

-- What keeps a state whole, with the rules and with how many messages each link has in flight.
pub record IsWhole (rules : Rules) (flight : List ℕ) (state : State) : Type 0 where
  pub few_links : length rules.links < 2 ^ 32
  pub ups : length state.up ≡ length rules.links
  pub flights : flight ≡ flights state
  pub order : IsInOrder state
  pub bounded : IsBounded state

-- ---- each of these facts has one proof at most, as a type's invariant must

Rise-prop : {T : Type 0} (from below : ℕ) (pairs : List (ℕ × T)) → IsProp (Rise from below pairs)
Rise-prop from below [] = Unit-prop
Rise-prop from below (pair ∷ pairs) = let rest = Rise-prop (pair.0 + 1) below pairs in Prim.hlevel (props, rest)

pub IsWhole-prop : (rules : Rules) (flight : List ℕ) (state : State) → IsProp (IsWhole rules flight state)
IsWhole-prop rules flight state = Prim.hlevel (props, Rise-prop)
