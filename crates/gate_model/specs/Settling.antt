-- What is left of a state when its store is opened again.
use Rattle.std.specs.Prelude.{◌≡◌, ℕ, false, List, [], ◌∷◌, map, None}
use Rattle.gate_model.specs.declared.arrival.Arrival.{Arrival}
use Rattle.gate_model.specs.declared.waiting.Waiting.{Waiting}
use Rattle.gate_model.specs.Numbers.{with_changes}
use Rattle.gate_model.specs.declared.job.Job.{Job}
use Rattle.gate_model.specs.State.{State}
use Rattle.gate_model.specs.Fold.{Entry, recorded, passing, after}

-- no link has taken it
abbrev pub free_waiting : Waiting → Waiting
free_waiting waiting = record waiting { lease = None }

-- nobody has taken it
abbrev pub free_arrival : Arrival → Arrival
free_arrival arrival = record arrival { leased = false }

-- nobody has taken it, and nobody gave it back
abbrev pub free_job : Job → Job
free_job job = record job { leased = false; returns = 0 }

-- all links are down, nothing is leased, and no returns are counted
abbrev pub settle : State → State
settle state = record state {
  waiting = with_changes free_waiting state.waiting;
  arrivals = with_changes free_arrival state.arrivals;
  jobs = with_changes free_job state.jobs;
  up = map (λ up. false) state.up;
}

-- the entries that a store keeps
abbrev pub kept : List Entry → List Entry
kept [] = []
kept (recorded entry ∷ entries) = recorded entry ∷ kept entries
kept (passing entry ∷ entries) = kept entries

-- the law of settling: what settles after all entries settles after those that are kept
abbrev pub SettlesAlike : (birth : ℕ) → State → List Entry → Type 0
SettlesAlike birth state entries = settle (after birth state entries) ≡ settle (after birth state (kept entries))
