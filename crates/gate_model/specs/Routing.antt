-- Which message a link sends next, and which job and arrival come next.
use Rattle.std.specs.Prelude.{ℕ, ◌+◌, ◌*◌, Bool, ◌&&◌, nat_le, is_none, not, List, filter, find, Option, option_map}
use Rattle.std.specs.List.{list_all}
use Rattle.sms_record.specs.declared.sms.Sms.{Sms}
use Rattle.route_rules.specs.declared.rules.Rules.{Rules}
use Rattle.route_rules.specs.Routes.{chosen}
use Rattle.gate_model.specs.declared.waiting.Waiting.{Waiting}
use Rattle.gate_model.specs.declared.job.Job.{Job}
use Rattle.gate_model.specs.State.{State, flights, is_link}

-- when a message may be sent at the earliest
abbrev pub due_time : Sms → ℕ
due_time sms = sms.time + 60 * sms.deferred

-- the link that sends a message now
abbrev pub link_for : Rules → State → Sms → Option ℕ
link_for rules state sms = chosen rules state.up (flights state) sms

-- a message may be sent by now
abbrev pub is_due : Sms → (now : ℕ) → Bool
is_due sms now = nat_le (due_time sms) now

-- a message goes by a link
abbrev pub goes_by : Rules → State → Sms → (link : ℕ) → Bool
goes_by rules state sms link = is_link link (link_for rules state sms)

-- a link may take a message now: none has taken it, it is due, and it goes by this link
abbrev pub may_take : Rules → State → (link now : ℕ) → Waiting → Bool
may_take rules state link now waiting = is_none waiting.lease && (is_due waiting.sms now && goes_by rules state waiting.sms link)

-- the least number of a message that a link may take now
abbrev pub next : Rules → State → (link now : ℕ) → Option ℕ
next rules state link now = option_map (λ pair. pair.0) (find (λ pair. may_take rules state link now pair.1) state.waiting)

-- the least number of an arrival that nobody has taken
abbrev pub next_arrival : State → Option ℕ
next_arrival state = option_map (λ pair. pair.0) (find (λ pair. not pair.1.leased) state.arrivals)

-- the jobs that nobody has taken
abbrev pub free_jobs : State → List (ℕ × Job)
free_jobs state = filter (λ pair. not pair.1.leased) state.jobs

-- the least number of a job that nobody has taken, among those that were given back least often
abbrev pub next_job : State → Option ℕ
next_job state =
    option_map (λ pair. pair.0) (find (λ pair. list_all (λ other. nat_le pair.1.returns other.1.returns) (free_jobs state)) (free_jobs state))
