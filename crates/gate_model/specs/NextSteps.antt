-- What comes next, place by place of a table.
use Rattle.std.specs.Prelude.{ℕ, Bool, not, nat_le, Option, Some, None, if◌then◌else◌}
use Rattle.std.specs.Option.{option_map_or}
use Rattle.std.specs.Prelude.{false}
use Rattle.route_rules.specs.declared.rules.Rules.{Rules}
use Rattle.numbered_table.specs.declared.row.Row.{Row}
use Rattle.gate_model.specs.declared.arrival.Arrival.{Arrival}
use Rattle.gate_model.specs.declared.job.Job.{Job}
use Rattle.gate_model.specs.declared.waiting.Waiting.{Waiting}
use Rattle.gate_model.specs.State.{State}
use Rattle.gate_model.specs.Routing.{may_take}

-- a link may take the message of a place, where there is one
abbrev pub offers : Rules → State → (link now : ℕ) → Row Waiting → Bool
offers rules state link now row = option_map_or (may_take rules state link now) row.value false

-- nobody has taken the arrival of a place, where there is one
abbrev pub is_free : Row Arrival → Bool
is_free row = option_map_or (λ arrival. not arrival.leased) row.value false

-- of two numbers of jobs, each with how often it was given back, the one that was less often, and the first where both were as often
abbrev pub fewer : ℕ × ℕ → Option (ℕ × ℕ) → ℕ × ℕ
fewer one None = one
fewer one (Some best) = if nat_le best.1 one.1 then best else one

-- the better of one job and that of a place, where there is one that nobody has taken
abbrev pub better_of : Option (ℕ × ℕ) → (number : ℕ) → Option Job → Option (ℕ × ℕ)
better_of best number None = best
better_of best number (Some job) = if job.leased then best else Some (fewer (number, job.returns) best)

abbrev pub better : Option (ℕ × ℕ) → Row Job → Option (ℕ × ℕ)
better best row = better_of best row.number row.value
