use Rattle.std.specs.Prelude.{⊤}
use Rattle.gate_model.specs.Loading.{gate_in}
use Rattle.model_runs.proofs.loads.put_payloads.Given as goal

-- it reads a gate still
abbrev pub invariant-loop : goal.invariant-loop
invariant-loop l = ⊤
