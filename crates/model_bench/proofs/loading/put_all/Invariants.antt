use Rattle.std.specs.Prelude.{⊤}
use Rattle.gate_model.specs.Loading.{gate_in}
use Rattle.model_bench.proofs.loading.put_all.Given as goal

-- it reads a gate still
abbrev pub invariant-loop : goal.invariant-loop
invariant-loop l = ⊤
