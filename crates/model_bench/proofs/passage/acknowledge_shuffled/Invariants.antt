use Rattle.std.specs.Prelude.{⊤}
use Rattle.model_bench.proofs.passage.acknowledge_shuffled.Given as goal

-- it is a gate still
abbrev pub invariant-loop : goal.invariant-loop
invariant-loop l = ⊤
