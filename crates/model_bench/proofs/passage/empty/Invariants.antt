use Rattle.std.specs.Prelude.{⊤}
use Rattle.model_bench.proofs.passage.empty.Given as goal

-- it is a gate still
abbrev pub invariant-loop-turn : goal.invariant-loop-turn
invariant-loop-turn l = ⊤
