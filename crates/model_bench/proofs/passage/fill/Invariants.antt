use Rattle.std.specs.Prelude.{⊤}
use Rattle.model_bench.proofs.passage.fill.Given as goal

-- it is a gate still
abbrev pub invariant-loop-place : goal.invariant-loop-place
invariant-loop-place l = ⊤
