use Rattle.std.proofs.Common.{◌≡◌}
use Rattle.gate_model.specs.Gate.{model_of}
use Rattle.model_bench.proofs.passage.accept_all.Given as goal

-- it is a gate still, with the same links up
abbrev pub invariant-loop : goal.invariant-loop
invariant-loop l = ((model_of l.gate).up ≡ (model_of l.initial.gate).up)
