use Rattle.std.proofs.Common.{length}
use Rattle.gate_model.proofs.gate.soundness.+are_distinct.Given as goal

-- a number fewer is left each time
abbrev pub decreases-are_distinct : goal.decreases-are_distinct
decreases-are_distinct l = length l.numbers.now
