use Rattle.std.proofs.Common.{◌≡◌, None, take}
use Rattle.std.specs.Prelude.{fold}
use Rattle.gate_model.specs.NextSteps.{better}
use Rattle.gate_model.proofs.gate.next.least_returned.Given as goal

-- the best of the places so far
abbrev pub invariant-loop-row : goal.invariant-loop-row
invariant-loop-row l = l.best ≡ fold better None (take l.row-index l.rows)
