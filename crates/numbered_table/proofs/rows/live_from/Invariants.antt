use Rattle.std.proofs.Common.{◌≤◌, ◌-◌, length}
use Rattle.numbered_table.specs.Rows.{AreEmpty}
use Rattle.numbered_table.proofs.rows.live_from.Given as goal

abbrev pub invariant-loop-place : goal.invariant-loop-place
invariant-loop-place g l = (l.place ≤ length l.rows) × AreEmpty l.rows 0 l.place

abbrev pub decreases-loop-place : goal.decreases-loop-place
decreases-loop-place g l = length l.rows - l.place
