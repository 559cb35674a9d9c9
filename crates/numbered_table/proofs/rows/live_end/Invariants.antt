use Rattle.std.proofs.Common.{◌≤◌, length}
use Rattle.numbered_table.specs.Rows.{AreEmpty}
use Rattle.numbered_table.proofs.rows.live_end.Given as goal

abbrev pub invariant-loop-end : goal.invariant-loop-end
invariant-loop-end g l = (l.end ≤ length l.rows) × AreEmpty l.rows l.end (length l.rows)

abbrev pub decreases-loop-end : goal.decreases-loop-end
decreases-loop-end g l = l.end
