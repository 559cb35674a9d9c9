use Rattle.std.proofs.Common.{length}
use Rattle.store_journal.specs.Journal.{IsKept, left}
use Rattle.base_runs.proofs.journal.hand_out.Given as goal

abbrev pub invariant-payloads : goal.invariant-payloads
invariant-payloads g l = IsKept g.D.Disk.meaning l.journal

abbrev pub decreases-payloads : goal.decreases-payloads
decreases-payloads g l = length (left l.journal)
