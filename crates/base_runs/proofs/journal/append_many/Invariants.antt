use Rattle.store_journal.specs.Journal.{IsKept, IsHandedOut}
use Rattle.base_runs.proofs.journal.append_many.Given as goal

abbrev pub invariant-loop-number : goal.invariant-loop-number
invariant-loop-number g l = record { kept : IsKept g.D.Disk.meaning l.journal; ended : IsHandedOut l.journal }
