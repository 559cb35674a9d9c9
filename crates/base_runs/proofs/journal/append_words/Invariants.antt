use Rattle.store_journal.specs.Journal.{IsKept, IsHandedOut}
use Rattle.base_runs.proofs.journal.append_words.Given as goal

abbrev pub invariant-loop : goal.invariant-loop
invariant-loop g l = record { kept : IsKept g.D.Disk.meaning l.journal; ended : IsHandedOut l.journal }
