use Rattle.std.proofs.Common.{length}
use Rattle.store_journal.specs.Journal.{left}
use Rattle.gate_store.proofs.Loading.{HasLoaded}
use Rattle.gate_store.proofs.store.entries.load.Given as goal

abbrev pub invariant-loop-payload : goal.invariant-loop-payload
invariant-loop-payload g l = HasLoaded g.D.Disk.meaning l.fn.rules l.initial.journal l.journal l.loader

abbrev pub decreases-loop-payload : goal.decreases-loop-payload
decreases-loop-payload g l = length (left l.journal)
