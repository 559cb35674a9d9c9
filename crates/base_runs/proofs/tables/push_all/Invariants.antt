use Rattle.numbered_table.specs.Pairs.{AllBelow}
use Rattle.base_runs.proofs.tables.push_all.Given as goal

abbrev pub invariant-loop-next : goal.invariant-loop-next
invariant-loop-next l = AllBelow l.next l.table.pairs
