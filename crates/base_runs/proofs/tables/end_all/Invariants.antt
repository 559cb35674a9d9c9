use Rattle.std.proofs.Common.{ℕ}
use Rattle.numbered_table.specs.Pairs.{AllBelow}
use Rattle.base_runs.proofs.tables.end_all.Given as goal

abbrev pub invariant-loop-turn : goal.invariant-loop-turn
invariant-loop-turn l = (most : ℕ) → AllBelow most l.fn.table.pairs → AllBelow most l.table.pairs
