use Rattle.std.proofs.Common.{◌≡◌, ℕ, List}
use Rattle.numbered_table.specs.Pairs.{AllBelow, without}
use Rattle.numbered_table.proofs.PairLists.{AllBelow-without}
use Rattle.base_runs.proofs.tables.end_all.Goals as goal

still_below : (number most : ℕ) (old new : List (ℕ × ℕ)) → new ≡ without number old → AllBelow most old → AllBelow most new
still_below number most old new is below = rw is (AllBelow-without number most old below)

pub loop-turn-preserved : goal.loop-turn-preserved
loop-turn-preserved c most below = still_below _ most c.loop-turn.table.pairs c.end.new.self.pairs c.end.ensures.pairs (c.loop-turn.invariant most below)
