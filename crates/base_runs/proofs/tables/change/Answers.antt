use Rattle.std.proofs.Common.{sym}
use Rattle.numbered_table.proofs.PairLists.{AreApart-from_none, with_value-apart}
use Rattle.base_runs.proofs.tables.change.Goals as goal

pub returns-in-None : goal.returns-in-None
returns-in-None c =
    sym (with_value-apart c.args.number c.args.value c.args.table.now.pairs (AreApart-from_none c.args.number c.args.table.now.pairs (sym c.in-None.ensures.value)))
