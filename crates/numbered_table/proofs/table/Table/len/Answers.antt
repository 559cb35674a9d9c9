use Rattle.numbered_table.proofs.Places.{IsAscending-pairs}
use Rattle.numbered_table.proofs.table.Table.len.Goals as goal

pub returns-clause-ascending : goal.returns-clause-ascending
returns-clause-ascending g c = rw (← c.self.view_is) (IsAscending-pairs c.self.inside.rows.items c.self.invariant.places.ascend)
