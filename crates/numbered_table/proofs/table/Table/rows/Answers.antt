use Rattle.std.proofs.Common.{◌∙◌, ap}
use Rattle.std.proofs.lemmas.List.{take_rest}
use Rattle.numbered_table.specs.Rows.{pairs_of}
use Rattle.numbered_table.proofs.Places.{IsAscending-pairs, pairs_from}
use Rattle.numbered_table.proofs.table.Table.rows.Goals as goal

pub returns-clause-pairs : goal.returns-clause-pairs
returns-clause-pairs g c =
    rw (← c.self.view_is, c.as_slice.ensures.value)
    (ap pairs_of (take_rest c.self.inside.rows.items c.self.inside.first_live) ∙ pairs_from c.self.inside.rows.items c.self.inside.first_live c.self.invariant.places.leading)

pub returns-clause-ascending : goal.returns-clause-ascending
returns-clause-ascending g c = rw (← c.self.view_is) (IsAscending-pairs c.self.inside.rows.items c.self.invariant.places.ascend)
