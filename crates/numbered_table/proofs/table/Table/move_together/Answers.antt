use Rattle.numbered_table.proofs.Places.{full_kept}
use Rattle.numbered_table.proofs.table.Table.move_together.Goals as goal

pub invariant_of-self : goal.invariant_of-self
invariant_of-self g c =
    full_kept c.take_empty_out.new.rows.items (c.take_empty_out.ensures.ascend c.self.invariant.places.ascend) c.take_empty_out.ensures.full
