use Rattle.numbered_table.proofs.Places.{full_kept}
use Rattle.numbered_table.proofs.rows.settle.Goals as goal

pub returns-then-empties-len-clause-kept : goal.returns-then-empties-len-clause-kept
returns-then-empties-len-clause-kept g c =
    full_kept c.take_empty_out.new.rows.items (c.take_empty_out.ensures.ascend c.requires.ascend) c.take_empty_out.ensures.full
