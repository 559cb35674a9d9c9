use Rattle.std.proofs.Common.{◌∙◌}
use Rattle.boxes_main.proofs.Printed.{row-behind}
use Rattle.boxes_main.proofs.printing.put_row.Goals as goal

pub returns-clause-items : goal.returns-clause-items
returns-clause-items c =
    row-behind c.args.text.now.items c.args.name.now c.args.count _ _ _ _ _ c.put.ensures.items c.put-2.ensures.items
    c.put-3.ensures.items (c.as_bytes.ensures.value ∙ c.format.ensures.text) c.put-4.ensures.items
