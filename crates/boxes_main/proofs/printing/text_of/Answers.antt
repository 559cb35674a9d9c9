use Rattle.std.proofs.Common.{codes}
use Rattle.boxes_main.specs.Show.{row}
use Rattle.boxes_main.proofs.Printed.{behind}
use Rattle.boxes_main.proofs.printing.text_of.Goals as goal

pub returns : goal.returns
returns c =
    let totals = c.args.totals in
    behind (row (codes "entries") totals.entries) _ c.put_row-12.ensures.items
    (behind (row (codes "arrivals") totals.arrivals) _ c.put_row-11.ensures.items
    (behind (row (codes "arrived") totals.arrived) _ c.put_row-10.ensures.items
    (behind (row (codes "dropped") totals.dropped) _ c.put_row-9.ensures.items
    (behind (row (codes "called") totals.called) _ c.put_row-8.ensures.items
    (behind (row (codes "jobs") totals.jobs) _ c.put_row-7.ensures.items
    (behind (row (codes "unmatched") totals.unmatched) _ c.put_row-6.ensures.items
    (behind (row (codes "awaited") totals.awaited) _ c.put_row-5.ensures.items
    (behind (row (codes "waiting") totals.waiting) _ c.put_row-4.ensures.items
    (behind (row (codes "rejected") totals.rejected) _ c.put_row-3.ensures.items
    (behind (row (codes "acked") totals.acked) _ c.put_row-2.ensures.items
    (behind (row (codes "accepted") totals.accepted) _ c.put_row.ensures.items c.new-text.ensures)))))))))))
