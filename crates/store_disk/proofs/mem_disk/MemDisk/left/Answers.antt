use Rattle.std.proofs.Common.{◌∙◌, ap, drop, reverse, take}
use Rattle.std.proofs.lemmas.Result.{IfOk-weaker}
use Rattle.store_disk.specs.MemDisk.{mem_areas}
use Rattle.store_disk.specs.Stop.{octets_left, octets_through, ranges_in, settled_in}
use Rattle.store_disk.proofs.Stops.{left_at}
use Rattle.store_disk.proofs.mem_disk.MemDisk.left.Goals as goal

pub returns : goal.returns
returns c =
    let area = c.args.area in
    let items = c.args.self.now.log.items in
    let front = c.split_at.ensures.front ∙ ap (take c.args.moment) c.as_slice.ensures.value in
    let back = c.split_at.ensures.back ∙ ap (drop c.args.moment) c.as_slice.ensures.value in
    let now = c.in_ok-now.ensures ∙ c.area.ensures.held in
    let then = c.in_ok-before_all.ensures ∙ (λ i. octets_through area (reverse (back i)) (now i)) in
    IfOk-weaker c.left_by.result _ _
    (λ left is.
    is
    ∙ (λ i. octets_left (settled_in area (reverse (front i)) (then i)) (ranges_in area (reverse (front i))) (then i) c.args.choice)
    ∙ left_at items (mem_areas c.args.self.now) area c.args.moment c.args.choice c.requires)
    c.left_by.ensures
