use Rattle.std.proofs.Common.{◌≡◌, ℕ, List, Option, Some, codes, subst, map, rules}
use Rattle.boxes_main.specs.Command.{configuration_of}
use Rattle.boxes_main.specs.OpeningSteps.{Opens}
use Rattle.boxes_main.specs.Worker.{worker_of}
use Rattle.boxes_main.proofs.Ending.{show_ends}
use Rattle.boxes_main.proofs.command.show.run.Goals as goal

pub returns-in-Ok : goal.returns-in-Ok
returns-in-Ok g c =
    let rooms = g.H.House.rooms in
    let stock = g.H.House.stock in
    let house = c.args.house.now in
    let name = configuration_of (codes "show") c.args.words.now in
    let named : Some c.as_slice.result.now ≡ name = search rules in
    let opens : Option (List ℕ) → Type 0 = λ name. Opens g.H.S.Shelf.files g.H.S.Shelf.faults g.H.D.Disk.meaning
    name (rooms house) (rooms c.open.new.house) (stock house) (stock c.open.new.house) c.in-Ok.field-0.settings c.in-Ok.field-0.store in
    show_ends g.H.Ou.Meter.course g.H.S.Shelf.files g.H.S.Shelf.faults g.H.D.Disk.meaning
    name (rooms house) (rooms c.open.new.house) (rooms c.print.new.house) (stock house) (stock c.open.new.house) (stock c.print.new.house)
    c.in-Ok.field-0.settings c.in-Ok.field-0.store c.print.result.status c.print.result.failure c.print.result.disk (map worker_of c.print.result.workers)
    (subst opens named c.in-Ok.ensures.ok) (c.print.ensures c.in-Ok.field-0.settings.rules)
