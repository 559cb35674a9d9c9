use Rattle.std.proofs.Common.{◌≡◌, ℕ, List, Option, Some, codes, subst, map, rules}
use Rattle.boxes_main.specs.Command.{configuration_of}
use Rattle.boxes_main.specs.OpeningSteps.{Opens}
use Rattle.boxes_main.specs.Worker.{worker_of}
use Rattle.boxes_main.proofs.Ending.{ends_served}
use Rattle.boxes_main.proofs.command.door.run.Goals as goal

pub returns-in-Ok-open : goal.returns-in-Ok-open
returns-in-Ok-open g c =
    let rooms = g.H.House.rooms in
    let stock = g.H.House.stock in
    let house = c.args.house.now in
    let opened = c.in-Ok-open.opened in
    let name = configuration_of (codes "door") c.args.words.now in
    let named : Some c.as_slice.result.now ≡ name = search rules in
    let opens : Option (List ℕ) → Type 0 = λ name. Opens g.H.S.Shelf.files g.H.S.Shelf.faults g.H.D.Disk.meaning
    name (rooms house) (rooms c.open.new.house) (stock house) (stock c.open.new.house) opened.settings opened.store in
    ends_served g.H.V.Meter.course g.H.S.Shelf.files g.H.S.Shelf.faults g.H.D.Disk.meaning g.H.C.Clock.readings
    name (rooms house) (rooms c.open.new.house) (rooms c.serve.new.house) (stock house) (stock c.open.new.house) (stock c.serve.new.house)
    opened.settings opened.store c.serve.result.status c.serve.result.failure c.serve.result.disk (map worker_of c.serve.result.workers)
    (subst opens named c.in-Ok-open.ensures.ok) c.serve.ensures
