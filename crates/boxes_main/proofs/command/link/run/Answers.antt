use Rattle.std.proofs.Common.{◌≡◌, ℕ, List, Option, Some, codes, subst, map, rules}
use Rattle.boxes_main.specs.Command.{link_words}
use Rattle.boxes_main.specs.LinkSteps.{EndsLink}
use Rattle.boxes_main.specs.Worker.{worker_of}
use Rattle.boxes_main.proofs.LinkEnding.{link_ends}
use Rattle.boxes_main.proofs.command.link.run.Goals as goal

pub returns-in-Ok-chosen : goal.returns-in-Ok-chosen
returns-in-Ok-chosen g c =
    let rooms = g.H.House.rooms in
    let stock = g.H.House.stock in
    let house = c.args.house.now in
    let words = link_words (codes "link") c.args.words.now in
    let named : Some (c.as_slice.result.now, c.as_slice-2.result.now) ≡ words = search rules in
    subst (λ (ws : Option (List ℕ × List ℕ)). EndsLink g.H.S.Shelf.files g.H.S.Shelf.faults g.H.D.Disk.meaning g.H.C.Clock.readings
    g.H.Di.Dialer.dealings ws (rooms house) (rooms c.serve.new.house) (stock house) (stock c.serve.new.house) c.serve.result.status c.serve.result.failure c.serve.result.disk
    (map worker_of c.serve.result.workers)) named
    (link_ends g.H.S.Shelf.files g.H.S.Shelf.faults g.H.D.Disk.meaning g.H.C.Clock.readings g.H.Di.Dialer.dealings
    c.as_slice.result.now c.as_slice-2.result.now (rooms house) (rooms c.chosen.new.house) (rooms c.serve.new.house) (stock house) (stock c.chosen.new.house) (stock c.serve.new.house)
    c.in-Ok-chosen.settings c.in-Ok-chosen.link c.serve.result.status c.serve.result.failure c.serve.result.disk (map worker_of c.serve.result.workers)
    c.chosen.ensures.rooms c.chosen.ensures.stock c.in-Ok-chosen.ensures.ok c.serve.ensures)
