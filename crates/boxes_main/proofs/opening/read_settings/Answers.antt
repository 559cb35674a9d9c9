use Rattle.std.proofs.Common.{ap, sym, ◌∙◌, subst}
use Rattle.boxes_main.specs.Opening.{Reads}
use Rattle.boxes_main.proofs.opening.read_settings.Goals as goal

pub returns-clause-rooms : goal.returns-clause-rooms
returns-clause-rooms g c =
    let rooms = g.H.House.rooms in
    let house = c.args.house.now in
    let lent = record (rooms house) { shelf = c.read_config.new.shelf } in
    let e = g.met.H.House.rooms_with house lent in
    e ∙ ap (λ x. record (rooms house) { shelf = x }) (sym (ap (λ r. r.shelf) e))

pub returns-clause-stock : goal.returns-clause-stock
returns-clause-stock g c = g.met.H.House.stock_with c.args.house.now (record (g.H.House.rooms c.args.house.now) { shelf = c.read_config.new.shelf })

pub returns-clause-reads : goal.returns-clause-reads
returns-clause-reads g c =
    let rooms = g.H.House.rooms in
    let house = c.args.house.now in
    let lent = record (rooms house) { shelf = c.read_config.new.shelf } in
    let reads : Reads g.H.S.Shelf.files g.H.S.Shelf.faults c.args.name.now c.shelf.result.now c.read_config.new.shelf c.read_config.result =
    record { read = c.read_config.ensures.read; missed = c.read_config.ensures.missed; kept = c.read_config.ensures.kept; not_fewer = c.read_config.ensures.not_fewer } in
    subst (λ x. Reads g.H.S.Shelf.files g.H.S.Shelf.faults c.args.name.now (rooms house).shelf x c.read_config.result) (sym (ap (λ r. r.shelf) (g.met.H.House.rooms_with house lent)))
    (subst (λ x. Reads g.H.S.Shelf.files g.H.S.Shelf.faults c.args.name.now x c.read_config.new.shelf c.read_config.result) c.shelf.ensures.value reads)
