use Rattle.std.proofs.Common.{ap, sym, ◌∙◌, subst}
use Rattle.boxes_main.specs.Failure.{row_of, Tells}
use Rattle.boxes_main.proofs.command_end.tell_end.Goals as goal

pub returns-clause-rooms : goal.returns-clause-rooms
returns-clause-rooms g c =
    let rooms = g.H.House.rooms in
    let house = c.args.house.now in
    let lent = record (rooms house) { errors = c.tell.new.errors } in
    let e = g.met.H.House.rooms_with house lent in
    e ∙ ap (λ x. record (rooms house) { errors = x }) (sym (ap (λ r. r.errors) e))

pub returns-clause-stock : goal.returns-clause-stock
returns-clause-stock g c = g.met.H.House.stock_with c.args.house.now (record (g.H.House.rooms c.args.house.now) { errors = c.tell.new.errors })

pub returns-clause-tells : goal.returns-clause-tells
returns-clause-tells g c =
    let rooms = g.H.House.rooms in
    let course = g.H.Er.Meter.course in
    let house = c.args.house.now in
    let lent = record (rooms house) { errors = c.tell.new.errors } in
    subst (λ x. Tells (row_of g.F.Fault.says) c.args.failure.now (course (rooms house).errors) (course x)) (sym (ap (λ r. r.errors) (g.met.H.House.rooms_with house lent)))
    (subst (λ x. Tells (row_of g.F.Fault.says) c.args.failure.now (course x) (course c.tell.new.errors)) c.errors.ensures.value c.tell.ensures)
