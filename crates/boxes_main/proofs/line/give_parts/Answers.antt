use Rattle.std.proofs.lemmas.Result.{err_from_is_err_and}
use Rattle.boxes_main.proofs.Gives.{parts-cut, parts-cut_later, parts-end}
use Rattle.boxes_main.proofs.line.give_parts.Goals as goal

pub returns-in_err-give_two : goal.returns-in_err-give_two
returns-in_err-give_two g c =
    let course = g.S.Meter.course in
    let b = course c.give_two.new.sink in
    let err = err_from_is_err_and c.from_residual.result c.from_residual.ensures.1 in
    rw err.1 (parts-cut c.args.front.now c.args.first.now c.args.between.now c.args.last.now (course c.args.errors.now) b b b c.in_err-give_two.ensures)

pub returns-in_err-give_two-2 : goal.returns-in_err-give_two-2
returns-in_err-give_two-2 g c =
    let course = g.S.Meter.course in
    let d = course c.give_two-2.new.sink in
    let err = err_from_is_err_and c.from_residual-in_err-give_two-2.result c.from_residual-in_err-give_two-2.ensures.1 in
    rw err.1
    (parts-cut_later c.args.front.now c.args.first.now c.args.between.now c.args.last.now (course c.args.errors.now) (course c.give_two.new.sink) d d
    err.0 c.in_ok-give_two.ensures c.in_err-give_two-2.ensures)

pub returns : goal.returns
returns g c =
    let course = g.S.Meter.course in
    parts-end c.args.front.now c.args.first.now c.args.between.now c.args.last.now (course c.args.errors.now) (course c.give_two.new.sink) (course c.give_two-2.new.sink) (course c.give.new.sink)
    c.give.result c.in_ok-give_two.ensures c.in_ok-give_two-2.ensures c.give.ensures
