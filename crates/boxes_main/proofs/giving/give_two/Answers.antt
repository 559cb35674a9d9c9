use Rattle.boxes_main.proofs.Gives.{GivesText-behind}
use Rattle.boxes_main.proofs.giving.give_two.Goals as goal

pub returns : goal.returns
returns g c =
    let course = g.S.Meter.course in
    GivesText-behind c.args.first.now c.args.second.now c.give-2.result (course c.args.sink.now) (course c.give.new.sink) (course c.give-2.new.sink) c.in_ok-give.ensures c.give-2.ensures
