use Rattle.std.proofs.Common.{ap, subst}
use Rattle.boxes_main.specs.Giving.{GivesText}
use Rattle.boxes_main.proofs.failure.tell.Goals as goal

pub returns-in-Some : goal.returns-in-Some
returns-in-Some g c =
    let course = g.S.Meter.course in
    rw c.in-Some.is (
      c.give_line.result,
      subst (λ text. GivesText text c.give_line.result (course c.args.errors.now) (course c.give_line.new.errors)) (ap (λ row. row.1) c.row.ensures) c.give_line.ensures,
    )
