use Rattle.std.proofs.lemmas.Result.{err_from_is_err_and}
use Rattle.concat_split.proofs.Joints.{count_fails, count_says}
use Rattle.concat_split.proofs.joint.joint_at.Goals as goal

pub returns-in_err-count-clause-gives : goal.returns-in_err-count-clause-gives
returns-in_err-count-clause-gives c =
    let p = err_from_is_err_and c.from_residual.result c.from_residual.ensures.1 in
    rw (p.1, p.2) (count_fails c.in_err-count.field-0.0 c.args.octets.now c.in_err-count.ensures.gives)

pub returns-clause-gives : goal.returns-clause-gives
returns-clause-gives c = rw (count_says c.in_ok-count.count c.args.octets.now c.in_ok-count.rest.now c.in_ok-count.ensures.gives) c.joint_of_elements_at.ensures.gives
