use Rattle.std.proofs.Common.{Option, Ok, [], ◌∷◌, ◌++◌, ◌+◌, length, refl, sym, ap, ◌∙◌, arith}
use Rattle.std.specs.Option.{option_or}
use Rattle.std.proofs.lemmas.Result.{err_from_is_err_and}
use Rattle.exact_octets.proofs.Loops.{filling_begins, filling_more, filling_fails, filling_ends}
use Rattle.sms_record.specs.Header.{element}
use Rattle.sms_record.specs.HeaderReading.{element_of, element_at, elements_at}
use Rattle.concat_split.specs.declared.joint.Joint.{Joint}
use Rattle.concat_split.specs.Joint.{first_joint}
use Rattle.concat_split.proofs.Joints.{said, said_fails, first_joint-last}
use Rattle.concat_split.proofs.joint.joint_of_elements_at.Goals as goal

pub loop-left-init : goal.loop-left-init
loop-left-init c = ([], filling_begins element_at element c.args.left c.args.octets.now, refl)

pub returns-in_err-element-clause-gives : goal.returns-in_err-element-clause-gives
returns-in_err-element-clause-gives c =
    let p = err_from_is_err_and c.from_residual.result c.from_residual.ensures.1 in
    let total = elements_at c.args.left c.args.octets.now in
    rw (p.1, p.2) (said_fails c.in_err-element.field-0.0 total (filling_fails element_at element c.in_err-element.field-0.0 total c.loop-left.invariant.0 c.loop-left.left c.loop-left.rest.now c.loop-left-test.true c.in_err-element.ensures.gives c.loop-left.invariant.1))

pub loop-left-preserved : goal.loop-left-preserved
loop-left-preserved c =
    let e = element_of c.in_ok-element.element.id c.in_ok-element.element.value.now in (
      c.loop-left.invariant.0 ++ e ∷ [],
      filling_more element_at element (elements_at c.args.left c.args.octets.now) c.loop-left.invariant.0 c.loop-left.left c.loop-left.rest.now e (length c.in_ok-element.element.value.now + 2) c.in_ok-element.after.now c.loop-left-test.true (omega arith) (omega arith) c.in_ok-element.ensures.gives c.loop-left.invariant.1,
      c.or-joint.ensures ∙ ap (λ (j : Option Joint). option_or j c.joint_of.result) c.loop-left.invariant.2 ∙ ap (λ (j : Option Joint). option_or (first_joint c.loop-left.invariant.0) j) c.joint_of.ensures ∙ sym (first_joint-last c.loop-left.invariant.0 e),
    )

pub returns-clause-gives : goal.returns-clause-gives
returns-clause-gives c =
    ap said (filling_ends element_at element (elements_at c.args.left c.args.octets.now) c.loop-left.invariant.0 c.loop-left.left c.loop-left.rest.now (omega arith) c.loop-left.invariant.1)
    ∙ ap (λ (j : Option Joint). Ok (j, c.loop-left.rest.now)) (sym c.loop-left.invariant.2)
