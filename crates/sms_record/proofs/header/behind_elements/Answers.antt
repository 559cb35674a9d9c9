use Rattle.std.proofs.Common.{[], ◌∷◌, ◌++◌, ◌+◌, length, ap, arith}
use Rattle.std.proofs.lemmas.Result.{err_from_is_err_and}
use Rattle.exact_octets.specs.Reading.{behind}
use Rattle.exact_octets.proofs.Loops.{filling_begins, filling_more, filling_fails, filling_ends}
use Rattle.sms_record.specs.Header.{element}
use Rattle.sms_record.specs.HeaderReading.{element_of, element_at, elements_at}
use Rattle.sms_record.proofs.Udh.{behind_fails}
use Rattle.sms_record.proofs.header.behind_elements.Goals as goal

pub loop-left-init : goal.loop-left-init
loop-left-init c = ([], filling_begins element_at element c.args.left c.args.octets.now)

pub returns-in_err-element : goal.returns-in_err-element
returns-in_err-element c =
    let p = err_from_is_err_and c.from_residual.result c.from_residual.ensures.1 in
    let total = elements_at c.args.left c.args.octets.now in
    rw (p.1, p.2) (behind_fails c.in_err-element.field-0.0 total (filling_fails element_at element c.in_err-element.field-0.0 total c.loop-left.invariant.0 c.loop-left.left c.loop-left.rest.now c.loop-left-test.true c.in_err-element.ensures.gives c.loop-left.invariant.1))

pub loop-left-preserved : goal.loop-left-preserved
loop-left-preserved c =
    let e = element_of c.in_ok-element.element.id c.in_ok-element.element.value.now in
    (c.loop-left.invariant.0 ++ e ∷ [], filling_more element_at element (elements_at c.args.left c.args.octets.now) c.loop-left.invariant.0 c.loop-left.left c.loop-left.rest.now e (length c.in_ok-element.element.value.now + 2) c.in_ok-element.after.now c.loop-left-test.true (omega arith) (omega arith) c.in_ok-element.ensures.gives c.loop-left.invariant.1)

pub returns : goal.returns
returns c = ap behind (filling_ends element_at element (elements_at c.args.left c.args.octets.now) c.loop-left.invariant.0 c.loop-left.left c.loop-left.rest.now (omega arith) c.loop-left.invariant.1)
