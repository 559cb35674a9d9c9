use Rattle.std.proofs.Common.{arith, ◌-◌}
use Rattle.std.proofs.lemmas.Result.{err_from_is_err_and}
use Rattle.sms_record.proofs.Udh.{udh_whole, udh_none, udh_failed, others_failed}
use Rattle.sms_record.proofs.header.udh_of_len_at.Goals as goal

pub returns-then-len-eq0 : goal.returns-then-len-eq0
returns-then-len-eq0 c = rw (c.split_at.ensures.front, c.split_at.ensures.back) (udh_none c.args.len c.args.octets.now c.if-len-eq0.true)

pub returns-in_err-rest : goal.returns-in_err-rest
returns-in_err-rest c =
    let p = err_from_is_err_and c.from_residual.result c.from_residual.ensures.1 in
    rw (p.1, p.2) (udh_failed c.in_err-rest.field-0.0 c.args.len (c.args.len - 1) c.args.octets.now (omega arith) c.in_err-rest.ensures.gives)

pub returns-in_err-behind_elements : goal.returns-in_err-behind_elements
returns-in_err-behind_elements c =
    let p = err_from_is_err_and c.from_residual-in_err-behind_elements.result c.from_residual-in_err-behind_elements.ensures.1 in
    rw (p.1, p.2) (others_failed c.in_err-behind_elements.field-0.0 c.args.len (c.args.len - 1) _ c.args.octets.now c.in_ok-rest.rest.now (omega arith) c.in_ok-rest.ensures.gives c.in_err-behind_elements.ensures)

pub split_at-requires-2 : goal.split_at-requires-2
split_at-requires-2 c = (udh_whole c.args.len (c.args.len - 1) _ c.args.octets.now c.in_ok-rest.rest.now _ (omega arith) c.requires (λ i. omega (arith, c.type_inv.octets i)) c.in_ok-rest.ensures.gives c.in_ok-behind_elements.ensures).0

pub returns : goal.returns
returns c = rw (c.split_at-2.ensures.front, c.split_at-2.ensures.back) (udh_whole c.args.len (c.args.len - 1) _ c.args.octets.now c.in_ok-rest.rest.now _ (omega arith) c.requires (λ i. omega (arith, c.type_inv.octets i)) c.in_ok-rest.ensures.gives c.in_ok-behind_elements.ensures).1
