use Rattle.std.proofs.Common.{[], ◌∷◌, ◌++◌, ◌+◌, length, ap, arith}
use Rattle.std.proofs.lemmas.Result.{err_from_is_err_and}
use Rattle.exact_octets.specs.Reading.{behind, filled_at}
use Rattle.exact_octets.proofs.Loops.{filling_begins, filling_more, filling_fails, filling_ends}
use Rattle.smpp_wire.specs.Grammar.{tlv_of, tlv}
use Rattle.smpp_wire.specs.Reading.{tlv_at}
use Rattle.smpp_wire.proofs.Tlvs.{tlv_len, behind_fails}
use Rattle.smpp_wire.proofs.tlv.behind_tlvs.Goals as goal

pub loop-left-init : goal.loop-left-init
loop-left-init c = ([], filling_begins tlv_at tlv c.args.left c.args.octets.now)

pub returns-in_err-parameter-clause-gives : goal.returns-in_err-parameter-clause-gives
returns-in_err-parameter-clause-gives c =
    let p = err_from_is_err_and c.from_residual.result c.from_residual.ensures.1 in
    let total = filled_at tlv_at tlv c.args.left c.args.octets.now in
    rw (p.1, p.2) (behind_fails c.in_err-parameter.field-0.0 total (filling_fails tlv_at tlv c.in_err-parameter.field-0.0 total c.loop-left.invariant.0 c.loop-left.left c.loop-left.rest.now c.loop-left-test.true c.in_err-parameter.ensures.gives c.loop-left.invariant.1))

pub loop-left-preserved : goal.loop-left-preserved
loop-left-preserved c =
    let t = tlv_of c.in_ok-parameter.parameter.tag c.in_ok-parameter.parameter.value.now in
    (c.loop-left.invariant.0 ++ t ∷ [], rw c.saturating_sub-left.ensures (filling_more tlv_at tlv (filled_at tlv_at tlv c.args.left c.args.octets.now) c.loop-left.invariant.0 c.loop-left.left c.loop-left.rest.now t (length c.in_ok-parameter.parameter.value.now + 4) c.in_ok-parameter.after.now c.loop-left-test.true (tlv_len t) (omega arith) c.in_ok-parameter.ensures.gives c.loop-left.invariant.1))

pub returns-clause-gives : goal.returns-clause-gives
returns-clause-gives c = ap behind (filling_ends tlv_at tlv (filled_at tlv_at tlv c.args.left c.args.octets.now) c.loop-left.invariant.0 c.loop-left.left c.loop-left.rest.now (omega arith) c.loop-left.invariant.1)
