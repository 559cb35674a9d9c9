use Rattle.std.proofs.Common.{arith, sym, ◌∙◌}
use Rattle.smpp_wire.specs.Grammar.{tlv_of}
use Rattle.smpp_wire.proofs.TlvValues.{remains_all, remains_more, remains_found, remains_failed, remains_none, behind_shorter}
use Rattle.smpp_wire.proofs.tlv.tlv_value.Goals as goal

pub loop-rest-init : goal.loop-rest-init
loop-rest-init c = (remains_all c.args.tag c.args.tlvs.now, λ i. omega (arith, c.type_inv.tlvs i))

pub returns-in_default : goal.returns-in_default
returns-in_default c =
    remains_failed c.args.tag c.args.tlvs.now c.loop-rest.rest.now c.in_default.field-0 c.loop-rest-test.true c.in_default.ensures.no_memory c.in_default.ensures.gives c.loop-rest.invariant.0

pub returns-then-parameter-from : goal.returns-then-parameter-from
returns-then-parameter-from c =
    remains_found c.args.tag c.args.tlvs.now c.loop-rest.rest.now (tlv_of c.in-Ok.parameter.tag c.in-Ok.parameter.value.now) c.in-Ok.behind.now c.loop-rest-test.true c.in-Ok.ensures.gives (c.if-parameter-from.true ∙ c.from.ensures) c.loop-rest.invariant.0

pub loop-rest-smaller : goal.loop-rest-smaller
loop-rest-smaller c = (behind_shorter c.loop-rest.rest.now (tlv_of c.in-Ok.parameter.tag c.in-Ok.parameter.value.now) c.in-Ok.behind.now c.loop-rest-test.true c.loop-rest.invariant.1 c.in-Ok.ensures.gives).0

pub loop-rest-preserved : goal.loop-rest-preserved
loop-rest-preserved c = (
  remains_more c.args.tag c.args.tlvs.now c.loop-rest.rest.now (tlv_of c.in-Ok.parameter.tag c.in-Ok.parameter.value.now) c.in-Ok.behind.now c.loop-rest-test.true c.in-Ok.ensures.gives (λ e. c.if-parameter-from.false (e ∙ sym c.from.ensures)) c.loop-rest.invariant.0,
  (behind_shorter c.loop-rest.rest.now (tlv_of c.in-Ok.parameter.tag c.in-Ok.parameter.value.now) c.in-Ok.behind.now c.loop-rest-test.true c.loop-rest.invariant.1 c.in-Ok.ensures.gives).1,
)

pub returns : goal.returns
returns c = remains_none c.args.tag c.args.tlvs.now c.loop-rest.rest.now (omega (arith, c.loop-rest-test.false)) c.loop-rest.invariant.0
