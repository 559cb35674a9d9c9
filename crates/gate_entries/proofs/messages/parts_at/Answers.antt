use Rattle.std.proofs.lemmas.Result.{err_from_is_err_and}
use Rattle.exact_octets.proofs.Loops.{goes_on, ends, is_done}
use Rattle.sms_record.specs.RecordReading.{sms_at}
use Rattle.gate_entries.specs.EntryReading.{parts_at}
use Rattle.gate_entries.proofs.messages.parts_at.Goals as goal

pub returns-in_err-sms : goal.returns-in_err-sms
returns-in_err-sms c =
    let p = err_from_is_err_and c.from_residual.result c.from_residual.ensures.1 in
    rw (p.1, p.2) (ends sms_at c.in_err-sms.field-0.0 c.loop.parts c.args.count c.loop.counter c.loop.rest.now (parts_at c.args.count c.args.octets.now) c.loop-test.true c.in_err-sms.ensures c.loop.invariant)

pub loop-preserved : goal.loop-preserved
loop-preserved c = rw c.in_ok-push.ensures.ok (goes_on sms_at c.loop.parts c.args.count c.loop.counter c.loop.rest.now c.in_ok-sms.sms c.in_ok-sms.after.now (parts_at c.args.count c.args.octets.now) c.loop-test.true c.in_ok-sms.ensures c.loop.invariant)

pub returns : goal.returns
returns c = is_done sms_at c.loop.parts c.args.count c.loop.counter c.loop.rest.now (parts_at c.args.count c.args.octets.now) c.loop-test.false c.loop.invariant
