use Rattle.sms_record.specs.Record.{sms_octets}
use Rattle.gate_entries.proofs.Sizes.{counted_more}
use Rattle.gate_entries.proofs.size.with_parts.Goals as goal

pub loop-sms-preserved : goal.loop-sms-preserved
loop-sms-preserved c = counted_more sms_octets c.args.before c.loop-sms.sum c.with_sms-sum.result c.args.parts.now c.loop-sms.sms-index _ c.loop-sms-test.true c.sms-item.is c.loop-sms.invariant c.with_sms-sum.ensures
