use Rattle.exact_octets.proofs.Growing.{item_more}
use Rattle.sms_record.specs.Record.{sms_octets}
use Rattle.gate_entries.proofs.messages.put_parts.Goals as goal

pub loop-sms-preserved : goal.loop-sms-preserved
loop-sms-preserved c = item_more sms_octets c.args.into.now c.loop-sms.into c.put_sms.new.into c.args.parts.now c.loop-sms.sms-index _ c.loop-sms-test.true c.sms-item.is c.loop-sms.invariant c.in_ok-put_sms.ensures.ok
