use Rattle.std.proofs.Common.{arith}
use Rattle.exact_octets.proofs.Fronts.{lies_within, reads_first}
use Rattle.sms_record.proofs.Messages.{sms_reads}
use Rattle.sms_record.proofs.record.read_sms.Goals as goal

pub told_first-requires : goal.told_first-requires
told_first-requires c = lies_within sms_reads c.args.octets.now c.sms_at.result (λ i. omega (arith, c.type_inv.octets i)) c.sms_at.ensures

pub returns : goal.returns
returns c = rw c.told_first.ensures (reads_first sms_reads c.args.octets.now c.sms_at.result (λ i. omega (arith, c.type_inv.octets i)) c.sms_at.ensures)
