use Rattle.std.proofs.Common.{arith}
use Rattle.exact_octets.specs.declared.read_fault.ReadFault.TheVariants as faults
use Rattle.smpp_wire.specs.Reading.{frame_at}
use Rattle.smpp_wire.proofs.Frames.{fails_as, reads_whole, reads_short, reads_malformed}
use Rattle.smpp_wire.proofs.frame.read_frame.Goals as goal

pub overflow_sub-result : goal.overflow_sub-result
overflow_sub-result c = (reads_whole c.args.octets.now c.in-Ok.pdu c.in-Ok.rest (λ i. omega (arith, c.type_inv.octets i)) c.in-Ok.ensures.gives).0

pub overflow_sub-octets : goal.overflow_sub-octets
overflow_sub-octets c = (reads_malformed c.args.octets.now c.in-Err-Malformed.left (λ i. omega (arith, c.type_inv.octets i)) (fails_as c.in-Err-Malformed.field-0 (faults.Malformed c.in-Err-Malformed.left) (frame_at c.args.octets.now) c.in-Err-Malformed.field-0-is c.in-Err-Malformed.ensures.gives)).0

pub returns-in-Ok : goal.returns-in-Ok
returns-in-Ok c = (reads_whole c.args.octets.now c.in-Ok.pdu c.in-Ok.rest (λ i. omega (arith, c.type_inv.octets i)) c.in-Ok.ensures.gives).1

pub returns-in-Err-Short : goal.returns-in-Err-Short
returns-in-Err-Short c = reads_short c.args.octets.now (λ i. omega (arith, c.type_inv.octets i)) (fails_as c.in-Err-Short.field-0 faults.Short (frame_at c.args.octets.now) c.in-Err-Short.field-0-is c.in-Err-Short.ensures.gives)

pub returns-in-Err-Malformed : goal.returns-in-Err-Malformed
returns-in-Err-Malformed c = rw c.refused.ensures (reads_malformed c.args.octets.now c.in-Err-Malformed.left (λ i. omega (arith, c.type_inv.octets i)) (fails_as c.in-Err-Malformed.field-0 (faults.Malformed c.in-Err-Malformed.left) (frame_at c.args.octets.now) c.in-Err-Malformed.field-0-is c.in-Err-Malformed.ensures.gives)).1
