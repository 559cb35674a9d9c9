use Rattle.std.proofs.Common.{arith}
use Rattle.exact_octets.specs.declared.read_fault.ReadFault.TheVariants as faults
use Rattle.ucp_wire.specs.Reading.{head_at}
use Rattle.ucp_wire.proofs.Frames.{fails_as, head_short, head_malformed}
use Rattle.ucp_wire.proofs.frame.read_frame.Goals as goal

pub overflow_sub-result : goal.overflow_sub-result
overflow_sub-result c = (head_malformed c.args.octets.now c.in-Err-Malformed.left (λ i. omega (arith, c.type_inv.octets i)) (fails_as c.in-Err-Malformed.field-0 (faults.Malformed c.in-Err-Malformed.left) (head_at c.args.octets.now) c.in-Err-Malformed.field-0-is c.in-Err-Malformed.ensures.gives)).0

pub returns-in-Err-Short : goal.returns-in-Err-Short
returns-in-Err-Short c = head_short c.args.octets.now (λ i. omega (arith, c.type_inv.octets i)) (fails_as c.in-Err-Short.field-0 faults.Short (head_at c.args.octets.now) c.in-Err-Short.field-0-is c.in-Err-Short.ensures.gives)

pub returns-in-Err-Malformed : goal.returns-in-Err-Malformed
returns-in-Err-Malformed c = (head_malformed c.args.octets.now c.in-Err-Malformed.left (λ i. omega (arith, c.type_inv.octets i)) (fails_as c.in-Err-Malformed.field-0 (faults.Malformed c.in-Err-Malformed.left) (head_at c.args.octets.now) c.in-Err-Malformed.field-0-is c.in-Err-Malformed.ensures.gives)).1
