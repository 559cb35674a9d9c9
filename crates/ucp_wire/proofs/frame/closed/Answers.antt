use Rattle.std.proofs.Common.{arith, Ok, Err}
use Rattle.exact_octets.specs.declared.read_fault.ReadFault.TheVariants as faults
use Rattle.ucp_wire.specs.Grammar.{command_of}
use Rattle.ucp_wire.specs.Reading.{closing_at}
use Rattle.ucp_wire.proofs.Frames.{fails_as, summed_is, closed_left, closed_whole, closed_fails, closed_malformed, by_sum, reads_whole, reads_short}
use Rattle.ucp_wire.proofs.frame.closed.Goals as goal

pub overflow_sub-at : goal.overflow_sub-at
overflow_sub-at c = omega (arith, (summed_is c.args.octets.now (command_of c.args.pdu) c.args.rest.now (λ i. omega (arith, c.type_inv.octets i)) c.requires).0)

pub slice_bounds-checksum-count : goal.slice_bounds-checksum-count
slice_bounds-checksum-count c = (summed_is c.args.octets.now (command_of c.args.pdu) c.args.rest.now (λ i. omega (arith, c.type_inv.octets i)) c.requires).0

pub slice_bounds-checksum-start : goal.slice_bounds-checksum-start
slice_bounds-checksum-start c = omega (arith, (summed_is c.args.octets.now (command_of c.args.pdu) c.args.rest.now (λ i. omega (arith, c.type_inv.octets i)) c.requires).0)

pub overflow_sub-result : goal.overflow_sub-result
overflow_sub-result c = (reads_whole c.args.octets.now c.args.pdu c.in-Ok.behind (λ i. omega (arith, c.type_inv.octets i)) (closed_whole c.args.octets.now (command_of c.args.pdu) c.args.rest.now c.in-Ok.field-0-0 c.in-Ok.behind.now c.requires (by_sum c.args.octets.now (command_of c.args.pdu) c.args.rest.now c.checksum-sum.result (Ok (c.in-Ok.field-0-0, c.in-Ok.behind.now)) (λ i. omega (arith, c.type_inv.octets i)) c.requires c.checksum-sum.ensures c.in-Ok.ensures.gives))).0

pub overflow_sub-seen : goal.overflow_sub-seen
overflow_sub-seen c = omega (arith, (closed_left c.args.octets.now (command_of c.args.pdu) c.args.rest.now c.in-Err-Malformed.left (λ i. omega (arith, c.type_inv.octets i)) c.requires (by_sum c.args.octets.now (command_of c.args.pdu) c.args.rest.now c.checksum-sum.result (Err (faults.Malformed c.in-Err-Malformed.left)) (λ i. omega (arith, c.type_inv.octets i)) c.requires c.checksum-sum.ensures (fails_as c.in-Err-Malformed.field-0 (faults.Malformed c.in-Err-Malformed.left) (closing_at c.checksum-sum.result c.args.rest.now) c.in-Err-Malformed.field-0-is c.in-Err-Malformed.ensures.gives))).1, (summed_is c.args.octets.now (command_of c.args.pdu) c.args.rest.now (λ i. omega (arith, c.type_inv.octets i)) c.requires).0)

pub bounds-octets-seen : goal.bounds-octets-seen
bounds-octets-seen c = omega (arith, (closed_left c.args.octets.now (command_of c.args.pdu) c.args.rest.now c.in-Err-Malformed.left (λ i. omega (arith, c.type_inv.octets i)) c.requires (by_sum c.args.octets.now (command_of c.args.pdu) c.args.rest.now c.checksum-sum.result (Err (faults.Malformed c.in-Err-Malformed.left)) (λ i. omega (arith, c.type_inv.octets i)) c.requires c.checksum-sum.ensures (fails_as c.in-Err-Malformed.field-0 (faults.Malformed c.in-Err-Malformed.left) (closing_at c.checksum-sum.result c.args.rest.now) c.in-Err-Malformed.field-0-is c.in-Err-Malformed.ensures.gives))).0, (closed_left c.args.octets.now (command_of c.args.pdu) c.args.rest.now c.in-Err-Malformed.left (λ i. omega (arith, c.type_inv.octets i)) c.requires (by_sum c.args.octets.now (command_of c.args.pdu) c.args.rest.now c.checksum-sum.result (Err (faults.Malformed c.in-Err-Malformed.left)) (λ i. omega (arith, c.type_inv.octets i)) c.requires c.checksum-sum.ensures (fails_as c.in-Err-Malformed.field-0 (faults.Malformed c.in-Err-Malformed.left) (closing_at c.checksum-sum.result c.args.rest.now) c.in-Err-Malformed.field-0-is c.in-Err-Malformed.ensures.gives))).1, (summed_is c.args.octets.now (command_of c.args.pdu) c.args.rest.now (λ i. omega (arith, c.type_inv.octets i)) c.requires).0)

pub refused-requires : goal.refused-requires
refused-requires c = omega (arith, (closed_left c.args.octets.now (command_of c.args.pdu) c.args.rest.now c.in-Err-Malformed.left (λ i. omega (arith, c.type_inv.octets i)) c.requires (by_sum c.args.octets.now (command_of c.args.pdu) c.args.rest.now c.checksum-sum.result (Err (faults.Malformed c.in-Err-Malformed.left)) (λ i. omega (arith, c.type_inv.octets i)) c.requires c.checksum-sum.ensures (fails_as c.in-Err-Malformed.field-0 (faults.Malformed c.in-Err-Malformed.left) (closing_at c.checksum-sum.result c.args.rest.now) c.in-Err-Malformed.field-0-is c.in-Err-Malformed.ensures.gives))).1, (summed_is c.args.octets.now (command_of c.args.pdu) c.args.rest.now (λ i. omega (arith, c.type_inv.octets i)) c.requires).0)

pub returns-in-Ok : goal.returns-in-Ok
returns-in-Ok c = (reads_whole c.args.octets.now c.args.pdu c.in-Ok.behind (λ i. omega (arith, c.type_inv.octets i)) (closed_whole c.args.octets.now (command_of c.args.pdu) c.args.rest.now c.in-Ok.field-0-0 c.in-Ok.behind.now c.requires (by_sum c.args.octets.now (command_of c.args.pdu) c.args.rest.now c.checksum-sum.result (Ok (c.in-Ok.field-0-0, c.in-Ok.behind.now)) (λ i. omega (arith, c.type_inv.octets i)) c.requires c.checksum-sum.ensures c.in-Ok.ensures.gives))).1

pub returns-in-Err-Short : goal.returns-in-Err-Short
returns-in-Err-Short c = reads_short c.args.octets.now (λ i. omega (arith, c.type_inv.octets i)) (closed_fails c.args.octets.now (command_of c.args.pdu) c.args.rest.now faults.Short c.requires (by_sum c.args.octets.now (command_of c.args.pdu) c.args.rest.now c.checksum-sum.result (Err faults.Short) (λ i. omega (arith, c.type_inv.octets i)) c.requires c.checksum-sum.ensures (fails_as c.in-Err-Short.field-0 faults.Short (closing_at c.checksum-sum.result c.args.rest.now) c.in-Err-Short.field-0-is c.in-Err-Short.ensures.gives)))

pub returns-in-Err-Malformed : goal.returns-in-Err-Malformed
returns-in-Err-Malformed c = rw c.refused.ensures (closed_malformed c.args.octets.now (command_of c.args.pdu) c.args.rest.now c.in-Err-Malformed.left (λ i. omega (arith, c.type_inv.octets i)) c.requires (by_sum c.args.octets.now (command_of c.args.pdu) c.args.rest.now c.checksum-sum.result (Err (faults.Malformed c.in-Err-Malformed.left)) (λ i. omega (arith, c.type_inv.octets i)) c.requires c.checksum-sum.ensures (fails_as c.in-Err-Malformed.field-0 (faults.Malformed c.in-Err-Malformed.left) (closing_at c.checksum-sum.result c.args.rest.now) c.in-Err-Malformed.field-0-is c.in-Err-Malformed.ensures.gives)))
