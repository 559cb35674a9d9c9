use Rattle.std.proofs.Common.{arith}
use Rattle.exact_octets.proofs.Fronts.{lies_within, reads_all}
use Rattle.gate_entries.proofs.Entries.{accept_reads}
use Rattle.gate_entries.proofs.accept.read_accept.Goals as goal

pub told_all-requires : goal.told_all-requires
told_all-requires c = lies_within accept_reads c.args.octets.now c.accept_at.result (λ i. omega (arith, c.type_inv.octets i)) c.accept_at.ensures

pub returns : goal.returns
returns c = rw c.told_all.ensures (reads_all accept_reads c.args.octets.now c.accept_at.result (λ i. omega (arith, c.type_inv.octets i)) c.accept_at.ensures)
