use Rattle.std.proofs.Common.{arith}
use Rattle.exact_octets.proofs.Fronts.{lies_within, reads_all}
use Rattle.gate_entries.proofs.Entries.{entry_reads}
use Rattle.gate_entries.proofs.recorded.read_entry.Goals as goal

pub told_all-requires : goal.told_all-requires
told_all-requires c = lies_within entry_reads c.args.octets.now c.entry_at.result (λ i. omega (arith, c.type_inv.octets i)) c.entry_at.ensures

pub returns : goal.returns
returns c = rw c.told_all.ensures (reads_all entry_reads c.args.octets.now c.entry_at.result (λ i. omega (arith, c.type_inv.octets i)) c.entry_at.ensures)
