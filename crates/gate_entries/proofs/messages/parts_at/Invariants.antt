use Rattle.std.proofs.Common.{◌≡◌, ◌-◌}
use Rattle.exact_octets.proofs.Loops.{with_front}
use Rattle.gate_entries.specs.EntryReading.{parts_at}
use Rattle.gate_entries.proofs.messages.parts_at.Given as goal

abbrev pub invariant-loop : goal.invariant-loop
invariant-loop l = with_front l.parts (parts_at (l.count - l.counter) l.rest) ≡ parts_at l.count l.octets
