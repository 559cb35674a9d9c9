use Rattle.std.proofs.Common.{◌≡◌, ◌-◌}
use Rattle.exact_octets.proofs.Loops.{with_front}
use Rattle.gate_entries.specs.EntryReading.{numbers_of_count_at}
use Rattle.gate_entries.proofs.answered.numbers_of_count_at.Given as goal

abbrev pub invariant-loop : goal.invariant-loop
invariant-loop l = with_front l.arrivals (numbers_of_count_at (l.count - l.counter) l.rest) ≡ numbers_of_count_at l.count l.octets
