use Rattle.std.proofs.Common.{◌≡◌, ◌++◌, take}
use Rattle.std.specs.List.{flat_map}
use Rattle.exact_octets.specs.Numbers.{number}
use Rattle.gate_entries.proofs.answered.put_all.Given as goal

abbrev pub invariant-loop-arrival : goal.invariant-loop-arrival
invariant-loop-arrival l = l.into ≡ l.fn.into ++ flat_map (number 8) (take l.arrival-index l.arrivals)
