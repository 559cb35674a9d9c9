use Rattle.std.proofs.Common.{◌≡◌, ◌-◌, length, take, reverse}
use Rattle.store_disk.specs.Stop.{moment_at}
use Rattle.store_disk.proofs.mem_stop.entries_up_to.Given as goal

-- of what is left as many entries stand before the stop as of all
abbrev pub invariant-loop-i : goal.invariant-loop-i
invariant-loop-i l = moment_at l.call (reverse (take (length l.log - l.i) l.log)) ≡ moment_at l.call (reverse l.log)
