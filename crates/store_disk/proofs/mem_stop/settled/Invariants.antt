use Rattle.std.proofs.Common.{◌≡◌, ◌-◌, length, take, reverse}
use Rattle.store_disk.specs.Stop.{settled_in}
use Rattle.store_disk.proofs.mem_stop.settled.Given as goal

-- going on from here gives what going over all gives
abbrev pub invariant-loop-i : goal.invariant-loop-i
invariant-loop-i l = settled_in l.area (reverse (take (length l.log - l.i) l.log)) l.before ≡ settled_in l.area (reverse l.log) l.initial.before
