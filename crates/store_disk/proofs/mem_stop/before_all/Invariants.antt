use Rattle.std.proofs.Common.{◌≡◌, ◌-◌, length, take, reverse}
use Rattle.store_disk.specs.Stop.{octets_through}
use Rattle.store_disk.proofs.mem_stop.before_all.Given as goal

-- going on from here gives what going over all gives
abbrev pub invariant-loop-i : goal.invariant-loop-i
invariant-loop-i l = octets_through l.area (reverse (take (length l.log - l.i) l.log)) l.before ≡ octets_through l.area (reverse l.log) l.initial.before
