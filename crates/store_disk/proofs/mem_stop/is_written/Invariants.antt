use Rattle.std.proofs.Common.{◌≡◌, ◌-◌, length, take, reverse}
use Rattle.store_disk.specs.Stop.{is_among, ranges_in}
use Rattle.store_disk.proofs.mem_stop.is_written.Given as goal

-- the place was written in what is left or nowhere
abbrev pub invariant-loop-i : goal.invariant-loop-i
invariant-loop-i l = is_among (ranges_in l.area (reverse (take (length l.log - l.i) l.log))) l.place ≡ is_among (ranges_in l.area (reverse l.log)) l.place
