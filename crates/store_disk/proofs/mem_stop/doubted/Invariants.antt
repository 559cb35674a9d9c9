use Rattle.std.proofs.Common.{◌≡◌, map, reverse}
use Rattle.std.specs.List.{range_with_len}
use Rattle.store_disk.specs.Stop.{octet_left, ranges_in}
use Rattle.store_disk.proofs.mem_stop.doubted.Given as goal

-- the places so far
abbrev pub invariant-loop-place : goal.invariant-loop-place
invariant-loop-place l = l.left ≡ map (octet_left l.settled (ranges_in l.area (reverse l.log)) l.octet) (range_with_len 0 l.place)
