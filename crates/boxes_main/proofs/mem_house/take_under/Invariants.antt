use Rattle.std.proofs.Common.{◌≡◌, ◌++◌, take, drop}
use Rattle.boxes_main.specs.Disks.{disk_under, without}
use Rattle.boxes_main.proofs.mem_house.take_under.Given as goal

-- no disk so far has the name
abbrev pub invariant-loop-at : goal.invariant-loop-at
invariant-loop-at l =
    (l.disks.items ≡ l.initial.disks.items) × (disk_under l.name (drop l.at l.disks.items) ≡ disk_under l.name l.disks.items)
    × (take l.at l.disks.items ++ without l.name (drop l.at l.disks.items) ≡ without l.name l.disks.items)
