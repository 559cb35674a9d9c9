use Rattle.std.proofs.Common.{◌≡◌, drop}
use Rattle.config_groups.specs.Faults.{text_room}
use Rattle.config_groups.proofs.fault.text_room.Given as goal

-- the room so far is what the texts so far leave
abbrev pub invariant-loop-at : goal.invariant-loop-at
invariant-loop-at l = text_room l.role l.group 31 0 l.group ≡ text_room l.role l.group l.room l.at (drop l.at l.group)
