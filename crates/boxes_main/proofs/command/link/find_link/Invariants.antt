use Rattle.std.proofs.Common.{take}
use Rattle.boxes_main.specs.Link.{HasNone}
use Rattle.boxes_main.proofs.command.link.find_link.Given as goal

-- no link so far has the id
abbrev pub invariant-loop-at : goal.invariant-loop-at
invariant-loop-at l = HasNone l.id (take l.at l.links)
