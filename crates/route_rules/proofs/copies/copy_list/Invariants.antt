use Rattle.std.proofs.Common.{◌≡◌, take}
use Rattle.route_rules.proofs.copies.copy_list.Given as goal

-- the copies so far
abbrev pub invariant-loop-entry : goal.invariant-loop-entry
invariant-loop-entry l = l.copies ≡ take l.entry-index l.list
