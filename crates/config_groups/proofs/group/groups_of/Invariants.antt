use Rattle.std.proofs.Common.{◌≡◌, ◌++◌, []}
use Rattle.std.specs.Vec.Iter.{into_iter_items}
use Rattle.config_groups.specs.Groups.{groups_behind}
use Rattle.config_groups.proofs.group.groups_of.Given as goal

-- the groups so far, and those that come of the sets so far and the lines that are left, are those of all lines
abbrev pub invariant-loop-placed : goal.invariant-loop-placed
invariant-loop-placed l = groups_behind [] l.fn.lines ≡ l.groups ++ groups_behind l.sets (into_iter_items l.placed-iterator)
