use Rattle.std.proofs.Common.{◌≡◌, drop}
use Rattle.config_groups.specs.Roles.{whole_room}
use Rattle.config_groups.specs.Passed.{passed_in}
use Rattle.config_groups.proofs.passed.passed_of.Given as goal

-- the count so far, and the groups that are left, give the count of all
abbrev pub invariant-loop-group : goal.invariant-loop-group
invariant-loop-group l = passed_in whole_room 0 l.groups ≡ passed_in l.room l.count (drop l.group-index l.groups)
