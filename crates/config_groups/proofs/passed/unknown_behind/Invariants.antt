use Rattle.std.proofs.Common.{◌≡◌, drop}
use Rattle.config_groups.specs.Passed.{unknown_behind}
use Rattle.config_groups.proofs.passed.unknown_behind.Given as goal

-- the count so far, and the variables that are left, give the count of all
abbrev pub invariant-loop-set : goal.invariant-loop-set
invariant-loop-set l = unknown_behind l.role l.fn.count l.group ≡ unknown_behind l.role l.count (drop l.set-index l.group)
