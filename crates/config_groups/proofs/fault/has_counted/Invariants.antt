use Rattle.std.proofs.Common.{◌≡◌, ◌+◌, drop}
use Rattle.config_groups.specs.Faults.{has_counted}
use Rattle.config_groups.proofs.fault.has_counted.Given as goal

-- no text so far is counted
abbrev pub invariant-loop-behind : goal.invariant-loop-behind
invariant-loop-behind l = has_counted l.role l.group l.from (drop l.from l.group) ≡ has_counted l.role l.group (l.from + l.behind) (drop (l.from + l.behind) l.group)
