use Rattle.std.proofs.Common.{◌≡◌, drop, map}
use Rattle.config_groups.specs.Table.{plain}
use Rattle.config_groups.specs.Faults.{range_in}
use Rattle.config_groups.proofs.fault.range_in.Given as goal

-- no row so far is of such a group and has the name
abbrev pub invariant-loop-at : goal.invariant-loop-at
invariant-loop-at l = range_in l.role l.name (map plain l.rows) ≡ range_in l.role l.name (map plain (drop l.at l.rows))
