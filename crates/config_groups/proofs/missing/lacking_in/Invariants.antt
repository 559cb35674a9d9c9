use Rattle.std.proofs.Common.{◌≡◌, drop, map}
use Rattle.config_groups.specs.Table.{plain}
use Rattle.config_groups.specs.Missing.{lacking_in}
use Rattle.config_groups.proofs.missing.lacking_in.Given as goal

-- the group lacks none of the rows so far
abbrev pub invariant-loop-at : goal.invariant-loop-at
invariant-loop-at l = lacking_in l.role l.group (map plain l.rows) ≡ lacking_in l.role l.group (map plain (drop l.at l.rows))
