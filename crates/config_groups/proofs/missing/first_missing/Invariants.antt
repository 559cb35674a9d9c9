use Rattle.std.proofs.Common.{◌≡◌, drop}
use Rattle.config_groups.specs.Roles.{whole_room}
use Rattle.config_groups.specs.Missing.{missing_in}
use Rattle.config_groups.proofs.missing.first_missing.Given as goal

-- no group so far lacks a variable
abbrev pub invariant-loop-group : goal.invariant-loop-group
invariant-loop-group l = missing_in whole_room 0 l.groups ≡ missing_in l.room l.number (drop l.group-index l.groups)
