use Rattle.std.proofs.Common.{◌≡◌, drop}
use Rattle.config_groups.specs.Roles.{whole_room}
use Rattle.config_groups.specs.Faults.{fault_in}
use Rattle.config_groups.proofs.fault.first_fault.Given as goal

-- no group so far has a fault
abbrev pub invariant-loop-group : goal.invariant-loop-group
invariant-loop-group l = fault_in whole_room l.groups ≡ fault_in l.room (drop l.group-index l.groups)
