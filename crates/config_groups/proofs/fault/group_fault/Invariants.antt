use Rattle.std.proofs.Common.{◌≡◌, drop}
use Rattle.config_groups.specs.Faults.{group_fault, fault_from}
use Rattle.config_groups.proofs.fault.group_fault.Given as goal

-- no variable so far has a fault
abbrev pub invariant-loop-at : goal.invariant-loop-at
invariant-loop-at l = group_fault l.role l.group ≡ fault_from l.role l.group l.at (drop l.at l.group)
