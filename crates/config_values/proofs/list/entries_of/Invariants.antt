use Rattle.std.proofs.Common.{◌≡◌, map, filter}
use Rattle.config_values.specs.Values.{is_filled}
use Rattle.config_values.proofs.list.entries_of.Given as goal

-- the entries so far
abbrev pub invariant-loop-entry : goal.invariant-loop-entry
invariant-loop-entry l = l.entries ≡ filter is_filled (map (λ x. x.now) l.yielded)
