use Rattle.std.proofs.Common.{◌≤◌, length, All}
use Rattle.gate_entries.specs.Entry.{IsText}
use Rattle.model_runs.proofs.rules.links_of.Given as goal

-- there are no more than a case has, and each has an id that a record holds
abbrev pub invariant-loop : goal.invariant-loop
invariant-loop l = (length l.links ≤ 8) × All (λ rule. IsText rule.id) l.links
