use Rattle.std.proofs.Common.{◌≡◌, false, drop}
use Rattle.config_lines.specs.Line.{quoted}
use Rattle.config_lines.proofs.Quotes.{behind_read}
use Rattle.config_lines.proofs.value.quoted.Given as goal

-- the value so far, and what is left of the text
abbrev pub invariant-loop-at : goal.invariant-loop-at
invariant-loop-at l = behind_read l.value (quoted l.escaping (drop l.at l.text)) ≡ quoted false l.text
