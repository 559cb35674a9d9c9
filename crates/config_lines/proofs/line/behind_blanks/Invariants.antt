use Rattle.std.proofs.Common.{◌≡◌, drop}
use Rattle.config_lines.specs.Line.{behind_blanks}
use Rattle.config_lines.proofs.line.behind_blanks.Given as goal

-- the octets so far are blanks
abbrev pub invariant-loop-at : goal.invariant-loop-at
invariant-loop-at l = behind_blanks l.octets ≡ behind_blanks (drop l.at l.octets)
