use Rattle.std.proofs.Common.{◌≡◌, ◌≤◌, ◌+◌, length}
use Rattle.config_lines.specs.Line.{before_blanks}
use Rattle.config_lines.proofs.line.before_blanks.Given as goal

-- what was left off so far are blanks at the end
abbrev pub invariant-loop : goal.invariant-loop
invariant-loop l = record {
  same : before_blanks l.octets ≡ before_blanks l.rest;
  left : length l.rest + l.counter ≤ l.end;
}
