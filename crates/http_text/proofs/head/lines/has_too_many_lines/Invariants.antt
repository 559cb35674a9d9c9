use Rattle.std.proofs.Common.{◌≡◌, ◌+◌, drop}
use Rattle.http_text.specs.Head.{line_limit}
use Rattle.http_text.specs.HeadSteps.{behind_blank, begins_after}
use Rattle.http_text.proofs.head.lines.has_too_many_lines.Given as goal

-- what is left of the lines decides
abbrev pub invariant-loop-octet : goal.invariant-loop-octet
invariant-loop-octet l = begins_after (line_limit + 1) (behind_blank l.octets) ≡ begins_after l.left (drop l.octet-index l.lines)
