use Rattle.std.proofs.Common.{◌≡◌, drop}
use Rattle.http_text.specs.HeadSteps.{behind_blank}
use Rattle.http_text.proofs.head.lines.behind_blank.Given as goal

-- the octets so far are newlines
abbrev pub invariant-loop-i : goal.invariant-loop-i
invariant-loop-i l = behind_blank l.octets ≡ behind_blank (drop l.i l.octets)
