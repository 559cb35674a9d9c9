use Rattle.url_escapes.proofs.Expansions.{Continues}
use Rattle.url_escapes.proofs.expansion.expand.Given as goal

abbrev pub invariant-loop-octet : goal.invariant-loop-octet
invariant-loop-octet l = Continues l.facts l.style l.template l.text l.unused l.in_pair l.octet-index
