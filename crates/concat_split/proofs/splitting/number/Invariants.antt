use Rattle.concat_split.proofs.Texts.{Numbering}
use Rattle.concat_split.proofs.splitting.number.Given as goal

abbrev pub invariant-loop-i : goal.invariant-loop-i
invariant-loop-i l = Numbering l.fn.parts.items l.parts.items l.i
