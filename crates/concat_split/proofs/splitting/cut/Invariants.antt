use Rattle.concat_split.proofs.Texts.{Cutting}
use Rattle.concat_split.proofs.splitting.cut.Given as goal

abbrev pub invariant-loop-left : goal.invariant-loop-left
invariant-loop-left l = Cutting l.coding l.room l.limits l.body l.parts.items l.rest l.left

abbrev pub decreases-loop-left : goal.decreases-loop-left
decreases-loop-left l = l.left
