use Rattle.std.proofs.Common.{arith, length-drop}
use Rattle.std.proofs.lemmas.List.{take_rest}
use Rattle.kn_base.proofs.Talks.{SaysAll-more}
use Rattle.kn_base.proofs.writing.write_all.Goals as goal

pub loop-gone-preserved : goal.loop-gone-preserved
loop-gone-preserved g c =
    let says = rw take_rest at c.in-Took.ensures in (
      omega (arith, length-drop c.loop-gone.gone c.args.bytes.now, says.within),
      SaysAll-more c.args.bytes.now c.loop-gone.gone c.in-Took.taken _ _ _ c.loop-gone.invariant.1 says,
    )
