use Rattle.fake_centre.specs.Saying.{AreFrames}
use Rattle.fake_centre.proofs.delivering.put_reports.Given as goal

abbrev pub invariant-loop-behind : goal.invariant-loop-behind
invariant-loop-behind l = AreFrames l.into
