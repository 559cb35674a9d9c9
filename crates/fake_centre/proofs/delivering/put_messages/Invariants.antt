use Rattle.fake_centre.specs.Saying.{AreFrames}
use Rattle.fake_centre.proofs.delivering.put_messages.Given as goal

abbrev pub invariant-loop-sms : goal.invariant-loop-sms
invariant-loop-sms l = AreFrames l.into
