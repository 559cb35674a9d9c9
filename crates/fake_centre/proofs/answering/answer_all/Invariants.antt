use Rattle.std.proofs.Common.{◌≤◌, length}
use Rattle.fake_centre.specs.Saying.{AreFrames}
use Rattle.fake_centre.proofs.answering.answer_all.Given as goal

-- what was said are frames, and no more is left than was heard
abbrev pub invariant-loop : goal.invariant-loop
invariant-loop l = AreFrames l.into × (length l.rest ≤ length l.octets)
