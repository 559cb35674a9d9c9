use Rattle.std.proofs.Common.{◌≡◌, ◌∷◌, ap, length, arith}
use Rattle.std.specs.Vec.Iter.{into_iter_items}
use Rattle.gate_model.proofs.PutLemmas.{put-joined, put-above}
use Rattle.gate_model.proofs.gate.messages.put_messages.Goals as goal

pub loop-sms-preserved : goal.loop-sms-preserved
loop-sms-preserved c =
    let at = c.loop-sms in
    let took : into_iter_items at.sms-iterator ≡ c.in-Some.sms ∷ into_iter_items c.next.new.self = c.in-Some.ensures.steps.0 in
    let gone = c.in-Some.ensures.steps.1 in
    let short = ap length took in
    let room = at.invariant.room in
    let fits = at.invariant.fits in
    let len = at.invariant.len in
    let more = c.push.ensures.room in
    record {
      joined = put-joined at.waiting.pairs c.push.new.self.pairs at.number c.in-Some.sms c.push.ensures.pairs _ _ _ took at.invariant.joined;
      above = put-above at.waiting.pairs c.push.new.self.pairs at.number c.in-Some.sms c.push.ensures.pairs at.invariant.above;
      room = omega arith;
      fits = omega arith;
      len = omega arith;
    }
