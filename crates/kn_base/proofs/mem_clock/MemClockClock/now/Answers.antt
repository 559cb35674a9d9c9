use Rattle.std.proofs.Common.{arith, ◌∙◌, ap, slice_index}
use Rattle.kn_base.proofs.Clocks.{reads_next}
use Rattle.kn_base.proofs.mem_clock.MemClockClock.now.Goals as goal

pub invariant_of-self : goal.invariant_of-self
invariant_of-self c =
    let clock = c.args.self.now in
    let reads = reads_next clock.answers.items clock.reads c.raised-self.result c.answer_at-answer.result clock.latest c.max-self.result (omega arith)
    (c.answer_at-answer.ensures ∙ ap (λ xs. slice_index xs clock.reads) c.deref.ensures.value) clock.is_greatest (omega arith) c.raised-self.ensures.value in
    record { in_range = omega arith; is_greatest = reads.1 }
