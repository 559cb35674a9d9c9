use Rattle.std.proofs.Common.{length, ap, ◌∙◌}
use Rattle.gate_model.proofs.WholeLemmas.{length-flights}
use Rattle.gate_model.proofs.gate.Gate.is_queued.Goals as goal

pub assign-requires-clause-flights : goal.assign-requires-clause-flights
assign-requires-clause-flights c = ap length c.deref-in-len1-up.ensures.value ∙ length-flights _ _ _ c.args.self.now.whole
