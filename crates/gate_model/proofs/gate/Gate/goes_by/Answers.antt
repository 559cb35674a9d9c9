use Rattle.std.proofs.Common.{length, ap, ◌∙◌}
use Rattle.gate_model.proofs.WholeLemmas.{length-flights}
use Rattle.gate_model.proofs.gate.Gate.goes_by.Goals as goal

pub assign-requires-clause-flights : goal.assign-requires-clause-flights
assign-requires-clause-flights c = ap length c.deref-2.ensures.value ∙ length-flights _ _ _ c.args.self.now.whole
