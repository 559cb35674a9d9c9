use Rattle.std.proofs.Common.{refl, sym, ◌∙◌}
use Rattle.gate_model.specs.Gate.{model_of}
use Rattle.gate_model.proofs.AwaitedLemmas.{becomes_same}
use Rattle.gate_model.proofs.RecordingLemmas.{heard_none}
use Rattle.gate_model.proofs.gate.Gate.hear_report.Goals as goal

pub returns-else-is_matched-clause-state : goal.returns-else-is_matched-clause-state
returns-else-is_matched-clause-state c =
    becomes_same _ _ _ _ (heard_none c.args.reported.now (model_of c.args.self.now) _ (sym c.is_matched.ensures ∙ c.if-is_matched.false) refl) c.miss.ensures
