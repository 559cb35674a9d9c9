use Rattle.std.proofs.Common.{sym, ◌∙◌}
use Rattle.gate_model.specs.Gate.{model_of}
use Rattle.gate_model.proofs.AwaitedLemmas.{becomes_same}
use Rattle.gate_model.proofs.RecordingLemmas.{heard_last, heard_more}
use Rattle.gate_model.proofs.gate.Gate.hear_matched.Goals as goal

pub returns-then-is_last : goal.returns-then-is_last
returns-then-is_last c =
    becomes_same _ _ _ _ (heard_last c.args.reported.now (model_of c.args.self.now) c.requires.some (sym c.is_last.ensures ∙ c.if-is_last.true)) c.hear_last.ensures

pub returns-else-is_last : goal.returns-else-is_last
returns-else-is_last c =
    becomes_same _ _ _ _ (heard_more c.args.reported.now (model_of c.args.self.now) c.requires.some (sym c.is_last.ensures ∙ c.if-is_last.false)) c.count_entry.ensures
