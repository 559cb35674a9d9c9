use Rattle.gate_model.specs.Gate.{model_of}
use Rattle.gate_model.proofs.SoundLaws.{timed_where_suits}
use Rattle.model_runs.proofs.acts.put_prepared.Goals as goal

pub prepare-requires : goal.prepare-requires
prepare-requires c = record { timed = timed_where_suits (model_of c.args.gate.now) c.args.entry c.requires.sound.1 }
