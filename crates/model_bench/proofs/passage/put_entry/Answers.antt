use Rattle.std.proofs.Common.{sym}
use Rattle.std.proofs.lemmas.Bool.{and_parts}
use Rattle.gate_model.specs.Gate.{model_of}
use Rattle.gate_model.proofs.SoundLaws.{timed_where_suits}
use Rattle.model_bench.proofs.passage.put_entry.Goals as goal

pub prepare-requires : goal.prepare-requires
prepare-requires c = record { timed = timed_where_suits (model_of c.args.gate.now) c.args.entry (and_parts _ _ (sym c.if-not-suits.ensures)).0 }
