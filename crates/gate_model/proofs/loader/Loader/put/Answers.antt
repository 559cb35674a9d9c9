use Rattle.std.proofs.Common.{sym}
use Rattle.std.proofs.lemmas.Bool.{and_parts}
use Rattle.gate_model.proofs.LoadingLemmas.{outside}
use Rattle.gate_model.proofs.SoundLaws.{timed_where_suits}
use Rattle.gate_model.specs.Loading.{loaded}
use Rattle.gate_model.proofs.loader.Loader.put.Goals as goal

pub returns-then-not-suits-clause-outside : goal.returns-then-not-suits-clause-outside
returns-then-not-suits-clause-outside c =
    let found = c.in_ok-entry.ensures.found in
    λ is. outside c.args.payload.now (loaded c.args.self.now) c.in_ok-entry.entry found.0 found.1 (sym c.if-not-suits.ensures)

pub prepare-requires : goal.prepare-requires
prepare-requires c = record { timed = timed_where_suits (loaded c.args.self.now) c.in_ok-entry.entry (and_parts _ _ (sym c.if-not-suits.ensures)).0 }
