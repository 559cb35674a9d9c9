use Rattle.std.proofs.Common.{◌<◌, sym, ap, subst}
use Rattle.gate_model.specs.Fold.{counts_entry}
use Rattle.gate_model.specs.Lawful.{most_entries}
use Rattle.gate_model.specs.State.{State}
use Rattle.gate_model.proofs.AwaitedLemmas.{becomes_both, becomes_same}
use Rattle.gate_model.proofs.gate.Gate.hear_last.Goals as goal

pub count_entry-requires : goal.count_entry-requires
count_entry-requires c = record { few = subst (λ (s : State). s.entries < most_entries) (sym c.close_report.ensures.holds) c.requires.few }

pub returns : goal.returns
returns c =
    let closed = c.close_report.ensures in
    becomes_same _ _ _ _ (ap counts_entry closed.holds) (becomes_both _ _ _ _ _ closed c.count_entry.ensures)
