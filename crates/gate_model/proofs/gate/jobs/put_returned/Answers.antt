use Rattle.std.proofs.Common.{◌+◌, false, sym, ap, ◌∙◌}
use Rattle.std.specs.Prelude.{min}
use Rattle.numbered_table.specs.Pairs.{with_value}
use Rattle.gate_model.specs.Fold.{most_returns}
use Rattle.gate_model.proofs.NumberLemmas.{with_change-value, with_change-absent}
use Rattle.gate_model.proofs.gate.jobs.put_returned.Goals as goal

pub returns-in-Some-clause-pairs : goal.returns-in-Some-clause-pairs
returns-in-Some-clause-pairs c =
    ap (λ n. with_value c.args.job (record c.in-Some.held.now { leased = false; returns = n }) c.args.jobs.now.pairs) c.saturating_add-held.ensures
    ∙ with_change-value 1 c.requires.rising.0 c.args.job (λ j. record j { leased = false; returns = min (j.returns + 1) most_returns }) c.in-Some.held.now c.args.jobs.now.pairs
    c.requires.rising.1 (sym c.in-Some.ensures.value)

pub returns-in_default-clause-pairs : goal.returns-in_default-clause-pairs
returns-in_default-clause-pairs c =
    sym (with_change-absent c.args.job (λ j. record j { leased = false; returns = min (j.returns + 1) most_returns }) c.args.jobs.now.pairs (sym c.in_default.ensures.value))
