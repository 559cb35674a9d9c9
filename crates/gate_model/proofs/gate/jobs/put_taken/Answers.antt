use Rattle.std.proofs.Common.{true, sym}
use Rattle.gate_model.proofs.NumberLemmas.{with_change-value, with_change-absent}
use Rattle.gate_model.proofs.gate.jobs.put_taken.Goals as goal

pub returns-in-Some-clause-pairs : goal.returns-in-Some-clause-pairs
returns-in-Some-clause-pairs c =
    with_change-value 1 c.requires.rising.0 c.args.job (λ j. record j { leased = true }) c.in-Some.held.now c.args.jobs.now.pairs c.requires.rising.1 (sym c.in-Some.ensures.value)

pub returns-in_default-clause-pairs : goal.returns-in_default-clause-pairs
returns-in_default-clause-pairs c = sym (with_change-absent c.args.job (λ j. record j { leased = true }) c.args.jobs.now.pairs (sym c.in_default.ensures.value))
