use Rattle.std.proofs.Common.{sym}
use Rattle.gate_model.proofs.NumberLemmas.{with_change-value, with_change-absent}
use Rattle.gate_model.proofs.gate.leases.put_lease.Goals as goal

pub returns-in-Some-clause-pairs : goal.returns-in-Some-clause-pairs
returns-in-Some-clause-pairs c =
    with_change-value 1 c.requires.rising.0 c.args.message (λ w. record w { lease = c.args.lease }) c.in-Some.held.now c.args.waiting.now.pairs c.requires.rising.1
    (sym c.in-Some.ensures.value)

pub returns-in-None-clause-pairs : goal.returns-in-None-clause-pairs
returns-in-None-clause-pairs c = sym (with_change-absent c.args.message (λ w. record w { lease = c.args.lease }) c.args.waiting.now.pairs (sym c.in-None.ensures.value))
