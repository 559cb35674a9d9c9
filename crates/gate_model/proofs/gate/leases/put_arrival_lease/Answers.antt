use Rattle.std.proofs.Common.{sym}
use Rattle.gate_model.proofs.NumberLemmas.{with_change-value, with_change-absent}
use Rattle.gate_model.proofs.gate.leases.put_arrival_lease.Goals as goal

pub returns-in-Some : goal.returns-in-Some
returns-in-Some c =
    with_change-value 1 c.requires.rising.0 c.args.arrival (λ a. record a { leased = c.args.leased }) c.in-Some.held.now c.args.arrivals.now.pairs c.requires.rising.1
    (sym c.in-Some.ensures.value)

pub returns-in_default : goal.returns-in_default
returns-in_default c = sym (with_change-absent c.args.arrival (λ a. record a { leased = c.args.leased }) c.args.arrivals.now.pairs (sym c.in_default.ensures.value))
