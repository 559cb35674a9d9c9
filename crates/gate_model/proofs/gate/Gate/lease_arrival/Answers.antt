use Rattle.std.proofs.Common.{arith, refl, ap}
use Rattle.gate_model.specs.Gate.{model_of}
use Rattle.gate_model.proofs.WholeLemmas.{whole_as, whole-leases_arrival}
use Rattle.gate_model.proofs.gate.Gate.lease_arrival.Goals as goal

pub invariant_of-self : goal.invariant_of-self
invariant_of-self c =
    record {
      whole =
          whole_as _ _ _ _ _ refl (ap (λ ps. record (model_of c.args.self.now) { arrivals = ps }) c.put_arrival_lease.ensures)
          (whole-leases_arrival _ _ _ c.args.self.now.whole c.args.arrival c.args.leased);
    }

pub returns : goal.returns
returns c =
    record {
      rules = refl;
      holds = ap (λ ps. record (model_of c.args.self.now) { arrivals = ps }) c.put_arrival_lease.ensures;
      places = omega arith;
    }
