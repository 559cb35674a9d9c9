use Rattle.std.proofs.Common.{arith, refl, ap}
use Rattle.gate_model.specs.Gate.{model_of}
use Rattle.gate_model.proofs.WholeLemmas.{whole_as, whole-answers}
use Rattle.gate_model.proofs.gate.Gate.end_arrivals.Goals as goal

pub invariant_of-self : goal.invariant_of-self
invariant_of-self c =
    record {
      whole =
          whole_as _ _ _ _ _ refl (ap (λ ps. record (model_of c.args.self.now) { arrivals = ps }) c.end_all.ensures)
          (whole-answers _ _ _ c.args.self.now.whole c.args.arrivals.now);
    }

pub returns-clause-state : goal.returns-clause-state
returns-clause-state c =
    record {
      rules = refl;
      holds = ap (λ ps. record (model_of c.args.self.now) { arrivals = ps }) c.end_all.ensures;
      places = omega arith;
    }
