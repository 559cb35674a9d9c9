use Rattle.std.proofs.Common.{arith, refl, ap, sym}
use Rattle.gate_model.specs.Gate.{model_of}
use Rattle.gate_model.proofs.WholeLemmas.{whole_as, whole-ends}
use Rattle.gate_model.proofs.gate.Gate.end_message.Goals as goal

pub invariant_of-self : goal.invariant_of-self
invariant_of-self c =
    record {
      whole =
          whole_as _ _ _ _ _ c.lower.ensures (ap (λ ps. record (model_of c.args.self.now) { waiting = ps }) c.in-Some.ensures.pairs)
          (whole-ends _ _ _ c.args.self.now.whole c.args.message c.in-Some.waiting (sym c.in-Some.ensures.was));
    }

pub returns-in-Some-clause-state : goal.returns-in-Some-clause-state
returns-in-Some-clause-state c =
    record {
      rules = refl;
      holds = ap (λ ps. record (model_of c.args.self.now) { waiting = ps }) c.in-Some.ensures.pairs;
      places = omega arith;
    }
