use Rattle.std.proofs.Common.{refl, ap, arith}
use Rattle.gate_model.specs.Gate.{model_of}
use Rattle.gate_model.proofs.WholeLemmas.{whole_as, few_in_flight, some_value_and, whole-taken}
use Rattle.gate_model.proofs.gate.Gate.take_message.Goals as goal

pub raise-requires : goal.raise-requires
raise-requires c =
    let few = few_in_flight _ _ _ c.args.self.now.whole c.args.link in
    record { few = omega (arith, few) }

pub invariant_of-self : goal.invariant_of-self
invariant_of-self c =
    let held = some_value_and _ _ c.requires.free in
    record {
      whole =
          whole_as _ _ _ _ _ c.raise.ensures (ap (λ ps. record (model_of c.args.self.now) { waiting = ps }) c.put_lease.ensures.pairs)
          (whole-taken _ _ _ c.args.self.now.whole c.args.message c.args.link held.0 held.1 held.2);
    }

pub returns : goal.returns
returns c =
    record {
      rules = refl;
      holds = ap (λ ps. record (model_of c.args.self.now) { waiting = ps }) c.put_lease.ensures.pairs;
      places = omega arith;
    }
