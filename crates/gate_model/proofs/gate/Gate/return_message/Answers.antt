use Rattle.std.proofs.Common.{arith, refl, ap, ◌∙◌}
use Rattle.gate_model.specs.Gate.{model_of}
use Rattle.std.specs.Option.{option_and_then}
use Rattle.gate_model.specs.Links.{lowered}
use Rattle.gate_model.proofs.WholeLemmas.{whole_as, some_value, whole-returned}
use Rattle.gate_model.proofs.gate.Gate.return_message.Goals as goal

pub invariant_of-self : goal.invariant_of-self
invariant_of-self c =
    let held = some_value _ c.requires.held in
    record {
      whole =
          whole_as _ _ _ _ _ (c.lower.ensures ∙ ap (λ lease. lowered lease c.args.self.now.flight.items) (c.put_lease-was.ensures.was ∙ ap (option_and_then (λ w. w.lease)) held.1)) (ap (λ ps. record (model_of c.args.self.now) { waiting = ps }) c.put_lease-was.ensures.pairs)
          (whole-returned _ _ _ c.args.self.now.whole c.args.message held.0 held.1);
    }

pub returns : goal.returns
returns c =
    record {
      rules = refl;
      holds = ap (λ ps. record (model_of c.args.self.now) { waiting = ps }) c.put_lease-was.ensures.pairs;
      places = omega arith;
    }
