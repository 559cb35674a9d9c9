use Rattle.std.proofs.Common.{arith, refl, ap, ◌+◌}
use Rattle.gate_model.specs.Gate.{model_of}
use Rattle.gate_model.specs.Fold.{counts_entry, arrives}
use Rattle.gate_model.proofs.NumberLemmas.{AllBelow-Rise}
use Rattle.gate_model.proofs.WholeLemmas.{whole_as, whole-arrives}
use Rattle.gate_model.proofs.gate.Gate.arrive.Goals as goal

pub push-requires-clause-above : goal.push-requires-clause-above
push-requires-clause-above c = AllBelow-Rise 1 (c.args.self.now.counts.last_arrival + 1) c.args.self.now.arrivals.pairs c.args.self.now.whole.order.arrivals

pub invariant_of-self : goal.invariant_of-self
invariant_of-self c =
    record {
      whole =
          whole_as _ _ _ _ _ refl (ap (λ ps. record (counts_entry (arrives c.args.sms (model_of c.args.self.now))) { arrivals = ps }) c.push.ensures.pairs)
          (whole-arrives _ _ _ c.args.self.now.whole c.args.sms c.requires.few);
    }

pub returns-clause-state : goal.returns-clause-state
returns-clause-state c =
    record {
      rules = refl;
      holds = ap (λ ps. record (counts_entry (arrives c.args.sms (model_of c.args.self.now))) { arrivals = ps }) c.push.ensures.pairs;
      places = omega arith;
    }
