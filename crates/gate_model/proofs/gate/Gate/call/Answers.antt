use Rattle.std.proofs.Common.{◌+◌, sym, subst}
use Rattle.gate_model.specs.Gate.{model_of, IsWhole}
use Rattle.gate_model.specs.State.{State}
use Rattle.gate_model.proofs.NumberLemmas.{AllBelow-Rise}
use Rattle.gate_model.proofs.WholeLemmas.{called_none, called_one, whole-calls}
use Rattle.gate_model.proofs.gate.Gate.call.Goals as goal

pub push-requires-clause-above : goal.push-requires-clause-above
push-requires-clause-above c = AllBelow-Rise 1 (c.args.self.now.counts.last_job + 1) c.args.self.now.jobs.pairs c.args.self.now.whole.order.jobs

pub invariant_of-self : goal.invariant_of-self
invariant_of-self c =
    let old = c.args.self.now in
    record {
      whole =
          subst (λ (s : State). IsWhole old.rules old.flight.items s)
          (sym (called_one (model_of old) c.args.url c.in-Some.url c.push.new.self.pairs c.in-Some.is c.push.ensures.pairs))
          (whole-calls _ _ _ c.args.self.now.whole c.args.url c.requires.counted);
    }

pub returns-in-Some-clause-state : goal.returns-in-Some-clause-state
returns-in-Some-clause-state c = called_one (model_of c.args.self.now) c.args.url c.in-Some.url c.push.new.self.pairs c.in-Some.is c.push.ensures.pairs

pub returns-in_default-clause-state : goal.returns-in_default-clause-state
returns-in_default-clause-state c = called_none (model_of c.args.self.now) c.args.url c.in_default.is
