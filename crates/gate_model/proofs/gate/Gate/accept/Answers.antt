use Rattle.std.proofs.Common.{arith, refl, ◌+◌}
use Rattle.gate_model.specs.Gate.{model_of}
use Rattle.gate_model.proofs.NumberLemmas.{AllBelow-Rise}
use Rattle.gate_model.proofs.PutLemmas.{accepted-state}
use Rattle.gate_model.proofs.WholeLemmas.{whole_as, whole-accepts}
use Rattle.gate_model.proofs.gate.Gate.accept.Goals as goal

pub put_messages-requires-clause-above : goal.put_messages-requires-clause-above
put_messages-requires-clause-above c = AllBelow-Rise 1 (c.args.self.now.counts.last_message + 1) c.args.self.now.waiting.pairs c.args.self.now.whole.order.waiting

pub invariant_of-self : goal.invariant_of-self
invariant_of-self c =
    record {
      whole =
          whole_as _ _ _ _ _ refl (accepted-state (model_of c.args.self.now) c.args.parts c.into_vec.result.items c.put_messages.new.waiting.pairs c.len-count.result c.put_messages.ensures c.into_vec.ensures c.len-count.ensures)
          (whole-accepts _ _ _ c.args.self.now.whole c.args.parts c.requires.few c.requires.short);
    }

pub returns-clause-state : goal.returns-clause-state
returns-clause-state c =
    record {
      rules = refl;
      holds = accepted-state (model_of c.args.self.now) c.args.parts c.into_vec.result.items c.put_messages.new.waiting.pairs c.len-count.result c.put_messages.ensures c.into_vec.ensures c.len-count.ensures;
      places = omega arith;
    }
