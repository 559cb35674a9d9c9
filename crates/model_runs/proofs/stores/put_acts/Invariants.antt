use Rattle.gate_model.specs.Gate.{HaveIds}
use Rattle.gate_store.specs.Store.{IsOpen, rules_in}
use Rattle.model_runs.proofs.stores.put_acts.Given as goal

-- it is a store still, whose links have their ids
abbrev pub invariant-loop : goal.invariant-loop
invariant-loop g l = IsOpen g.D.Disk.meaning l.store × HaveIds (rules_in l.store)
