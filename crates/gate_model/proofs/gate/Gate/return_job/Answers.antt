use Rattle.std.proofs.Common.{refl, ap, arith}
use Rattle.gate_model.specs.Gate.{model_of}
use Rattle.gate_model.proofs.NumberLemmas.{Rise-with_change}
use Rattle.gate_model.proofs.WholeLemmas.{whole_as, whole-jobs}
use Rattle.gate_model.proofs.gate.Gate.return_job.Goals as goal

pub invariant_of-self : goal.invariant_of-self
invariant_of-self c =
    let room = c.put_returned.ensures.room in
    record {
      whole =
          whole_as _ _ _ _ _ refl (ap (λ ps. record (model_of c.args.self.now) { jobs = ps }) c.put_returned.ensures.pairs)
          (whole-jobs _ _ _ c.args.self.now.whole _ (Rise-with_change _ _ c.args.job _ c.args.self.now.jobs.pairs c.args.self.now.whole.order.jobs));
    }

pub returns : goal.returns
returns c =
    let room = c.put_returned.ensures.room in
    record {
      rules = refl;
      holds = ap (λ ps. record (model_of c.args.self.now) { jobs = ps }) c.put_returned.ensures.pairs;
      places = omega (arith, room);
    }
