use Rattle.std.proofs.Common.{refl, ap}
use Rattle.gate_model.specs.Gate.{model_of}
use Rattle.gate_model.proofs.NumberLemmas.{Rise-without}
use Rattle.gate_model.proofs.WholeLemmas.{whole_as, whole-jobs}
use Rattle.gate_model.proofs.gate.Gate.end_job.Goals as goal

pub invariant_of-self : goal.invariant_of-self
invariant_of-self c =
    record {
      whole =
          whole_as _ _ _ _ _ refl (ap (λ ps. record (model_of c.args.self.now) { jobs = ps }) c.end.ensures.pairs)
          (whole-jobs _ _ _ c.args.self.now.whole _ (Rise-without _ _ c.args.job c.args.self.now.jobs.pairs c.args.self.now.whole.order.jobs));
    }

pub returns : goal.returns
returns c =
    record {
      rules = refl;
      holds = ap (λ ps. record (model_of c.args.self.now) { jobs = ps }) c.end.ensures.pairs;
      places = c.end.ensures.room;
    }
