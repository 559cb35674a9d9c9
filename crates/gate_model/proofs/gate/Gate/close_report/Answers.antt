use Rattle.std.proofs.Common.{refl, sym, ap, ◌∙◌, subst, arith}
use Rattle.std.specs.Prelude.{IsSome}
use Rattle.dlr_table.specs.Reports.{under, count_of, oldest}
use Rattle.gate_model.specs.Gate.{model_of}
use Rattle.gate_model.proofs.AwaitedLemmas.{close_by, if_some}
use Rattle.gate_model.proofs.WholeLemmas.{whole_as, whole-awaited}
use Rattle.gate_model.proofs.gate.Gate.close_report.Goals as goal

pub invariant_of-self : goal.invariant_of-self
invariant_of-self c =
    let old = c.args.self.now in
    let reported = c.args.reported.now in
    let first = c.close.ensures.first ∙ ap (λ s. oldest (under old.reports s c.as_slice-foreign.result.now)) c.as_slice-smsc.ensures
    ∙ ap (λ f. oldest (under old.reports reported.smsc f)) c.as_slice-foreign.ensures in
    let there : IsSome c.close.result = subst (λ o. IsSome o) (sym first) c.requires.some in
    record {
      whole =
          whole_as _ _ _ _ _ refl (close_by (model_of old) reported c.as_slice-smsc.result.now c.as_slice-foreign.result.now (under c.close.new.self) (count_of c.close.new.self)
          c.as_slice-smsc.ensures c.as_slice-foreign.ensures c.close.ensures.rest c.close.ensures.others (if_some c.close.result _ there c.close.ensures.some))
          (whole-awaited _ _ _ c.args.self.now.whole _ _);
    }

pub returns : goal.returns
returns c =
    let old = c.args.self.now in
    let reported = c.args.reported.now in
    let first = c.close.ensures.first ∙ ap (λ s. oldest (under old.reports s c.as_slice-foreign.result.now)) c.as_slice-smsc.ensures
    ∙ ap (λ f. oldest (under old.reports reported.smsc f)) c.as_slice-foreign.ensures in
    let there : IsSome c.close.result = subst (λ o. IsSome o) (sym first) c.requires.some in
    record {
      rules = refl;
      holds = close_by (model_of old) reported c.as_slice-smsc.result.now c.as_slice-foreign.result.now (under c.close.new.self) (count_of c.close.new.self)
          c.as_slice-smsc.ensures c.as_slice-foreign.ensures c.close.ensures.rest c.close.ensures.others (if_some c.close.result _ there c.close.ensures.some);
      places = omega arith;
    }
