use Rattle.std.proofs.Common.{◌<◌, refl, sym, ap, ◌∙◌, subst, arith}
use Rattle.dlr_table.specs.Reports.{under, count_of, spare}
use Rattle.dlr_table.specs.declared.awaited.Awaited.{Awaited}
use Rattle.sms_record.specs.declared.sms.Sms.{Sms}
use Rattle.gate_model.specs.Gate.{model_of}
use Rattle.gate_model.proofs.AwaitedLemmas.{await_by, await_none, on_ok}
use Rattle.gate_model.proofs.WholeLemmas.{whole_as, whole-awaited}
use Rattle.gate_model.proofs.gate.Gate.await_report.Goals as goal

pub invariant_of-self : goal.invariant_of-self
invariant_of-self c =
    let old = c.args.self.now in
    let acked = c.args.acked.now in
    let asked = sym c.is_awaited.ensures ∙ c.if-is_awaited.true in
    let room = subst (λ s. 0 < spare old.reports s c.as_slice-foreign.result.now) (sym c.as_slice-smsc.ensures)
    (subst (λ f. 0 < spare old.reports acked.smsc f) (sym c.as_slice-foreign.ensures) (c.requires.room asked)) in
    let is_ok = c.add.ensures.succeeds room in
    let awaited : Awaited = record { message = acked.message; sms = c.without_body-kept.result } in
    record {
      whole =
          whole_as _ _ _ _ _ refl (await_by (model_of old) acked c.args.sms c.as_slice-smsc.result.now c.as_slice-foreign.result.now (under c.add.new.self) (count_of c.add.new.self) awaited
          c.as_slice-smsc.ensures c.as_slice-foreign.ensures asked (ap (λ (s : Sms). record awaited { sms = s }) c.without_body-kept.ensures)
          (on_ok c.add.result _ is_ok c.add.ensures.ok) c.add.ensures.others (on_ok c.add.result _ is_ok c.add.ensures.count))
          (whole-awaited _ _ _ c.args.self.now.whole _ _);
    }

pub returns-then-is_awaited : goal.returns-then-is_awaited
returns-then-is_awaited c =
    let old = c.args.self.now in
    let acked = c.args.acked.now in
    let asked = sym c.is_awaited.ensures ∙ c.if-is_awaited.true in
    let room = subst (λ s. 0 < spare old.reports s c.as_slice-foreign.result.now) (sym c.as_slice-smsc.ensures)
    (subst (λ f. 0 < spare old.reports acked.smsc f) (sym c.as_slice-foreign.ensures) (c.requires.room asked)) in
    let is_ok = c.add.ensures.succeeds room in
    let awaited : Awaited = record { message = acked.message; sms = c.without_body-kept.result } in
    record {
      rules = refl;
      holds = await_by (model_of old) acked c.args.sms c.as_slice-smsc.result.now c.as_slice-foreign.result.now (under c.add.new.self) (count_of c.add.new.self) awaited
          c.as_slice-smsc.ensures c.as_slice-foreign.ensures asked (ap (λ (s : Sms). record awaited { sms = s }) c.without_body-kept.ensures)
          (on_ok c.add.result _ is_ok c.add.ensures.ok) c.add.ensures.others (on_ok c.add.result _ is_ok c.add.ensures.count);
      places = omega arith;
    }

pub returns-else-is_awaited : goal.returns-else-is_awaited
returns-else-is_awaited c =
    record {
      rules = refl;
      holds = await_none (model_of c.args.self.now) c.args.acked.now c.args.sms (sym c.is_awaited.ensures ∙ c.if-is_awaited.false);
      places = omega arith;
    }
