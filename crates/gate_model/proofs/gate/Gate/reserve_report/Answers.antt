use Rattle.std.proofs.Common.{◌≡◌, ◌<◌, true, false, refl, sym, ◌∙◌, subst}
use Rattle.gate_model.specs.Gate.{model_of}
use Rattle.dlr_table.specs.Reports.{spare}
use Rattle.gate_model.proofs.AwaitedLemmas.{same_state, on_ok_weaker}
use Rattle.gate_model.proofs.gate.Gate.reserve_report.Goals as goal

pub returns-then-is_report_awaited-clause-room : goal.returns-then-is_report_awaited-clause-room
returns-then-is_report_awaited-clause-room c =
    on_ok_weaker c.reserve.result _ _
    (λ room asked. subst (λ s. 0 < spare c.reserve.new.self s c.args.acked.now.foreign) c.as_slice-smsc.ensures
    (subst (λ f. 0 < spare c.reserve.new.self c.as_slice-smsc.result.now f) c.as_slice-foreign.ensures room))
    c.reserve.ensures.ok

pub returns-then-is_report_awaited-clause-state : goal.returns-then-is_report_awaited-clause-state
returns-then-is_report_awaited-clause-state c = record {
  rules = refl;
  holds = same_state (model_of c.args.self.now) c.args.self.now.reports c.reserve.new.self c.reserve.ensures.lists c.reserve.ensures.count;
}

pub returns-else-is_report_awaited-clause-room : goal.returns-else-is_report_awaited-clause-room
returns-else-is_report_awaited-clause-room c = λ asked.
    absurd (let contrary : true ≡ false = sym asked ∙ sym c.is_report_awaited.ensures ∙ c.if-is_report_awaited.false in cc)
