use Rattle.std.proofs.Common.{◌<◌, Some, None, sym, ◌∙◌, subst}
use Rattle.dlr_table.specs.Reports.{spare}
use Rattle.dlr_table.specs.declared.reports.Reports.{Reports}
use Rattle.gate_model.specs.Gate.{model_of}
use Rattle.gate_model.proofs.AwaitedLemmas.{awaits_nothing, becomes_both, becomes_same, room_if_awaited}
use Rattle.gate_model.proofs.RecordingLemmas.{acknowledged}
use Rattle.gate_model.proofs.gate.Gate.acknowledge.Goals as goal

pub await_report-requires : goal.await_report-requires
await_report-requires c =
    let acked = c.args.acked.now in
    record {
      room = λ asked. subst (λ (r : Reports). 0 < spare r acked.smsc acked.foreign) (sym c.take_out-sms.ensures.reports)
          (room_if_awaited acked (model_of c.args.self.now) c.in-Some.sms _ (sym c.in-Some.is ∙ c.take_out-sms.ensures.sms) c.requires.room asked);
    }

pub returns-in-Some-clause-state : goal.returns-in-Some-clause-state
returns-in-Some-clause-state c =
    let taken = c.take_out-sms.ensures.state in
    let waits = c.await_report.ensures in
    becomes_same _ _ _ _
    (sym waits.holds
    ∙ acknowledged c.args.acked.now (Some c.in-Some.sms) (model_of c.args.self.now) _ _ (sym c.in-Some.is ∙ c.take_out-sms.ensures.sms) taken.holds waits.holds)
    (becomes_both _ _ _ _ _ taken waits)

pub returns-in_default-clause-state : goal.returns-in_default-clause-state
returns-in_default-clause-state c =
    let taken = c.take_out-sms.ensures.state in
    becomes_same _ _ _ _
    (sym taken.holds
    ∙ acknowledged c.args.acked.now None (model_of c.args.self.now) _ _ (sym c.in_default.is ∙ c.take_out-sms.ensures.sms) taken.holds (awaits_nothing _ c.args.acked.now))
    taken
