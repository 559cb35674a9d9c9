use Rattle.std.proofs.Common.{◌≡◌, Option, sym, ap, ◌∙◌, subst}
use Rattle.std.specs.Prelude.{IfOk, option_copied}
use Rattle.std.specs.Option.{option_and_then}
use Rattle.dlr_table.specs.Reports.{oldest, under}
use Rattle.dlr_table.specs.declared.awaited.Awaited.{Awaited}
use Rattle.report_urls.specs.Report.{reported_report}
use Rattle.report_urls.specs.ReportUrl.{report_url}
use Rattle.gate_model.proofs.gate.Gate.url_of_reported.Goals as goal

pub returns-in-Some : goal.returns-in-Some
returns-in-Some c =
    let reports = c.args.self.now.reports in
    let reported = c.args.reported.now in
    subst (λ (o : Option Awaited). IfOk c.reported_url.result (λ url. url ≡ option_and_then (λ a. report_url c.args.birth (reported_report reported) a.message a.sms) o))
    (sym (ap option_copied c.in-Some.is) ∙ c.find.ensures ∙ ap (λ s. oldest (under reports s c.as_slice-foreign.result.now)) c.as_slice-smsc.ensures
    ∙ ap (λ f. oldest (under reports reported.smsc f)) c.as_slice-foreign.ensures)
    c.reported_url.ensures

pub returns-in-None : goal.returns-in-None
returns-in-None c =
    let reports = c.args.self.now.reports in
    let reported = c.args.reported.now in
    ap (option_and_then (λ (a : Awaited). report_url c.args.birth (reported_report reported) a.message a.sms))
    (sym (ap option_copied c.in-None.is) ∙ c.find.ensures ∙ ap (λ s. oldest (under reports s c.as_slice-foreign.result.now)) c.as_slice-smsc.ensures
    ∙ ap (λ f. oldest (under reports reported.smsc f)) c.as_slice-foreign.ensures)
