use Rattle.std.proofs.Common.{◌≡◌, sym, ap, ◌∙◌, subst}
use Rattle.std.specs.Prelude.{IfOk, option_copied}
use Rattle.std.specs.Option.{option_and_then}
use Rattle.report_urls.specs.Report.{acked_report}
use Rattle.report_urls.specs.ReportUrl.{report_url}
use Rattle.gate_model.proofs.gate.Gate.url_of_acked.Goals as goal

pub returns-in-Some : goal.returns-in-Some
returns-in-Some c =
    let acked = c.args.acked.now in
    subst (λ o. IfOk c.acked_url.result (λ url. url ≡ option_and_then (report_url c.args.birth (acked_report acked) acked.message) o))
    (sym (ap option_copied c.in-Some.is) ∙ c.sms.ensures) c.acked_url.ensures

pub returns-in-None : goal.returns-in-None
returns-in-None c =
    let acked = c.args.acked.now in
    sym (ap (option_and_then (report_url c.args.birth (acked_report acked) acked.message)) (sym c.sms.ensures ∙ ap option_copied c.in-None.is))
