use Rattle.report_urls.specs.Report.{acked_report}
use Rattle.report_urls.proofs.UrlLemmas.{asked_url}
use Rattle.report_urls.proofs.url.acked_url.Goals as goal

pub returns : goal.returns
returns c =
    asked_url c.args.birth c.in_ok-report.report (acked_report c.args.acked.now) c.args.acked.now.message c.args.sms.now c.in_ok-filled.field-0 c.in_ok-filled.ensures c.in_ok-report.ensures
    c.if-not-is_asked.ensures
