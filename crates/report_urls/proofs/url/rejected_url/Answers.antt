use Rattle.report_urls.specs.Report.{rejected_report}
use Rattle.report_urls.proofs.UrlLemmas.{asked_url}
use Rattle.report_urls.proofs.url.rejected_url.Goals as goal

pub returns : goal.returns
returns c =
    asked_url c.args.birth c.in_ok-report.report (rejected_report c.args.rejected.now) c.args.rejected.now.message c.args.sms.now c.in_ok-filled.field-0 c.in_ok-filled.ensures c.in_ok-report.ensures
    c.if-not-is_asked.ensures
