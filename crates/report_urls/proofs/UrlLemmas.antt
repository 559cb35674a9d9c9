-- The URL of a report that is asked for.
use Rattle.std.proofs.Common.{◌≡◌, ℕ, true, cond, List, Option, Some, None, ap, ◌∙◌}
use Rattle.std.specs.Prelude.{◌&&◌}
use Rattle.sms_record.specs.declared.sms.Sms.{Sms}
use Rattle.url_escapes.specs.Expansion.{expanded}
use Rattle.url_escapes.specs.Words.{is_filled}
use Rattle.url_escapes.specs.declared.style.Style.TheVariants.{Url}
use Rattle.report_urls.specs.ReportUrl.{asks_for, report_facts, report_url}
use Rattle.report_urls.specs.declared.report.Report.{Report}

-- where it is asked for, and there is a URL, it is that one with its escapes filled
pub asked_url : (birth : ℕ) (report known : Report) (number : ℕ) (sms : Sms) (url : List ℕ) → url ≡ expanded sms.url (report_facts birth report number sms) Url → report ≡ known
    → true ≡ (asks_for known.kind sms && is_filled sms.url) → Some url ≡ report_url birth known number sms
asked_url birth report known number sms url filled same asked =
    ap Some (filled ∙ ap (λ (r : Report). expanded sms.url (report_facts birth r number sms) Url) same)
    ∙ ap (λ b. cond b (Some (expanded sms.url (report_facts birth known number sms) Url)) None) asked
