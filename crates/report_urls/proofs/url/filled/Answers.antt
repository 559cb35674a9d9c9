use Rattle.std.proofs.Common.{◌≡◌, ℕ, List, IfOk, subst}
use Rattle.url_escapes.specs.Expansion.{expanded}
use Rattle.url_escapes.specs.declared.facts.Facts.{Facts}
use Rattle.url_escapes.specs.declared.style.Style.TheVariants.{Url}
use Rattle.report_urls.specs.ReportUrl.{report_facts}
use Rattle.report_urls.proofs.url.filled.Goals as goal

pub returns : goal.returns
returns c =
    subst (λ (text : List ℕ). IfOk c.expand.result (λ url. url ≡ expanded text (report_facts c.args.birth c.args.report c.args.number c.args.sms.now) Url)) c.as_slice.ensures
    (subst (λ (facts : Facts). IfOk c.expand.result (λ url. url ≡ expanded c.as_slice.result.now facts Url)) c.in_ok-facts.ensures c.expand.ensures)
