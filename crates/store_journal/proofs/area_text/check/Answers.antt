use Rattle.std.proofs.Common.{List, ℕ, ap, sym, ◌∙◌, subst}
use Rattle.store_journal.specs.Area.{begins_closed, payloads_in, IsText}
use Rattle.store_journal.proofs.Texts.{text_read}
use Rattle.store_journal.proofs.area_text.check.Goals as goal

pub returns-clause-text : goal.returns-clause-text
returns-clause-text c =
    let octets = c.args.octets.now in
    let birth = c.in_ok-birth.birth in
    let rest = c.in_ok-birth.rest.now in
    subst (λ (l : List ℕ). IsText octets birth (payloads_in l)) (sym c.in_ok-birth.ensures.read.behind_header)
    (text_read octets birth rest c.in_ok-birth.ensures.read (sym (ap begins_closed c.in_ok-behind.ensures) ∙ sym c.is_closed.ensures ∙ c.if-not-is_closed.false))
