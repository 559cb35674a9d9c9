use Rattle.std.proofs.Common.{rules, ℕ, ◌+◌, ◌-◌, ◌/◌, ◌%◌, List, [], ◌∷◌, ◌++◌, append_assoc, sym, ap, ◌∙◌}
use Rattle.std.proofs.lemmas.List.{append-nil}
use Rattle.exact_text.specs.Text.{decimal}
use Rattle.exact_text.proofs.Readers.{digits_none, digits_some}
use Rattle.exact_text.proofs.decimal.+put_decimal.Goals as goal

pub returns-then-width-eq0-clause-ok : goal.returns-then-width-eq0-clause-ok
returns-then-width-eq0-clause-ok t c = sym (append-nil c.args.into.now) ∙ ap (λ (t : List ℕ). c.args.into.now ++ t) (sym (digits_none c.args.width c.args.number c.if-width-eq0.true))

pub returns-clause-ok : goal.returns-clause-ok
returns-clause-ok t c =
    rw (digits_some c.args.width c.args.number c.if-width-eq0.false, ← append_assoc c.args.into.now (decimal (c.args.width - 1) (c.args.number / 10)) ((48 + c.args.number % 10) ∷ [])) (search rules)
