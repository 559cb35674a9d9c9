use Rattle.std.proofs.Common.{◌∙◌, ap, arith, ◌/◌}
use Rattle.jiff_core.specs.declared.civil.date.Date.{Date}
use Rattle.url_escapes.proofs.Dates.{clock_is, year_below}
use Rattle.url_escapes.proofs.date.date_at.Goals as goal

pub returns-clause-year : goal.returns-clause-year
returns-clause-year c =
    ap (λ (date : Date). date.year) c.date.ensures
    ∙ (clock_is c.args.time _ c.to_datetime.result c.requires (rw c.unwrap-at.ensures at c.from_second.ensures.value) c.to_datetime.ensures).0

pub returns-clause-month : goal.returns-clause-month
returns-clause-month c =
    ap (λ (date : Date). date.month) c.date.ensures
    ∙ (clock_is c.args.time _ c.to_datetime.result c.requires (rw c.unwrap-at.ensures at c.from_second.ensures.value) c.to_datetime.ensures).1

pub returns-clause-day : goal.returns-clause-day
returns-clause-day c =
    ap (λ (date : Date). date.day) c.date.ensures
    ∙ (clock_is c.args.time _ c.to_datetime.result c.requires (rw c.unwrap-at.ensures at c.from_second.ensures.value) c.to_datetime.ensures).2

pub returns-clause-four : goal.returns-clause-four
returns-clause-four c = year_below (c.args.time / 86400) (omega (arith, c.requires))
