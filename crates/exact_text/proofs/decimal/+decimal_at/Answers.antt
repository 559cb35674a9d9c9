use Rattle.std.proofs.Common.{rules}
use Rattle.exact_text.proofs.Readers.{decimal_none, decimal_some}
use Rattle.exact_text.proofs.decimal.+decimal_at.Goals as goal

pub returns-then-width-eq0-clause-gives : goal.returns-then-width-eq0-clause-gives
returns-then-width-eq0-clause-gives t c = decimal_none c.args.width c.args.least c.args.most c.args.octets.now c.if-width-eq0.true

pub returns-in_err-high-clause-gives : goal.returns-in_err-high-clause-gives
returns-in_err-high-clause-gives t c = rw (decimal_some c.args.width c.args.least c.args.most c.args.octets.now c.if-width-eq0.false) (search rules)

pub returns-in_err-number-clause-gives : goal.returns-in_err-number-clause-gives
returns-in_err-number-clause-gives t c = rw (decimal_some c.args.width c.args.least c.args.most c.args.octets.now c.if-width-eq0.false) (search rules)

pub returns-clause-gives : goal.returns-clause-gives
returns-clause-gives t c = rw (decimal_some c.args.width c.args.least c.args.most c.args.octets.now c.if-width-eq0.false) (search rules)
