use Rattle.std.proofs.Common.{rules, arith}
use Rattle.kn_base.proofs.Decimals.{no_number, one_more}
use Rattle.kn_base.proofs.decimal.read_decimal.Goals as goal

pub returns-in-None-clause-some : goal.returns-in-None-clause-some
returns-in-None-clause-some c =
    let never = no_number c.args.text.now c.loop-octet.octet-index c.loop-octet.value c.args.most (omega arith) c.loop-octet.invariant.1 (omega arith) c.in-None.ensures in
    (λ some. absurd (search rules), λ number. absurd (never number))

pub loop-octet-preserved : goal.loop-octet-preserved
loop-octet-preserved c =
    let more = one_more c.args.text.now c.loop-octet.octet-index c.loop-octet.value (omega arith) c.loop-octet.invariant.0 c.loop-octet.invariant.1 c.in-Some.ensures.0.0 in
    (more.0, omega (arith, more.1, c.in-Some.ensures.1))
