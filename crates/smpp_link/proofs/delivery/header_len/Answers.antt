use Rattle.std.proofs.Common.{◌≡◌, false, Result, Ok, Err, IfOk, ◌+◌, sym, ap, ◌∙◌, arith, inl, inr}
use Rattle.std.specs.Result.{is_err}
use Rattle.std.proofs.lemmas.Bool.{false≢true}
use Rattle.smpp_link.proofs.Headers.{no_octets_parted, no_header_by, no_header_at, header_there}
use Rattle.smpp_link.proofs.delivery.header_len.Goals as goal

-- what an answer that is no fault says
said_well : {X E : Type 0} (r : Result X E) (P : Type 0) → is_err r ≡ false → IfOk r (λ x. P) → P
said_well (Ok x) P well is = is
said_well (Err e) P well is = absurd (false≢true (sym well))

pub returns-in_default-clause-parts : goal.returns-in_default-clause-parts
returns-in_default-clause-parts c = no_octets_parted c.args.octets.now (λ i. omega (arith, c.type_inv.octets i)) (omega arith)

pub returns-then-len-from-clause-parts : goal.returns-then-len-from-clause-parts
returns-then-len-from-clause-parts c = no_header_by c.args.octets.now (λ i. omega (arith, c.type_inv.octets i)) (inl (omega arith))

pub returns-then-len-octets-clause-parts : goal.returns-then-len-octets-clause-parts
returns-then-len-octets-clause-parts c = no_header_by c.args.octets.now (λ i. omega (arith, c.type_inv.octets i)) (inr (omega arith))

pub returns-then-is_err-clause-parts : goal.returns-then-is_err-clause-parts
returns-then-is_err-clause-parts c =
    no_header_at c.args.octets.now (c.from-len.result + 1) (λ i. omega (arith, c.type_inv.octets i)) (omega arith)
    (λ es e. false≢true (sym (ap is_err (c.read_udh.ensures.read es e)) ∙ sym c.is_err.ensures.value ∙ c.if-is_err.true))

pub returns-clause-parts : goal.returns-clause-parts
returns-clause-parts c =
    header_there c.args.octets.now (c.from-len.result + 1) (omega arith) (omega arith) (omega arith)
    (said_well c.read_udh.result _ (sym c.is_err.ensures.value ∙ c.if-is_err.false) c.read_udh.ensures.ok)
