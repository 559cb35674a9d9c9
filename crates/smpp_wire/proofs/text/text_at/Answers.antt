use Rattle.std.proofs.Common.{arith, ◌≡◌, ℕ, suc, ◌+◌, Ok, take, drop, sym, ap, ◌∙◌}
use Rattle.std.proofs.lemmas.List.{take_rest}
use Rattle.smpp_wire.specs.Room.{may_end, may_go_on}
use Rattle.smpp_wire.specs.Reading.{text_at}
use Rattle.smpp_wire.proofs.TextReading.{text_ends, text_ends_wrong, text_wrong, text_short}
use Rattle.smpp_wire.proofs.text.text_at.Goals as goal

pub returns-then-may_end-clause-gives : goal.returns-then-may_end-clause-gives
unfolding text_at
returns-then-may_end-clause-gives c =
    rw (take_rest c.args.octets.now (c.loop-index.index + 1))
    (text_ends (may_end c.args.sizes c.args.room c.args.left) (may_go_on c.args.sizes c.args.room c.args.left) 0 c.args.octets.now c.loop-index.index (omega (arith, c.loop-index-test.true)) c.loop-index.invariant c.if-octet-eq0.true c.loop-index.index (omega arith) (sym c.may_end.ensures ∙ c.if-may_end.true)
    ∙ ap (λ (n : ℕ). Ok (take c.loop-index.index c.args.octets.now, drop n c.args.octets.now)) (let e : suc c.loop-index.index ≡ c.loop-index.index + 1 = omega arith in e))

pub returns-then-octet-eq0-clause-gives : goal.returns-then-octet-eq0-clause-gives
unfolding text_at
returns-then-octet-eq0-clause-gives c =
    text_ends_wrong (may_end c.args.sizes c.args.room c.args.left) (may_go_on c.args.sizes c.args.room c.args.left) 0 c.args.octets.now c.loop-index.index (omega (arith, c.loop-index-test.true)) c.loop-index.invariant c.if-octet-eq0.true c.loop-index.index (omega arith) (sym c.may_end.ensures ∙ c.if-may_end.false)

pub returns-then-not-may_go_on-clause-gives : goal.returns-then-not-may_go_on-clause-gives
unfolding text_at
returns-then-not-may_go_on-clause-gives c =
    text_wrong (may_end c.args.sizes c.args.room c.args.left) (may_go_on c.args.sizes c.args.room c.args.left) 0 c.args.octets.now c.loop-index.index (omega (arith, c.loop-index-test.true)) c.loop-index.invariant c.if-octet-eq0.false c.loop-index.index (omega arith) (sym c.may_go_on.ensures ∙ c.if-not-may_go_on.true)

pub returns-clause-gives : goal.returns-clause-gives
unfolding text_at
returns-clause-gives c =
    text_short (may_end c.args.sizes c.args.room c.args.left) (may_go_on c.args.sizes c.args.room c.args.left) 0 c.args.octets.now (λ k lt. c.loop-index.invariant k (omega arith))
