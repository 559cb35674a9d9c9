use Rattle.std.proofs.Common.{arith, ◌<◌, length-take, sym, ap, ◌∙◌}
use Rattle.std.proofs.lemmas.List.{get_or-take}
use Rattle.exact_text.specs.Text.{is_of}
use Rattle.exact_octets.proofs.Octets.{all_allowed, too_few, not_allowed}
use Rattle.exact_text.proofs.characters.characters_at.Goals as goal

pub returns-then-not-is_of-clause-gives : goal.returns-then-not-is_of-clause-gives
returns-then-not-is_of-clause-gives c =
    let len = length-take c.min.result c.args.octets.now in
    let here : c.loop-index.index < c.min.result = omega arith in
    not_allowed (is_of c.args.characters) c.args.len c.args.octets.now c.loop-index.index (omega arith) (omega arith) c.loop-index.invariant (ap (is_of c.args.characters) (sym (get_or-take c.min.result c.args.octets.now c.loop-index.index 0 here)) ∙ sym c.is_of.ensures ∙ c.if-not-is_of.true)

pub returns-then-octets-len-clause-gives : goal.returns-then-octets-len-clause-gives
returns-then-octets-len-clause-gives c =
    let len = length-take c.min.result c.args.octets.now in
    too_few (is_of c.args.characters) c.args.len c.args.octets.now (omega arith) (λ k lt. c.loop-index.invariant k (omega arith))

pub returns-clause-gives : goal.returns-clause-gives
returns-clause-gives c =
    let len = length-take c.min.result c.args.octets.now in
    rw (c.split_at.ensures.front, c.split_at.ensures.back) (all_allowed (is_of c.args.characters) c.args.len c.args.octets.now (omega arith) (λ k lt. c.loop-index.invariant k (omega arith)))
