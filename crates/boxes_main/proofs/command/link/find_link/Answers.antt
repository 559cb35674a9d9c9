use Rattle.std.proofs.Common.{refl, arith}
use Rattle.boxes_main.proofs.LinkChoice.{first_here, none_so_far, none_at_all}
use Rattle.boxes_main.proofs.command.link.find_link.Goals as goal

pub returns-then-eq : goal.returns-then-eq
returns-then-eq c =
    let rule = c.index-links-at.result in (
      rule,
      first_here c.args.id.now c.args.links.now c.loop-at.at rule c.as_slice.result.now c.eq.result (omega arith) c.index-links-at.is c.as_slice.ensures c.eq.ensures c.loop-at.invariant
          c.if-eq.true,
      refl,
    )

pub loop-at-preserved : goal.loop-at-preserved
loop-at-preserved c =
    let rule = c.index-links-at.result in
    none_so_far c.args.id.now c.args.links.now c.loop-at.at rule c.as_slice.result.now c.eq.result (omega arith) c.index-links-at.is c.as_slice.ensures c.eq.ensures c.loop-at.invariant
    c.if-eq.false

pub returns : goal.returns
returns c = none_at_all c.args.id.now c.args.links.now c.loop-at.at (omega arith) c.loop-at.invariant
