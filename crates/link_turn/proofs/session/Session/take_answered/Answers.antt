use Rattle.std.proofs.Common.{List, length, ap, arith}
use Rattle.link_turn.specs.declared.submitted.Submitted.{Submitted}
use Rattle.link_turn.proofs.Pigeons.{length-without}
use Rattle.link_turn.proofs.session.Session.take_answered.Goals as goal

pub returns-clause-well : goal.returns-clause-well
returns-clause-well g c =
    let w = c.requires.well in
    let less = length-without c.args.tag c.args.self.now.in_use.items in
    let is = ap (λ (us : List Submitted). length us) c.remove_tag.ensures in
    record { few = omega (arith, less, is, w.few); enough = w.enough; tag = w.tag; smsc = w.smsc; in_time = w.in_time }

pub returns-clause-lighter : goal.returns-clause-lighter
returns-clause-lighter g c =
    let less = length-without c.args.tag c.args.self.now.in_use.items in
    let is = ap (λ (us : List Submitted). length us) c.remove_tag.ensures in
    omega (arith, less, is)
