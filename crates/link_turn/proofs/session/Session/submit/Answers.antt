use Rattle.std.proofs.Common.{[], arith}
use Rattle.link_turn.proofs.Weighing.{tag_weighs}
use Rattle.link_turn.proofs.Keeping.{tag_taken}
use Rattle.link_turn.proofs.Answering.{taken_speaks}
use Rattle.std.specs.Prelude.{Ok, Some}
use Rattle.gate_store.specs.declared.taken.Taken.TheVariants as taken
use Rattle.link_turn.specs.Steps.{takes}
use Rattle.link_turn.specs.SessionSteps.{with_step}
use Rattle.link_turn.proofs.session.Session.submit.Goals as goal

pub returns-clause-law : goal.returns-clause-law
returns-clause-law g c = λ core terms talk time w.
    let a = tag_taken c.args.self.now c.take_tag-tag.new.self c.take_tag-tag.ensures.same in (
      [],
      c.say.ensures.law core terms (with_step (takes time (Ok (Some (taken.Send c.args.message c.args.sms)))) talk)
          (taken_speaks g.C.LinkCore.hears g.C.LinkCore.refuses g.C.LinkCore.said core terms time c.take_tag-tag.result c.args.message c.args.sms talk c.args.self.now c.take_tag-tag.new.self w a.0 a.1 a.2 a.3 c.requires.fresh c.take_tag-tag.ensures.free c.requires.room),
    )

pub returns-clause-lighter : goal.returns-clause-lighter
returns-clause-lighter g c =
    let same = tag_weighs c.args.self.now c.take_tag-tag.new.self c.take_tag-tag.ensures.same in
    let less = c.say.ensures.lighter in
    omega (arith, same, less)
