use Rattle.std.proofs.Common.{[], refl}
use Rattle.link_core.specs.declared.out.Out.TheVariants.{Submit}
use Rattle.link_turn.specs.Steps.{says}
use Rattle.link_turn.specs.SessionSteps.{with_step}
use Rattle.link_turn.proofs.Speaking.{submitted_ready, submitted_not}
use Rattle.link_turn.proofs.session.Session.submitted.Goals as goal

pub returns-in-Ok-clause-law : goal.returns-in-Ok-clause-law
returns-in-Ok-clause-law g c = λ core terms talk sms time w.
    c.look.ensures.law core terms (with_step (says (Submit c.args.tag c.args.message sms time) c.args.self.now.latest) talk)
    (submitted_ready g.C.LinkCore.hears g.C.LinkCore.refuses g.C.LinkCore.said core terms c.args.tag c.args.message sms time talk c.args.self.now _ w (record { core = refl; terms = refl; up = refl; now = refl; spoke = refl; found = λ yes. yes }) refl c.in-Ok.ensures.items) w.frames

pub returns-in-Err-clause-law : goal.returns-in-Err-clause-law
returns-in-Err-clause-law g c = λ core terms talk sms time w. (
  [],
  c.end.ensures.law core terms (with_step (says (Submit c.args.tag c.args.message sms time) c.args.self.now.latest) talk)
      (submitted_not g.C.LinkCore.hears g.C.LinkCore.refuses g.C.LinkCore.said core terms c.args.tag c.args.message sms time talk c.args.self.now _ w (record { core = refl; terms = refl; up = refl; now = refl; spoke = refl; found = λ yes. yes }) c.in-Err.ensures.items),
)
