use Rattle.std.proofs.Common.{refl}
use Rattle.std.proofs.lemmas.Bool.{false≢true}
use Rattle.link_turn.proofs.Keeping.{ready_same}
use Rattle.link_turn.proofs.session.Session.quiet.Goals as goal

pub returns-clause-law : goal.returns-clause-law
returns-clause-law g c = λ core terms talk ready frames.
    c.look.ensures.law core terms talk (ready_same g.C.LinkCore.hears g.C.LinkCore.refuses g.C.LinkCore.said core terms talk c.args.self.now _ (record { core = refl; terms = refl; up = refl; now = refl; spoke = refl; found = λ yes. absurd (false≢true yes) }) refl refl ready) frames
