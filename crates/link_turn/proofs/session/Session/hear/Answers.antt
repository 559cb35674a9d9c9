use Rattle.std.proofs.Common.{List, ℕ, [], refl, sym, subst}
use Rattle.std.proofs.lemmas.Bool.{false≢true}
use Rattle.link_core.specs.Streams.{AreFrames}
use Rattle.link_turn.specs.Steps.{heards_in}
use Rattle.link_turn.proofs.Keeping.{ready_same}
use Rattle.link_turn.proofs.Looking.{heeds_not}
use Rattle.link_turn.proofs.session.Session.hear.Goals as goal

pub returns-in-Ok-clause-law : goal.returns-in-Ok-clause-law
returns-in-Ok-clause-law g c = λ core terms talk h.
    c.look.ensures.law core terms talk (ready_same g.C.LinkCore.hears g.C.LinkCore.refuses g.C.LinkCore.said core terms talk c.args.self.now _ (record { core = refl; terms = refl; up = refl; now = refl; spoke = refl; found = λ yes. absurd (false≢true yes) }) refl refl h.ready)
    (subst (λ (kept : List ℕ). AreFrames g.C.LinkCore.hears talk.heard (heards_in talk.steps) kept) (sym c.in-Ok.ensures.ok) h.frames)

pub returns-in-Err-clause-law : goal.returns-in-Err-clause-law
returns-in-Err-clause-law g c = λ core terms talk h.
    ([], c.end.ensures.law core terms talk (heeds_not g.C.LinkCore.hears g.C.LinkCore.refuses g.C.LinkCore.said core terms c.args.octets.now talk c.args.self.now _ h refl refl refl refl))
