use Rattle.std.proofs.Common.{◌∙◌, subst, arith}
use Rattle.sendsms_http.specs.SessionSteps.{SaysLost}
use Rattle.sendsms_http.specs.declared.visit.VisitWish.TheVariants.{Listen, Submit, Say, Over}
use Rattle.sendsms_http.proofs.Wishes.{step}
use Rattle.sendsms_http.proofs.Doings.{listening, begins, waits_first, fits_then, fits_said, fits_answered, end_so, heard, said, handed, lost}
use Rattle.sendsms_http.proofs.Termination.{heard_falls, said_falls_too, handed_falls}
use Rattle.sendsms_http.proofs.session.serve_http.Goals as goal

pub loop-peer-init : goal.loop-peer-init
loop-peer-init g c =
    let begin = begins c.args.budget c.new-visit.result c.new-visit.ensures in record {
      visit = begin.0;
      fits = begin.1;
      most = c.new-visit.ensures.most;
      due = waits_first g.A.Acceptor.leads g.A.Acceptor.faults g.A.Acceptor.can_submit c.args.settings.now c.args.acceptor.now
          (g.P.Meter.course c.args.peer.now) (g.C.Clock.readings c.args.clock.now) c.args.budget c.new-visit.result c.new-visit.ensures
          (g.met.A.Acceptor.leads_nowhere c.args.acceptor.now) c.requires.ready;
    }

pub returns-in-Err : goal.returns-in-Err
returns-in-Err g c =
    let course = g.P.Meter.course in
    let readings = g.C.Clock.readings in
    let start = course c.args.peer.now in
    let visit = c.next.new.self in
    let i = c.loop-peer.invariant in
    let next = c.in-Listen.ensures.next in
    let waits = step g.A.Acceptor.leads g.A.Acceptor.faults g.A.Acceptor.can_submit c.args.settings.now c.args.acceptor.now start (readings c.args.clock.now)
    c.loop-peer.given c.loop-peer.visit visit c.args.budget c.now.result Listen (course c.loop-peer.peer) (readings c.loop-peer.clock) (readings c.now.new.self) c.loop-peer.acceptor
    i.due i.fits i.most c.now.ensures.told next c.next.ensures.visit in
    let more = (listening visit.phase visit next.phase c.next.ensures.visit.phase).0 in
    let budget = next.budget ∙ i.most in
    let room = c.room.ensures in
    lost g.A.Acceptor.leads g.A.Acceptor.faults g.A.Acceptor.can_submit c.args.settings.now c.args.acceptor.now start (readings c.args.clock.now)
    visit c.args.budget c.room.result c.in-Err.field-0 (course c.loop-peer.peer) (course c.hear.new.source) (course c.lost.new.sink) (readings c.now.new.self) c.loop-peer.acceptor
    c.lost.result waits more c.in-Err.ensures (omega (arith, room, budget)) (subst (λ n. SaysLost n (course c.hear.new.source) c.lost.result (course c.lost.new.sink)) c.starved-starved.ensures c.lost.ensures)

pub returns-in-Over : goal.returns-in-Over
returns-in-Over g c =
    let course = g.P.Meter.course in
    let readings = g.C.Clock.readings in
    let start = course c.args.peer.now in
    let i = c.loop-peer.invariant in
    let over = step g.A.Acceptor.leads g.A.Acceptor.faults g.A.Acceptor.can_submit c.args.settings.now c.args.acceptor.now start (readings c.args.clock.now)
    c.loop-peer.given c.loop-peer.visit c.next.new.self c.args.budget c.now.result (Over c.in-Over.end) (course c.loop-peer.peer) (readings c.loop-peer.clock) (readings c.now.new.self) c.loop-peer.acceptor
    i.due i.fits i.most c.now.ensures.told c.in-Over.ensures.next c.next.ensures.visit in
    over c.end_of.result (end_so c.in-Over.end c.end_of.result c.starved-starved.result c.starved.result start.counts.starved (course c.loop-peer.peer).counts.starved
    c.starved-starved.ensures c.starved.ensures c.end_of.ensures)

pub loop-peer-smaller-in-Ok : goal.loop-peer-smaller-in-Ok
loop-peer-smaller-in-Ok g c =
    let course = g.P.Meter.course in
    let next = c.in-Listen.ensures.next in
    heard_falls c.args.settings.now c.now.result c.loop-peer.visit c.next.new.self next.budget c.loop-peer.given c.in-Ok.given c.room.result
    (course c.loop-peer.peer) (course c.hear.new.source) next.wishes next.taken c.next.ensures.visit.within c.room.ensures c.in-Ok.ensures

pub loop-peer-preserved-in-Ok : goal.loop-peer-preserved-in-Ok
loop-peer-preserved-in-Ok g c =
    let course = g.P.Meter.course in
    let readings = g.C.Clock.readings in
    let start = course c.args.peer.now in
    let visit = c.next.new.self in
    let i = c.loop-peer.invariant in
    let next = c.in-Listen.ensures.next in
    let waits = step g.A.Acceptor.leads g.A.Acceptor.faults g.A.Acceptor.can_submit c.args.settings.now c.args.acceptor.now start (readings c.args.clock.now)
    c.loop-peer.given c.loop-peer.visit visit c.args.budget c.now.result Listen (course c.loop-peer.peer) (readings c.loop-peer.clock) (readings c.now.new.self) c.loop-peer.acceptor
    i.due i.fits i.most c.now.ensures.told next c.next.ensures.visit in
    let more = (listening visit.phase visit next.phase c.next.ensures.visit.phase).0 in
    record {
      visit = c.next.ensures.visit;
      fits = fits_then visit c.in-Ok.given c.room.result (course c.loop-peer.peer) (course c.hear.new.source) next.phase c.room.ensures c.in-Ok.ensures;
      most = next.budget ∙ i.most;
      due = heard g.A.Acceptor.leads g.A.Acceptor.faults g.A.Acceptor.can_submit c.args.settings.now c.args.acceptor.now start (readings c.args.clock.now)
          visit c.in-Ok.given c.room.result (course c.loop-peer.peer) (course c.hear.new.source) (readings c.now.new.self) c.loop-peer.acceptor waits more c.in-Ok.ensures;
    }

pub submit-requires-clause-fits : goal.submit-requires-clause-fits
submit-requires-clause-fits g c =
    let course = g.P.Meter.course in
    let readings = g.C.Clock.readings in
    let i = c.loop-peer.invariant in
    (step g.A.Acceptor.leads g.A.Acceptor.faults g.A.Acceptor.can_submit c.args.settings.now c.args.acceptor.now (course c.args.peer.now) (readings c.args.clock.now)
    c.loop-peer.given c.loop-peer.visit c.next.new.self c.args.budget c.now.result (Submit c.in-Submit.time c.in-Submit.parts) (course c.loop-peer.peer) (readings c.loop-peer.clock) (readings c.now.new.self) c.loop-peer.acceptor
    i.due i.fits i.most c.now.ensures.told c.in-Submit.ensures.next c.next.ensures.visit).1

pub submit-requires-clause-ready : goal.submit-requires-clause-ready
submit-requires-clause-ready g c =
    let course = g.P.Meter.course in
    let readings = g.C.Clock.readings in
    let i = c.loop-peer.invariant in
    (step g.A.Acceptor.leads g.A.Acceptor.faults g.A.Acceptor.can_submit c.args.settings.now c.args.acceptor.now (course c.args.peer.now) (readings c.args.clock.now)
    c.loop-peer.given c.loop-peer.visit c.next.new.self c.args.budget c.now.result (Submit c.in-Submit.time c.in-Submit.parts) (course c.loop-peer.peer) (readings c.loop-peer.clock) (readings c.now.new.self) c.loop-peer.acceptor
    i.due i.fits i.most c.now.ensures.told c.in-Submit.ensures.next c.next.ensures.visit).2

pub loop-peer-smaller-in-Submit : goal.loop-peer-smaller-in-Submit
loop-peer-smaller-in-Submit g c =
    let next = c.in-Submit.ensures.next in
    handed_falls c.args.settings.now c.now.result c.loop-peer.visit c.next.new.self next.budget c.loop-peer.given c.in-Submit.time c.in-Submit.parts c.submit.result
    next.wishes next.taken c.next.ensures.visit.within

pub loop-peer-preserved-in-Submit : goal.loop-peer-preserved-in-Submit
loop-peer-preserved-in-Submit g c =
    let course = g.P.Meter.course in
    let readings = g.C.Clock.readings in
    let start = course c.args.peer.now in
    let visit = c.next.new.self in
    let i = c.loop-peer.invariant in
    let next = c.in-Submit.ensures.next in
    let hands = (step g.A.Acceptor.leads g.A.Acceptor.faults g.A.Acceptor.can_submit c.args.settings.now c.args.acceptor.now start (readings c.args.clock.now)
    c.loop-peer.given c.loop-peer.visit visit c.args.budget c.now.result (Submit c.in-Submit.time c.in-Submit.parts) (course c.loop-peer.peer) (readings c.loop-peer.clock) (readings c.now.new.self) c.loop-peer.acceptor
    i.due i.fits i.most c.now.ensures.told next c.next.ensures.visit).0 in
    record {
      visit = c.next.ensures.visit;
      fits = record {
        phase = fits_answered visit.phase _ c.submit.result hands.in_phase c.submit.ensures.accepted;
        within = omega (arith, c.next.ensures.visit.within);
      };
      most = next.budget ∙ i.most;
      due = handed g.A.Acceptor.leads g.A.Acceptor.faults g.A.Acceptor.can_submit c.args.settings.now c.args.acceptor.now start (readings c.args.clock.now)
          g.met.A.Acceptor.leads_nowhere g.met.A.Acceptor.leads_on visit c.in-Submit.time c.in-Submit.parts.items c.submit.result (course c.loop-peer.peer) (readings c.now.new.self) c.loop-peer.acceptor c.submit.new.self
          hands c.submit.ensures.deed c.submit.ensures.disk c.submit.ensures.spared c.submit.ensures.kept c.submit.ensures.ready;
    }

pub loop-peer-smaller : goal.loop-peer-smaller
loop-peer-smaller g c =
    let course = g.P.Meter.course in
    let next = c.in-Say.ensures.next in
    said_falls_too c.args.settings.now c.now.result c.loop-peer.visit c.next.new.self next.budget c.loop-peer.given c.say.result c.in-Say.answer c.in-Say.close _
    (course c.loop-peer.peer) (course c.say.new.sink) next.wishes next.taken c.next.ensures.visit.within c.say.ensures

pub loop-peer-preserved : goal.loop-peer-preserved
loop-peer-preserved g c =
    let course = g.P.Meter.course in
    let readings = g.C.Clock.readings in
    let start = course c.args.peer.now in
    let visit = c.next.new.self in
    let i = c.loop-peer.invariant in
    let next = c.in-Say.ensures.next in
    let owes = step g.A.Acceptor.leads g.A.Acceptor.faults g.A.Acceptor.can_submit c.args.settings.now c.args.acceptor.now start (readings c.args.clock.now)
    c.loop-peer.given c.loop-peer.visit visit c.args.budget c.now.result (Say c.in-Say.answer c.in-Say.close) (course c.loop-peer.peer) (readings c.loop-peer.clock) (readings c.now.new.self) c.loop-peer.acceptor
    i.due i.fits i.most c.now.ensures.told next c.next.ensures.visit in
    let fits = fits_said visit.phase c.say.result c.in-Say.answer c.in-Say.close _ (course c.loop-peer.peer) (course c.say.new.sink) next.phase c.say.ensures in
    record {
      visit = c.next.ensures.visit;
      fits = record { phase = fits.0; within = omega (arith, c.next.ensures.visit.within, fits.1) };
      most = next.budget ∙ i.most;
      due = said g.A.Acceptor.leads g.A.Acceptor.faults g.A.Acceptor.can_submit c.args.settings.now c.args.acceptor.now start (readings c.args.clock.now)
          visit c.say.result c.in-Say.answer c.in-Say.close (course c.loop-peer.peer) (course c.say.new.sink) (readings c.now.new.self) c.loop-peer.acceptor owes next.phase c.say.ensures;
    }
