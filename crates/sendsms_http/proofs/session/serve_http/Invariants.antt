use Rattle.std.proofs.Common.{◌≡◌}
use Rattle.sendsms_http.specs.SessionSteps.{Due, potential}
use Rattle.sendsms_http.specs.Visit.{IsVisit, Fits}
use Rattle.sendsms_http.proofs.session.serve_http.Given as goal

-- what was done so far leads to what the visit is given next
abbrev pub invariant-loop-peer : goal.invariant-loop-peer
invariant-loop-peer g l =
    let course = g.P.Meter.course in
    let readings = g.C.Clock.readings in record {
      visit : IsVisit l.visit;
      fits : Fits l.visit l.given;
      most : l.visit.budget ≡ l.initial.budget;
      due : Due g.A.Acceptor.leads g.A.Acceptor.faults g.A.Acceptor.can_submit l.settings l.initial.acceptor (course l.initial.peer) (readings l.initial.clock)
          l.given l.visit (course l.peer) (readings l.clock) l.acceptor;
    }

abbrev pub decreases-loop-peer : goal.decreases-loop-peer
decreases-loop-peer g l = potential l.visit l.given
