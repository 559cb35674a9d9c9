-- What is known of a connection that is over.
use Rattle.std.specs.Prelude.{◌≡◌}
use Rattle.kn_base.specs.Count.{Counts}
use Rattle.kn_base.specs.Course.{Course}
use Rattle.peer_dialer.specs.declared.closed.Closed.{Closed}

-- its counts
abbrev pub counts_in : Closed → Counts
counts_in closed = record { faults = closed.faults; starved = closed.starved; quiets = closed.quiets; ended = closed.ended }

-- It is that of an end with this course: the counts always, and what was heard and said exactly where the talk is told.
pub record IsClosed (course : Course) (closed : Closed) : Type 0 where
  pub pieces : closed.pieces ≡ course.talk
  pub counts : counts_in closed ≡ course.counts
