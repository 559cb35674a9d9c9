-- What the forms on the machine tell: their counts, and no content.
use Rattle.std.specs.Prelude.{ℕ, Bool, None}
use Rattle.kn_base.specs.Course.{Course}
use Rattle.peer_dialer.specs.Dealings.{Dealings}

-- the course of a connection that tells no content
abbrev pub untold_stream : ℕ → ℕ → Bool → Course
untold_stream faults quiets ended = record {
  counts = record { faults = faults; starved = 0; quiets = quiets; ended = ended };
  left = None;
  given = None;
  talk = None;
}

-- the dealings of a dialer that tells no content
abbrev pub untold_dealings : ℕ → ℕ → Dealings
untold_dealings faults given = record { faults = faults; given = given; left = None; dials = None; pasts = None }
