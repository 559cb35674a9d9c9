-- What the forms on the machine tell: their counts, and no content.
use Rattle.std.specs.Prelude.{ℕ, Bool, None}
use Rattle.kn_base.specs.Course.{Course}

-- the course of an end that tells no content
abbrev pub untold_course : ℕ → Bool → Course
untold_course faults ended = record {
  counts = record { faults = faults; starved = 0; quiets = 0; ended = ended };
  left = None;
  given = None;
  talk = None;
}
