-- The talk of a connection: the pieces that were heard and said, in their order.
use Rattle.std.specs.Prelude.{◌≡◌, ℕ, ◌<◌, List, [], ◌∷◌, ◌++◌, length, take, Some}
use Rattle.kn_base.specs.declared.piece.Piece.{Piece}
use Rattle.kn_base.specs.declared.piece.Piece.TheVariants.{Heard, Said}
use Rattle.kn_base.specs.declared.piece.Past.{Past}
use Rattle.kn_base.specs.declared.writing.Wrote.{Wrote}
use Rattle.kn_base.specs.declared.writing.Wrote.TheVariants as wrote_is
use Rattle.kn_base.specs.Count.{Counts}
use Rattle.kn_base.specs.Course.{Course, with_more, Fails}

-- the octets of what was said, one piece after another
abbrev pub said_of : List Piece → List ℕ
said_of [] = []
said_of (Said octets ∷ pieces) = octets ++ said_of pieces
said_of (Heard octets ∷ pieces) = said_of pieces

-- the octets of what was heard, one piece after another
abbrev pub heard_of : List Piece → List ℕ
heard_of [] = []
heard_of (Said octets ∷ pieces) = heard_of pieces
heard_of (Heard octets ∷ pieces) = octets ++ heard_of pieces

-- Exactly these octets went out, in some pieces, and nothing else happened.
pub record SaysAll (octets : List ℕ) (old new : Course) : Type 0 where
  pub pieces : List Piece
  pub said : said_of pieces ≡ octets
  pub nothing_heard : heard_of pieces ≡ []
  pub after : new ≡ record old { given = with_more old.given octets; talk = with_more old.talk pieces }

-- Exactly the first octets went out, not all of them, and then a give failed.
pub record SaysFront (octets : List ℕ) (gone : ℕ) (old new : Course) : Type 0 where
  pub less : gone < length octets
  pub between : Course
  pub front : SaysAll (take gone octets) old between
  pub fails : Fails between new

-- what giving all of some octets does, by its answer
abbrev pub WritesAll : List ℕ → Wrote → Course → Course → Type 0
WritesAll octets wrote_is.All old new = SaysAll octets old new
WritesAll octets (wrote_is.Failed gone) old new = SaysFront octets gone old new

-- the counts that a past has
abbrev pub counts_of : Past → Counts
counts_of past = record { faults = past.faults; starved = past.starved; quiets = past.quiets; ended = past.ended }

-- The past is that of an end with this course, whose talk is told.
pub record IsPastOf (course : Course) (past : Past) : Type 0 where
  pub pieces : course.talk ≡ Some past.pieces
  pub counts : course.counts ≡ counts_of past
