-- What a centre as a peer went through, and what its calls answer.
use Rattle.std.specs.Prelude.{◌≡◌, ℕ, List, ⊤, Some, None}
use Rattle.kn_base.specs.Count.{Counts}
use Rattle.kn_base.specs.Course.{Course}
use Rattle.kn_base.specs.Talk.{said_of}
use Rattle.kn_base.specs.declared.piece.Piece.{Piece}
use Rattle.kn_base.specs.declared.sink.Give.{Give}
use Rattle.kn_base.specs.declared.sink.Give.TheVariants as give_is
use Rattle.fake_centre.specs.declared.centre_peer.CentrePeer.{CentrePeer}

-- it has no faults
abbrev pub counts_of : CentrePeer → Counts
counts_of p = record { faults = 0; starved = p.starved; quiets = p.quiets; ended = p.ended }

-- a course of which all is told but what is left, which hangs on what will be said
abbrev pub told_course : Counts → List Piece → Course
told_course counts pieces = record { counts = counts; left = None; given = Some (said_of pieces); talk = Some pieces }

abbrev pub peer_course : CentrePeer → Course
peer_course p = told_course (counts_of p) p.pieces.items

-- all octets were given, or none
abbrev pub GivesAll : ℕ → Give → Type 0
GivesAll len (give_is.Took n) = n ≡ len
GivesAll len give_is.Failed = ⊤
