-- What a piece that was heard or said means for the course of a peer.
use Rattle.std.specs.Prelude.{◌≡◌, ◌⊎◌, ℕ, ◌<◌, ◌≤◌, List, [], ◌∷◌, length}
use Rattle.kn_base.specs.Count.{Rose}
use Rattle.kn_base.specs.Course.{Course, with_more, IsQuiet, Fails, Ends}
use Rattle.kn_base.specs.Talk.{SaysAll, SaysFront}
use Rattle.kn_base.specs.declared.piece.Piece.TheVariants as piece_is
use Rattle.peer_pieces.specs.declared.heard.Heard.{Heard}
use Rattle.peer_pieces.specs.declared.heard.Heard.TheVariants as heard_is
use Rattle.peer_pieces.specs.declared.said.Said.{Said}
use Rattle.peer_pieces.specs.declared.said.Said.TheVariants as said_is

-- Octets were heard, one at least and so many at most, and nothing else happened.
pub record HearsOctets (most : ℕ) (old : Course) (octets : List ℕ) (new : Course) : Type 0 where
  pub some : 0 < length octets
  pub few : length octets ≤ most
  pub counts : new.counts ≡ old.counts
  pub talk : new.talk ≡ with_more old.talk (piece_is.Heard octets ∷ [])

-- a call failed for want of memory, or for another cause
abbrev pub FailsStarved : Course → Course → Type 0
FailsStarved old new = Fails old new × Rose old.counts.starved new.counts.starved

abbrev pub FailsElse : Course → Course → Type 0
FailsElse old new = Fails old new × ¬ Rose old.counts.starved new.counts.starved

-- what came of listening; where there was no memory for it, nothing was taken
abbrev pub HearsSo : (most : ℕ) → Course → Heard → Course → Type 0
HearsSo most old (heard_is.Octets octets) new = HearsOctets most old octets new
HearsSo most old heard_is.Quiet new = IsQuiet old new
HearsSo most old heard_is.End new = Ends old new
HearsSo most old heard_is.Fault new = FailsElse old new
HearsSo most old heard_is.Starved new = (new ≡ old) ⊎ FailsStarved old new

-- what came of saying octets
abbrev pub SaysSo : List ℕ → Course → Said → Course → Type 0
SaysSo octets old said_is.Whole new = SaysAll octets old new
SaysSo octets old said_is.Fault new = (gone : ℕ) × SaysFront octets gone old new × ¬ Rose old.counts.starved new.counts.starved
SaysSo octets old said_is.Starved new = (gone : ℕ) × SaysFront octets gone old new × Rose old.counts.starved new.counts.starved
