-- What one connection over HTTP comes to: requests are heard one behind the other, and each is answered, up to the first answer behind
-- which the connection closes.
use Rattle.std.specs.Prelude.{◌≡◌, ◌≢◌, ℕ, ◌<◌, ◌≤◌, Bool, true, false, ◌||◌, List, [], ◌∷◌, ◌++◌, length, take, All, Option, Some, None, IfSome, ⊤}
use Rattle.config_groups.specs.declared.settings.Settings.{Settings}
use Rattle.gate_model.specs.Acceptor.{Deed, CountsFaults}
use Rattle.http_text.specs.Head.{NeedsMore}
use Rattle.kn_base.specs.Clock.{AddsAll}
use Rattle.kn_base.specs.Count.{Counts, NoneFell, Rose}
use Rattle.kn_base.specs.Course.{Course, with_more}
use Rattle.kn_base.specs.Talk.{said_of, heard_of}
use Rattle.kn_base.specs.declared.piece.Piece.{Piece}
use Rattle.kn_base.specs.declared.piece.Piece.TheVariants.{Heard}
use Rattle.sendsms_http.specs.Events.{Event, IsInTurn, AreOwn}
pub use Rattle.sendsms_http.specs.Exchange.{Exchange, text_of, ComesTo, IsOutOfMemory, closes_always, closes, AnswersRequest, IsNoRequest, RefusesOctets, WantsMemory, AnswersOctets, IsExchange, IsKept, with_last, heard_in, said_in, times_in, deeds_in, AreAmong}
use Rattle.sendsms_http.specs.declared.http_end.HttpEnd.{HttpEnd}
use Rattle.sendsms_http.specs.declared.http_end.HttpEnd.TheVariants.{End, Fault, Quiet, Budget, Memory}

-- ---- the end

-- the octets are a front of the text, and not all of it
abbrev pub IsCutShort : List ℕ → List ℕ → Type 0
IsCutShort octets text = (gone : ℕ) × (gone < length text) × (octets ≡ take gone text)

-- what was said of the last answer, by the end: all of it, and the connection closes behind it; or giving it failed
abbrev pub SaysLast : HttpEnd → Exchange → List ℕ → Type 0
SaysLast End last said = (last.close ≡ true) × (said ≡ text_of last)
SaysLast Fault last said = IsCutShort said (text_of last)
SaysLast Quiet last said = ⊥
SaysLast (Budget taken) last said = ⊥
SaysLast Memory last said = IsCutShort said (text_of last)

-- why nothing more is said to what is left: nothing is, and the input ended; or a take was quiet or failed where more was needed, or was
-- no more made
abbrev pub IsSilence : HttpEnd → List ℕ → Bool → Type 0
IsSilence End rest ended = (rest ≡ []) × (ended ≡ true)
IsSilence end rest ended = NeedsMore rest × (ended ≡ false)

-- What was said last, behind the answers that were said whole; rest is what was heard behind all exchanges.
abbrev pub EndsSo : HttpEnd → Option Exchange → List ℕ → Bool → List ℕ → Type 0
EndsSo end (Some last) rest ended said = SaysLast end last said
EndsSo end None rest ended said = IsSilence end rest ended × (said ≡ [])

-- The talk of a connection. What was heard is the octets of its exchanges in order, and a rest: a connection was kept behind each but the last. What was
-- said is their answers, of which the last may be cut. Each request was read at a reading of the clock of its own, in order, and what was
-- handed in was handed in for them.
pub record HttpTalk (settings : Settings) (heard said : List ℕ) (ended : Bool) (readings : List ℕ) (deeds : List Deed) (end : HttpEnd) : Type 0 where
  pub kept : List Exchange
  pub last : Option Exchange
  pub rest : List ℕ
  pub said_last : List ℕ
  pub kept_each : All (IsKept settings) kept
  pub last_one : IfSome last (IsExchange settings ended)
  pub hears : heard ≡ heard_in (with_last kept last) ++ rest
  pub says : said ≡ said_in kept ++ said_last
  pub timed : AreAmong (times_in (with_last kept last)) readings
  pub handed_in : deeds ≡ deeds_in (with_last kept last)
  pub ends : EndsSo end last rest ended said_last

-- ---- what was heard and said in turn

-- Of what was heard, all requests were answered, and their answers were said; what is left needs more.
pub record IsUpToDate (settings : Settings) (before : List Piece) : Type 0 where
  pub kept : List Exchange
  pub kept_each : All (IsKept settings) kept
  pub left : List ℕ
  pub heard : heard_of before ≡ heard_in kept ++ left
  pub said : said_of before ≡ said_in kept
  pub needs_more : NeedsMore left

-- nothing was heard before what came before it was dealt with
abbrev pub IsPrompt : Settings → List Piece → Type 0
IsPrompt settings pieces =
    (before after : List Piece) (octets : List ℕ) → pieces ≡ before ++ Heard octets ∷ after → octets ≢ [] → IsUpToDate settings before

-- ---- one connection

-- what stands behind the end: no count rose, or that of its cause did
abbrev pub IsCaused : HttpEnd → Counts → Counts → Type 0
IsCaused End old new = new ≡ record old { ended = new.ended }
IsCaused Fault old new = Rose old.faults new.faults
IsCaused Quiet old new = Rose old.quiets new.quiets
IsCaused (Budget taken) old new = new ≡ record old { ended = new.ended }
IsCaused Memory old new = Rose old.starved new.starved

-- so many octets were heard, as many as may be
abbrev pub IsSpent : HttpEnd → ℕ → ℕ → Type 0
IsSpent (Budget taken) budget heard = (taken ≡ budget) × (heard ≡ budget)
IsSpent end budget heard = ⊤

-- What a session did to its peer.
pub record Talks (settings : Settings) (budget : ℕ) (old new : Course) (readings : List ℕ) (deeds : List Deed) (end : HttpEnd) : Type 0 where
  pub pieces : List Piece
  pub ended : Bool
  pub told : new.talk ≡ with_more old.talk pieces
  pub input_ended : new.counts.ended ≡ (ended || old.counts.ended)
  pub talk : HttpTalk settings (heard_of pieces) (said_of pieces) ended readings deeds end
  pub prompt : IsPrompt settings pieces
  pub within : length (heard_of pieces) ≤ budget
  pub spent : IsSpent end budget (length (heard_of pieces))
  pub fell : NoneFell old.counts new.counts
  pub caused : IsCaused end old.counts new.counts

-- One session: what it did to its peer, the clock and the store, and all that in turn.
pub record Serves
    {S : Type 0} (leads : S → List Deed → S → Type 0) (faults : S → ℕ) (store later : S)
    (settings : Settings) (budget : ℕ) (old new : Course) (told tells : Option (List ℕ)) (end : HttpEnd) : Type 0 where
  pub readings : List ℕ
  pub deeds : List Deed
  pub events : List Event
  pub peer : Talks settings budget old new readings deeds end
  pub turn : IsInTurn settings events peer.pieces readings deeds (with_last peer.talk.kept peer.talk.last)
  pub clock : AddsAll readings told tells
  pub led : leads store deeds later
  pub own : AreOwn leads faults store later deeds
  pub counts : CountsFaults (faults store) (faults later) deeds
