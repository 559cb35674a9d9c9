-- What a session did, in one list: what it heard and said, what it read of the clock, and what it handed to the store.
use Rattle.std.specs.Prelude.{◌≡◌, ◌≢◌, ◌⊎◌, ℕ, Bool, List, [], ◌∷◌, ◌++◌, All, Err}
use Rattle.config_groups.specs.declared.settings.Settings.{Settings}
use Rattle.gate_model.specs.Acceptor.{Deed}
use Rattle.gate_model.specs.declared.reply.Refusal.TheVariants.{Disk}
use Rattle.kn_base.specs.Count.{Rose}
use Rattle.kn_base.specs.Talk.{said_of, heard_of}
use Rattle.kn_base.specs.declared.piece.Piece.{Piece}
use Rattle.sendsms_http.specs.Exchange.{Exchange, text_of, IsExchange, IsKept, heard_in, said_in, deeds_in}

-- a piece was heard or said, the clock was read, or messages were handed in, with the store's answer
pub data Event : Type 0 where
  Spoke : Piece → Event
  Read : (time : ℕ) → Event
  Handed : Deed → Event

-- what was heard and said, what was read, and what was handed in, in their order
abbrev pub pieces_of : List Event → List Piece
pieces_of [] = []
pieces_of (Spoke piece ∷ events) = piece ∷ pieces_of events
pieces_of (Read time ∷ events) = pieces_of events
pieces_of (Handed deed ∷ events) = pieces_of events

abbrev pub readings_of : List Event → List ℕ
readings_of [] = []
readings_of (Spoke piece ∷ events) = readings_of events
readings_of (Read time ∷ events) = time ∷ readings_of events
readings_of (Handed deed ∷ events) = readings_of events

abbrev pub deeds_of : List Event → List Deed
deeds_of [] = []
deeds_of (Spoke piece ∷ events) = deeds_of events
deeds_of (Read time ∷ events) = deeds_of events
deeds_of (Handed deed ∷ events) = deed ∷ deeds_of events

-- ---- when a request was read

-- The clock was read at this time when these octets had been heard behind those of earlier requests, whose answers were said by then, and
-- nothing was handed in but for those.
pub record IsReadAt (events : List Event) (earlier : List Exchange) (octets : List ℕ) (time : ℕ) : Type 0 where
  pub before : List Event
  pub after : List Event
  pub left : List ℕ
  pub read : events ≡ before ++ Read time ∷ after
  pub heard : heard_of (pieces_of before) ≡ heard_in earlier ++ (octets ++ left)
  pub said : said_of (pieces_of before) ≡ said_in earlier
  pub handed : deeds_of before ≡ deeds_in earlier

-- each request was read at a reading that was made behind the piece that ended it
abbrev pub AreRead : List Event → List Exchange → Type 0
AreRead events exchanges =
    (earlier later : List Exchange) (exchange : Exchange) → exchanges ≡ earlier ++ exchange ∷ later
    → All (IsReadAt events earlier exchange.octets) exchange.times

-- ---- what stands at each moment

-- Of what is left the first octets are a request. What it asks for was handed in, and a front of its answer was said.
pub record AnswersNext (settings : Settings) (left : List ℕ) (handed : List Deed) (said : List ℕ) : Type 0 where
  pub exchange : Exchange
  pub ended : Bool
  pub rest : List ℕ
  pub gone : List ℕ
  pub is : IsExchange settings ended exchange
  pub heard : left ≡ exchange.octets ++ rest
  pub handed_in : handed ≡ exchange.deeds
  pub says : text_of exchange ≡ said ++ gone

-- What stands once so much was heard, said and handed in: some requests were answered whole, and what they ask for was handed in before. Of a
-- next answer nothing was said, or its request was dealt with before.
pub record IsMoment (settings : Settings) (heard said : List ℕ) (deeds : List Deed) : Type 0 where
  pub kept : List Exchange
  pub left : List ℕ
  pub handed_last : List Deed
  pub said_last : List ℕ
  pub kept_each : All (IsKept settings) kept
  pub hears : heard ≡ heard_in kept ++ left
  pub says : said ≡ said_in kept ++ said_last
  pub handed_in : deeds ≡ deeds_in kept ++ handed_last
  pub next : (said_last ≡ []) ⊎ AnswersNext settings left handed_last said_last

-- so it is at each moment: behind each front of what happened
abbrev pub AreMoments : Settings → List Event → Type 0
AreMoments settings events =
    (before after : List Event) → events ≡ before ++ after
    → IsMoment settings (heard_of (pieces_of before)) (said_of (pieces_of before)) (deeds_of before)

-- ---- all together

-- The events of a session, of which these are the pieces, the readings and the deeds; these are its exchanges.
pub record IsInTurn
    (settings : Settings) (events : List Event) (pieces : List Piece) (readings : List ℕ) (deeds : List Deed) (exchanges : List Exchange) : Type 0 where
  pub pieces_are : pieces_of events ≡ pieces
  pub readings_are : readings_of events ≡ readings
  pub deeds_are : deeds_of events ≡ deeds
  pub read : AreRead events exchanges
  pub moments : AreMoments settings events

-- ---- the store's count of faults, deed by deed

-- A deed is a submission of its own, between what led to it and what it led to: the count rose in it where the answer was Disk, and else it
-- stood still.
pub record IsOwn
    {S : Type 0} (leads : S → List Deed → S → Type 0) (faults : S → ℕ) (store later : S) (before : List Deed) (deed : Deed) (after : List Deed) : Type 0 where
  pub asked : S
  pub answered : S
  pub led_before : leads store before asked
  pub led : leads asked (deed ∷ []) answered
  pub led_after : leads answered after later
  pub disk : deed.outcome ≡ Err Disk → Rose (faults asked) (faults answered)
  pub spared : deed.outcome ≢ Err Disk → faults answered ≡ faults asked

abbrev pub AreOwn : {S : Type 0} → (leads : S → List Deed → S → Type 0) → (faults : S → ℕ) → (store later : S) → List Deed → Type 0
AreOwn leads faults store later deeds =
    (before after : List Deed) (deed : Deed) → deeds ≡ before ++ deed ∷ after → IsOwn leads faults store later before deed after
