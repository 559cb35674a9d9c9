-- The steps of a session: what was done so far, and what is due, by what the visit is given next. No public clause cites these.
use Rattle.std.specs.Prelude.{◌≡◌, ℕ, ◌+◌, ◌*◌, ◌-◌, ◌<◌, ◌≤◌, Bool, true, false, ◌||◌, List, [], ◌∷◌, ◌++◌, length, All, Option, Result, Ok, Err}
use Rattle.config_groups.specs.declared.settings.Settings.{Settings}
use Rattle.gate_model.specs.Acceptor.{Deed, CountsFaults, MayBeHanded}
use Rattle.gate_model.specs.declared.reply.Reply.{Reply}
use Rattle.gate_model.specs.declared.reply.Refusal.{Refusal}
use Rattle.http_text.specs.Answer.{reply_text}
use Rattle.http_text.specs.Head.{NeedsMore}
use Rattle.http_text.specs.OneHead.{IsHead}
use Rattle.http_text.specs.declared.answer.Answer.{Answer}
use Rattle.http_text.specs.declared.answer.Answer.TheVariants.{OutOfMemory}
use Rattle.http_text.specs.declared.head.Head.{Head}
use Rattle.kn_base.specs.Clock.{AddsAll}
use Rattle.kn_base.specs.Count.{Rose}
use Rattle.kn_base.specs.Course.{Course, with_more, IsQuiet, Fails, Ends}
use Rattle.kn_base.specs.Talk.{said_of, heard_of, SaysAll, SaysFront}
use Rattle.kn_base.specs.declared.memory.Memory.{Memory}
use Rattle.kn_base.specs.declared.piece.Piece.{Piece}
use Rattle.kn_base.specs.declared.piece.Piece.TheVariants as piece_is
use Rattle.sms_record.specs.declared.sms.Sms.{Sms}
use Rattle.sendsms_http.specs.Events.{Event, IsReadAt, IsInTurn, AreOwn}
use Rattle.sendsms_http.specs.Request.{asked}
use Rattle.sendsms_http.specs.Session.{Exchange, IsExchange, IsKept, heard_in, said_in, times_in, deeds_in, AreAmong, IsPrompt, Serves}
use Rattle.sendsms_http.specs.Visit.{given_octets}
use Rattle.sendsms_http.specs.declared.http_end.HttpEnd.{HttpEnd}
use Rattle.sendsms_http.specs.declared.http_end.HttpEnd.TheVariants as end_is
use Rattle.sendsms_http.specs.declared.visit.Phase.{Phase}
use Rattle.sendsms_http.specs.declared.visit.Phase.TheVariants.{Submitting}
use Rattle.sendsms_http.specs.declared.visit.Phase.TheVariants as phase_is
use Rattle.sendsms_http.specs.declared.visit.Visit.{Visit}
use Rattle.sendsms_http.specs.declared.visit.VisitGiven.{VisitGiven}
use Rattle.sendsms_http.specs.declared.visit.VisitGiven.TheVariants as given_is
use Rattle.sendsms_http.specs.declared.visit.VisitWish.{VisitWish}
use Rattle.sendsms_http.specs.declared.visit.VisitWish.TheVariants as wish_is

-- ---- single steps

-- the end of a session whose visit came to an end, by the counts of want of memory at its beginning and now
abbrev pub IsEndOf : HttpEnd → ℕ → ℕ → HttpEnd → Type 0
IsEndOf end_is.Fault before now end_is.Memory = Rose before now
IsEndOf end_is.Fault before now end_is.Fault = ¬ (Rose before now)
IsEndOf end before now result = result ≡ end

-- octets were heard, at most so many
abbrev pub HearsOctets : ℕ → Course → List ℕ → Course → Type 0
HearsOctets room old octets new =
    (0 < length octets) × (length octets ≤ room) × (new.counts ≡ old.counts) × (new.talk ≡ with_more old.talk (piece_is.Heard octets ∷ []))

-- what came of listening, by what the visit is given; for want of memory octets may be lost
abbrev pub HearsSo : ℕ → Course → Result VisitGiven Memory → Course → Type 0
HearsSo room old (Ok (given_is.Heard octets)) new = HearsOctets room old octets new
HearsSo room old (Ok given_is.End) new = Ends old new
HearsSo room old (Ok given_is.Quiet) new = IsQuiet old new
HearsSo room old (Ok given_is.Fault) new = Fails old new
HearsSo room old (Ok given) new = ⊥
HearsSo room old (Err memory) new = (octets : List ℕ) × HearsOctets room old octets new

-- what came of saying a text
abbrev pub SaysSo : List ℕ → Course → VisitGiven → Course → Type 0
SaysSo text old given_is.Said new = SaysAll text old new
SaysSo text old given_is.SayFault new = (gone : ℕ) × SaysFront text gone old new
SaysSo text old given new = ⊥

-- octets were lost, and that was said, or a front of it; the connection closes
abbrev pub SaysLost : ℕ → Course → HttpEnd → Course → Type 0
SaysLost starved old end_is.End new = SaysAll (reply_text OutOfMemory true) old new
SaysLost starved old end new = (gone : ℕ) × SaysFront (reply_text OutOfMemory true) gone old new × IsEndOf end_is.Fault starved new.counts.starved end

-- ---- what was done so far

module _
    {S : Type 0} (leads : S → List Deed → S → Type 0) (faults : S → ℕ) (can_submit : S → Type 0) (settings : Settings)
    (store : S) (start : Course) (told : Option (List ℕ)) where
  -- What was heard and said: these exchanges, each answered whole, and octets that are left, so many in all.
  pub record Stands (pieces : List Piece) (kept : List Exchange) (left : List ℕ) (taken : ℕ) (ended : Bool) (now : Course) : Type 0 where
    pub kept_each : All (IsKept settings) kept
    pub heard : heard_of pieces ≡ heard_in kept ++ left
    pub said : said_of pieces ≡ said_in kept
    pub prompt : IsPrompt settings pieces
    pub many : length (heard_of pieces) ≡ taken
    pub talk : now.talk ≡ with_more start.talk pieces
    pub counts : now.counts ≡ record (start.counts) { ended = ended || start.counts.ended }

  -- What was read of the clock, among it these times, and what was handed in.
  pub record Has (readings times : List ℕ) (deeds : List Deed) (tells : Option (List ℕ)) (later : S) : Type 0 where
    pub timed : AreAmong times readings
    pub clock : AddsAll readings told tells
    pub led : leads store deeds later
    pub own : AreOwn leads faults store later deeds
    pub counts : CountsFaults (faults store) (faults later) deeds

  -- Nothing is owed an answer.
  pub record Waits (left : List ℕ) (taken : ℕ) (ended : Bool) (now : Course) (tells : Option (List ℕ)) (later : S) : Type 0 where
    pub kept : List Exchange
    pub events : List Event
    pub pieces : List Piece
    pub readings : List ℕ
    pub stands : Stands pieces kept left taken ended now
    pub has : Has readings (times_in kept) (deeds_in kept) tells later
    pub turn : IsInTurn settings events pieces readings (deeds_in kept) kept
    pub ready : can_submit later

  -- The parts that a request asks for are handed in, or are to be.
  pub record Hands
      (left : List ℕ) (taken : ℕ) (now : Course) (tells : Option (List ℕ)) (later : S) (time : ℕ) (parts : List Sms) (deeds : List Deed) (phase : Phase) : Type 0 where
    pub kept : List Exchange
    pub front : List ℕ
    pub head : Head
    pub heard : IsHead front head
    pub asks : asked settings head time ≡ Ok parts
    pub in_phase : phase ≡ Submitting (head.close || head.body)
    pub events : List Event
    pub pieces : List Piece
    pub readings : List ℕ
    pub stands : Stands pieces kept (front ++ left) taken false now
    pub has : Has readings (times_in kept ++ time ∷ []) (deeds_in kept ++ deeds) tells later
    pub turn : IsInTurn settings events pieces readings (deeds_in kept ++ deeds) kept
    pub read_at : IsReadAt events kept front time

  -- An answer is owed.
  pub record Answers
      (left : List ℕ) (taken : ℕ) (now : Course) (tells : Option (List ℕ)) (later : S) (answer : Answer) (close : Bool) : Type 0 where
    pub kept : List Exchange
    pub ended : Bool
    pub exchange : Exchange
    pub exchanged : IsExchange settings ended exchange
    pub answered : exchange.answer ≡ answer
    pub closes : exchange.close ≡ close
    pub events : List Event
    pub pieces : List Piece
    pub readings : List ℕ
    pub stands : Stands pieces kept (exchange.octets ++ left) taken ended now
    pub has : Has readings (times_in (kept ++ exchange ∷ [])) (deeds_in (kept ++ exchange ∷ [])) tells later
    pub turn : IsInTurn settings events pieces readings (deeds_in (kept ++ exchange ∷ [])) (kept ++ exchange ∷ [])
    pub open_yet : close ≡ false → ended ≡ false
    pub ready : can_submit later

  -- A take came to nothing.
  pub record Stops (Stopped : Course → Course → Type 0) (left : List ℕ) (taken : ℕ) (now : Course) (tells : Option (List ℕ)) (later : S) : Type 0 where
    pub before : Course
    pub waits : Waits left taken false before tells later
    pub more : NeedsMore left
    pub stopped : Stopped before now

  -- An answer was said, or a front of it.
  pub record Says (Saying : List ℕ → Course → Course → Type 0) (visit : Visit) (now : Course) (tells : Option (List ℕ)) (later : S) : Type 0 where
    pub answer : Answer
    pub close : Bool
    pub before : Course
    pub answers : Answers visit.kept visit.taken before tells later answer close
    pub phase : visit.phase ≡ phase_is.Saying close
    pub said : Saying (reply_text answer close) before now

  -- The store answered to what was handed in.
  pub record Decides (visit : Visit) (now : Course) (tells : Option (List ℕ)) (later : S) (outcome : Result Reply Refusal) : Type 0 where
    pub time : ℕ
    pub parts : List Sms
    pub hands : Hands visit.kept visit.taken now tells later time parts (record { parts = parts; time = time; outcome = outcome } ∷ []) visit.phase
    pub ready : can_submit later

  -- what is so when something is given to the visit
  abbrev pub Due : VisitGiven → Visit → Course → Option (List ℕ) → S → Type 0
  Due given_is.Begin visit now tells later = Waits visit.kept visit.taken false now tells later
  Due (given_is.Heard octets) visit now tells later = Waits (visit.kept ++ octets) (visit.taken + length octets) false now tells later
  Due given_is.End visit now tells later = Waits visit.kept visit.taken true now tells later × NeedsMore visit.kept
  Due given_is.Quiet visit now tells later = Stops IsQuiet visit.kept visit.taken now tells later
  Due given_is.Fault visit now tells later = Stops Fails visit.kept visit.taken now tells later
  Due given_is.Said visit now tells later = Says SaysAll visit now tells later
  Due given_is.SayFault visit now tells later = Says (λ text old new. (gone : ℕ) × SaysFront text gone old new) visit now tells later
  Due (given_is.Answered outcome) visit now tells later = Decides visit now tells later outcome

  -- what is so when the visit wishes something, of at most so many octets; where it is over, the session is over with it
  abbrev pub Wished : ℕ → VisitWish → Visit → Course → Option (List ℕ) → S → Type 0
  Wished budget wish_is.Listen visit now tells later = Waits visit.kept visit.taken false now tells later
  Wished budget (wish_is.Submit time parts) visit now tells later =
      Hands visit.kept visit.taken now tells later time parts.items [] visit.phase × MayBeHanded parts.items time × can_submit later
  Wished budget (wish_is.Say answer close) visit now tells later = Answers visit.kept visit.taken now tells later answer close
  Wished budget (wish_is.Over end) visit now tells later =
      (result : HttpEnd) → IsEndOf end start.counts.starved now.counts.starved result → Serves leads faults store later settings budget start now told tells result

-- ---- why it ends

-- how far off the next step is, by what is given
abbrev pub rank : VisitGiven → ℕ
rank (given_is.Answered outcome) = 2
rank given_is.Begin = 1
rank (given_is.Heard octets) = 1
rank given_is.Said = 1
rank given = 0

-- a number that falls at each step: octets that may still be heard count twice, and those that are kept once
abbrev pub potential : Visit → VisitGiven → ℕ
potential visit given = 4 * (2 * (visit.budget - visit.taken) + length visit.kept - length (given_octets given)) + rank given
