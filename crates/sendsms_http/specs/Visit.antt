-- One connection by itself: what it keeps, and what it wishes by what it is given.
use Rattle.std.specs.Prelude.{◌≡◌, ℕ, ◌+◌, ◌<◌, ◌≤◌, Bool, true, false, ◌||◌, List, [], ◌∷◌, ◌++◌, length, Result, Ok, IfOk, ⊤}
use Rattle.config_groups.specs.declared.settings.Settings.{Settings}
use Rattle.gate_model.specs.Acceptor.{MayBeHanded}
use Rattle.gate_model.specs.Reply.{IsAccepted}
use Rattle.gate_model.specs.declared.reply.Reply.{Reply}
use Rattle.gate_model.specs.declared.reply.Refusal.{Refusal}
use Rattle.http_text.specs.Head.{NeedsMore}
use Rattle.http_text.specs.OneHead.{IsHead}
use Rattle.http_text.specs.Place.{EndsAt}
use Rattle.http_text.specs.declared.answer.Answer.{Answer}
use Rattle.http_text.specs.declared.head.Head.{Head}
use Rattle.sms_record.specs.declared.sms.Sms.{Sms}
use Rattle.sendsms_http.specs.Reply.{answer_of}
use Rattle.sendsms_http.specs.Request.{asked}
use Rattle.sendsms_http.specs.Session.{Exchange, IsExchange, AreAmong, closes_always}
use Rattle.sendsms_http.specs.declared.http_end.HttpEnd.TheVariants as end_is
use Rattle.sendsms_http.specs.declared.visit.Phase.{Phase}
use Rattle.sendsms_http.specs.declared.visit.Phase.TheVariants.{Fresh, Listening, Submitting, Saying, Done}
use Rattle.sendsms_http.specs.declared.visit.Visit.{Visit}
use Rattle.sendsms_http.specs.declared.visit.VisitGiven.{VisitGiven}
use Rattle.sendsms_http.specs.declared.visit.VisitGiven.TheVariants as given_is
use Rattle.sendsms_http.specs.declared.visit.VisitWish.{VisitWish}
use Rattle.sendsms_http.specs.declared.visit.VisitWish.TheVariants.{Listen, Submit, Say, Over}

-- what a visit keeps, how many octets it was given, and how many it is given at most
abbrev pub kept_by : Visit → List ℕ
kept_by visit = visit.kept

abbrev pub taken_by : Visit → ℕ
taken_by visit = visit.taken

abbrev pub budget_of : Visit → ℕ
budget_of visit = visit.budget

-- A visit that hasn't begun.
pub record IsNew (budget : ℕ) (visit : Visit) : Type 0 where
  pub most : visit.budget ≡ budget
  pub taken : visit.taken ≡ 0
  pub kept : visit.kept ≡ []
  pub phase : visit.phase ≡ Fresh

-- what holds in each phase: where it listens more is needed, and more may be given
abbrev pub IsPhase : Phase → Visit → Type 0
IsPhase (Listening place) visit = NeedsMore visit.kept × EndsAt place visit.kept × (visit.taken < visit.budget)
IsPhase Fresh visit = (visit.kept ≡ []) × (visit.taken ≡ 0)
IsPhase phase visit = ⊤

-- A visit keeps no more than it was given, and was given no more than may be.
pub record IsVisit (visit : Visit) : Type 0 where
  pub within : visit.taken ≤ visit.budget
  pub phase : IsPhase visit.phase visit

-- the phase in which something is given, by the wish before it
abbrev pub FitsPhase : Phase → VisitGiven → Type 0
FitsPhase Fresh given_is.Begin = ⊤
FitsPhase (Listening place) (given_is.Heard octets) = 0 < length octets
FitsPhase (Listening place) given_is.Quiet = ⊤
FitsPhase (Listening place) given_is.End = ⊤
FitsPhase (Listening place) given_is.Fault = ⊤
FitsPhase (Submitting close) (given_is.Answered outcome) = IfOk outcome IsAccepted
FitsPhase (Saying close) given_is.Said = ⊤
FitsPhase (Saying close) given_is.SayFault = ⊤
FitsPhase phase given = ⊥

-- the octets that are given
abbrev pub given_octets : VisitGiven → List ℕ
given_octets (given_is.Heard octets) = octets
given_octets given = []

-- What is given comes of the last wish, and is within the budget.
pub record Fits (visit : Visit) (given : VisitGiven) : Type 0 where
  pub phase : FitsPhase visit.phase given
  pub within : visit.taken + length (given_octets given) ≤ visit.budget

-- the phase that belongs to a wish
abbrev pub IsPhaseOf : VisitWish → Phase → Type 0
IsPhaseOf Listen (Listening place) = ⊤
IsPhaseOf (Submit time parts) (Submitting close) = ⊤
IsPhaseOf (Say answer close) (Saying closing) = closing ≡ close
IsPhaseOf (Over end) Done = ⊤
IsPhaseOf wish phase = ⊥

-- A request was cut off the front of the octets, and its parts are to be handed in; the connection closes behind its answer, or not.
pub record Asks (settings : Settings) (now : ℕ) (octets : List ℕ) (visit : Visit) (time : ℕ) (parts : List Sms) : Type 0 where
  pub front : List ℕ
  pub head : Head
  pub heard : IsHead front head
  pub cut : octets ≡ front ++ visit.kept
  pub read_at : time ≡ now
  pub asks : asked settings head now ≡ Ok parts
  pub fits : MayBeHanded parts time
  pub phase : visit.phase ≡ Submitting (head.close || head.body)

-- Something was cut off the front of the octets, and is answered without the store.
pub record Owes (settings : Settings) (ended : Bool) (now : ℕ) (octets : List ℕ) (visit : Visit) (answer : Answer) (close : Bool) : Type 0 where
  pub exchange : Exchange
  pub exchanged : IsExchange settings ended exchange
  pub cut : octets ≡ exchange.octets ++ visit.kept
  pub timed : AreAmong exchange.times (now ∷ [])
  pub no_deed : exchange.deeds ≡ []
  pub answers : exchange.answer ≡ answer
  pub closes : exchange.close ≡ close

-- what is wished once octets are looked at
abbrev pub LooksAt : Settings → ℕ → List ℕ → Visit → VisitWish → Type 0
LooksAt settings now octets visit Listen = visit.kept ≡ octets
LooksAt settings now octets visit (Submit time parts) = Asks settings now octets visit time parts.items
LooksAt settings now octets visit (Say answer close) = Owes settings false now octets visit answer close
LooksAt settings now octets visit (Over end) =
    (visit.kept ≡ octets) × NeedsMore octets × (visit.taken ≡ visit.budget) × (end ≡ end_is.Budget visit.taken)

-- what is wished where the input ended behind what is kept: nothing is left, or what is left is refused
abbrev pub IsAtEnd : Settings → ℕ → List ℕ → Visit → VisitWish → Type 0
IsAtEnd settings now [] visit wish = (wish ≡ Over end_is.End) × (visit.kept ≡ [])
IsAtEnd settings now octets visit (Say answer close) = Owes settings true now octets visit answer close × (close ≡ true)
IsAtEnd settings now octets visit wish = ⊥

-- the answer by a store's outcome, and whether the connection closes behind it
abbrev pub answered : Result Reply Refusal → Bool → VisitWish
answered outcome close = Say (answer_of outcome) (close || closes_always (answer_of outcome))

-- what is wished by a store's outcome
abbrev pub IsAnswered : Phase → Result Reply Refusal → VisitWish → Type 0
IsAnswered (Submitting close) outcome wish = wish ≡ answered outcome close
IsAnswered phase outcome wish = ⊥

-- what is wished once an answer was said: nothing where it closes, else what is kept is looked at
abbrev pub IsSaid : Settings → ℕ → Visit → Phase → Visit → VisitWish → Type 0
IsSaid settings now old (Saying true) new wish = wish ≡ Over end_is.End
IsSaid settings now old phase new wish = LooksAt settings now old.kept new wish

-- what is wished by what is given
abbrev pub Wishes : Settings → ℕ → Visit → VisitGiven → VisitWish → Visit → Type 0
Wishes settings now old given_is.Begin wish new = LooksAt settings now old.kept new wish
Wishes settings now old (given_is.Heard octets) wish new = LooksAt settings now (old.kept ++ octets) new wish
Wishes settings now old given_is.Quiet wish new = wish ≡ Over end_is.Quiet
Wishes settings now old given_is.End wish new = IsAtEnd settings now old.kept new wish
Wishes settings now old given_is.Fault wish new = wish ≡ Over end_is.Fault
Wishes settings now old given_is.Said wish new = IsSaid settings now old old.phase new wish
Wishes settings now old given_is.SayFault wish new = wish ≡ Over end_is.Fault
Wishes settings now old (given_is.Answered outcome) wish new = (new.kept ≡ old.kept) × IsAnswered old.phase outcome wish

-- One step of a visit.
pub record IsNext (settings : Settings) (now : ℕ) (old : Visit) (given : VisitGiven) (wish : VisitWish) (new : Visit) : Type 0 where
  pub wishes : Wishes settings now old given wish new
  pub phase : IsPhaseOf wish new.phase
  pub taken : new.taken ≡ old.taken + length (given_octets given)
  pub budget : new.budget ≡ old.budget
