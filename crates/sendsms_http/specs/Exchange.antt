-- The exchanges of a connection over HTTP: what was heard of a request, its answer, and what it came to.
use Rattle.std.specs.Prelude.{◌≡◌, ◌≢◌, ◌⊎◌, ℕ, Bool, true, false, ◌||◌, List, [], ◌∷◌, ◌++◌, Option, Some, None, Result, Ok, Err, IfOk, ⊤}
use Rattle.std.specs.List.{flat_map}
use Rattle.config_groups.specs.declared.settings.Settings.{Settings}
use Rattle.gate_model.specs.Acceptor.{Deed}
use Rattle.gate_model.specs.Reply.{IsAccepted}
use Rattle.gate_model.specs.declared.reply.Reply.{Reply}
use Rattle.gate_model.specs.declared.reply.Refusal.{Refusal}
use Rattle.http_text.specs.Answer.{reply_text}
use Rattle.http_text.specs.Head.{NeverHas, NeedsMore, IsTooLong}
use Rattle.http_text.specs.OneHead.{IsHead}
use Rattle.http_text.specs.declared.answer.Answer.{Answer}
use Rattle.http_text.specs.declared.answer.Answer.TheVariants.{BadRequest, OutOfMemory}
use Rattle.http_text.specs.declared.answer.spot.Spot.TheVariants as spot_is
use Rattle.http_text.specs.declared.head.Head.{Head}
use Rattle.sms_record.specs.declared.sms.Sms.{Sms}
use Rattle.sendsms_http.specs.Reply.{answer_of}
use Rattle.sendsms_http.specs.Request.{asked}

-- ---- one request and its answer

-- What was heard of a request, the reading at which it was read, what was handed in for it, its answer, and whether the connection closes
-- behind that.
pub record Exchange : Type 0 where
  pub octets : List ℕ
  pub times : List ℕ
  pub deeds : List Deed
  pub answer : Answer
  pub close : Bool

-- the octets of its answer
abbrev pub text_of : Exchange → List ℕ
text_of exchange = reply_text exchange.answer exchange.close

-- what a request came to by what it asks, at a reading: a refusal, or the parts were handed in, and the outcome decides: they were
-- accepted or refused
abbrev pub ComesTo : Result (List Sms) Answer → ℕ → List Deed → Answer → Type 0
ComesTo (Err refusal) now deeds answer = (deeds ≡ []) × (answer ≡ refusal)
ComesTo (Ok parts) now deeds answer =
    (outcome : Result Reply Refusal) × IfOk outcome IsAccepted
    × (deeds ≡ record { parts = parts; time = now; outcome = outcome } ∷ []) × (answer ≡ answer_of outcome)

-- want of memory, which may stand in the place of any answer: nothing was handed in
abbrev pub IsOutOfMemory : List Deed → Answer → Type 0
IsOutOfMemory deeds answer = (deeds ≡ []) × (answer ≡ OutOfMemory)

-- the answers behind which the connection closes in any case
abbrev pub closes_always : Answer → Bool
closes_always (BadRequest spot_is.Head) = true
closes_always OutOfMemory = true
closes_always answer = false

-- the connection closes behind the answer to a request: it says so, or a body follows that wasn't read, or by the answer
abbrev pub closes : Head → Answer → Bool
closes head answer = (head.close || head.body) || closes_always answer

-- A request was read at one reading of the clock, and what it asks at that decided its answer, but for want of memory.
pub record AnswersRequest (settings : Settings) (exchange : Exchange) : Type 0 where
  pub head : Head
  pub heard : IsHead exchange.octets head
  pub now : ℕ
  pub time : exchange.times ≡ now ∷ []
  pub comes_to : ComesTo (asked settings head now) now exchange.deeds exchange.answer ⊎ IsOutOfMemory exchange.deeds exchange.answer
  pub close : exchange.close ≡ closes head exchange.answer

-- the octets are no request, and nothing more is waited for: no head can come, or as many octets as are looked at were heard; or more
-- were needed, and the input ended
abbrev pub IsNoRequest : List ℕ → Bool → Type 0
IsNoRequest octets false = NeverHas octets ⊎ IsTooLong octets
IsNoRequest octets true = NeedsMore octets

-- Some octets that are no request were refused.
pub record RefusesOctets (ended : Bool) (exchange : Exchange) : Type 0 where
  pub some : exchange.octets ≢ []
  pub no_request : IsNoRequest exchange.octets ended
  pub answered : exchange.answer ≡ BadRequest spot_is.Head

-- Octets for which there was no memory.
pub record WantsMemory (exchange : Exchange) : Type 0 where
  pub some : exchange.octets ≢ []
  pub answered : exchange.answer ≡ OutOfMemory

-- Octets that were not read as a request, behind whose answer the connection closes.
pub record AnswersOctets (ended : Bool) (exchange : Exchange) : Type 0 where
  pub cause : RefusesOctets ended exchange ⊎ WantsMemory exchange
  pub no_time : exchange.times ≡ []
  pub no_deed : exchange.deeds ≡ []
  pub close : exchange.close ≡ true

-- whatever was answered; ended says whether the input ended
abbrev pub IsExchange : Settings → Bool → Exchange → Type 0
IsExchange settings ended exchange = AnswersRequest settings exchange ⊎ AnswersOctets ended exchange

-- a request behind whose answer the connection was kept
abbrev pub IsKept : Settings → Exchange → Type 0
IsKept settings exchange = AnswersRequest settings exchange × (exchange.close ≡ false)

-- ---- several of them

-- the exchanges, with the last one
abbrev pub with_last : List Exchange → Option Exchange → List Exchange
with_last exchanges None = exchanges
with_last exchanges (Some last) = exchanges ++ last ∷ []

-- what was heard, said, read and handed in, one exchange behind the other
abbrev pub heard_in : List Exchange → List ℕ
heard_in exchanges = flat_map (λ exchange. exchange.octets) exchanges

abbrev pub said_in : List Exchange → List ℕ
said_in exchanges = flat_map text_of exchanges

abbrev pub times_in : List Exchange → List ℕ
times_in exchanges = flat_map (λ exchange. exchange.times) exchanges

abbrev pub deeds_in : List Exchange → List Deed
deeds_in exchanges = flat_map (λ exchange. exchange.deeds) exchanges

-- the times are some of the readings, in their order
abbrev pub AreAmong : List ℕ → List ℕ → Type 0
AreAmong [] readings = ⊤
AreAmong (time ∷ times) [] = ⊥
AreAmong (time ∷ times) (reading ∷ readings) = ((time ≡ reading) × AreAmong times readings) ⊎ AreAmong (time ∷ times) readings
