-- What a command is heard as (SMPP 3.4, section 4), and which octets are refused.
use Rattle.std.specs.Prelude.{◌≡◌, ℕ, Bool, ◌==◌, ◌||◌, List, [], if◌then◌else◌}
use Rattle.exact_octets.specs.Fronts.{BreaksOffAt}
use Rattle.smpp_wire.specs.declared.frame.Frame.TheVariants as answer
use Rattle.smpp_wire.specs.Ids.{generic_nack, submit_sm_resp, deliver_sm, deliver_sm_resp, unbind, unbind_resp, bind_transceiver_resp, enquire_link, enquire_link_resp}
use Rattle.smpp_wire.specs.Command.{Fields, SubmitReply, Command}
use Rattle.smpp_wire.specs.Grammar.{IsCommand, frame, IsFrame}
use Rattle.smpp_wire.specs.Answers.{refused}
use Rattle.link_core.specs.declared.verdict.Verdict.{Verdict}
use Rattle.link_core.specs.declared.verdict.Verdict.TheVariants as verdict
use Rattle.link_core.specs.declared.heard.Heard.{Heard}
use Rattle.link_core.specs.declared.heard.Heard.TheVariants as heard
use Rattle.smpp_link.specs.Delivery.{delivered}

-- ---- answers to messages

-- ESME_RSYSERR, ESME_RMSGQFUL, ESME_RTHROTTLED and ESME_RX_T_APPN (5.1.3): the message may be sent again
abbrev pub is_temporary : ℕ → Bool
is_temporary status = status == 0x08 || status == 0x14 || status == 0x58 || status == 0x64

-- an answer with ESME_ROK says the centre's id of the message; with any other status the message won't be taken
abbrev pub verdict_of : ℕ → List ℕ → Verdict
verdict_of status foreign =
    if status == 0 then verdict.Good foreign else
    if is_temporary status then verdict.Temporary status else verdict.Permanent status

-- the message_id (4.4.2), which may lack
abbrev pub foreign_in : Fields → List ℕ
foreign_in (SubmitReply message_id) = message_id
foreign_in fields = []

abbrev pub replied : (tag status : ℕ) → Fields → Heard
replied tag status fields = heard.Reply tag (verdict_of status (foreign_in fields))

-- ---- all commands

-- what is heard of a command by its header alone
abbrev pub told : (id tag status : ℕ) → Heard
told id tag status =
    if id == bind_transceiver_resp then heard.Login tag status else
    if id == unbind then heard.Bye tag else
    if id == unbind_resp then heard.ByeReply tag else
    if id == enquire_link then heard.Keep tag else
    if id == enquire_link_resp || id == deliver_sm_resp then heard.KeepReply tag else
    if id == generic_nack then heard.Nack tag status else
    heard.Strange tag id

abbrev pub heard_of : Command → Heard
heard_of c =
    if c.id == submit_sm_resp then replied c.sequence c.status c.fields else
    if c.id == deliver_sm then delivered c.sequence c.fields else
    told c.id c.sequence c.status

-- octets are the frame of a command, which is heard so
pub record Hears (octets : List ℕ) (said : Heard) : Type 0 where
  pub command : Command
  pub good : IsCommand command
  pub frame_is : octets ≡ frame command
  pub heard_is : said ≡ heard_of command

-- octets with which no frame begins are refused as frames are
pub record Refuses (octets : List ℕ) (at code : ℕ) : Type 0 where
  pub seen : ℕ
  pub off : BreaksOffAt IsFrame octets seen
  pub place : answer.Bad at code ≡ refused seen
