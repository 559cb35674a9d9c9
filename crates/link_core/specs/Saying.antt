-- What may be said, and how it is told that it was.
use Rattle.std.specs.Prelude.{◌≡◌, ℕ, ◌<◌, ◌≤◌, ◌^◌, ⊤, true, List}
use Rattle.sms_record.specs.declared.sms.Sms.{Sms}
use Rattle.sms_record.specs.Record.{IsSms}
use Rattle.route_rules.specs.declared.link_kind.LinkKind.{LinkKind}
use Rattle.route_rules.specs.Carriage.{carries}
use Rattle.link_core.specs.declared.heard.Heard.{Heard}
use Rattle.link_core.specs.declared.heard.Heard.TheVariants as heard
use Rattle.link_core.specs.declared.out.Out.{Out}
use Rattle.link_core.specs.declared.out.Out.TheVariants as out
use Rattle.link_core.specs.Heard.{heard_tag}

-- the tag of what is said
abbrev pub out_tag : Out → ℕ
out_tag (out.Login tag) = tag
out_tag (out.Submit tag number sms now) = tag
out_tag (out.ReportReply tag) = tag
out_tag (out.MessageReply tag good) = tag
out_tag (out.Keep tag) = tag
out_tag (out.KeepReply tag) = tag
out_tag (out.ByeReply tag) = tag
out_tag (out.Nack tag id) = tag

-- a message that may be said: it has a record, the protocol carries it, and it was asked for before it is said
pub record IsSubmit (kind : LinkKind) (number : ℕ) (sms : Sms) (now : ℕ) : Type 0 where
  pub numbered : number < 2 ^ 63
  pub recorded : IsSms sms
  pub carried : carries kind sms ≡ true
  pub asked : sms.time ≤ now
  pub early : now < 2 ^ 37

-- the protocol can hear it: some frame says it
abbrev pub CanHear : (List ℕ → Heard → Type 0) → Heard → Type 0
CanHear hears heard = (octets : List ℕ) × hears octets heard

-- an answer to a question, to an end or to a strange frame may be said where the protocol can hear one
abbrev pub MaySay : LinkKind → (List ℕ → Heard → Type 0) → Out → Type 0
MaySay kind hears (out.Login tag) = ⊤
MaySay kind hears (out.Submit tag number sms now) = IsSubmit kind number sms now
MaySay kind hears (out.ReportReply tag) = ⊤
MaySay kind hears (out.MessageReply tag good) = ⊤
MaySay kind hears (out.Keep tag) = ⊤
MaySay kind hears (out.KeepReply tag) = (from : ℕ) × CanHear hears (heard.Keep from)
MaySay kind hears (out.ByeReply tag) = (from : ℕ) × CanHear hears (heard.Bye from)
MaySay kind hears (out.Nack tag id) = (from : ℕ) × CanHear hears (heard.Strange from id)

-- octets are one whole frame with this tag
pub record IsFrameWith (hears : List ℕ → Heard → Type 0) (tag : ℕ) (octets : List ℕ) : Type 0 where
  pub heard : Heard
  pub frame : hears octets heard
  pub tagged : heard_tag heard ≡ tag
