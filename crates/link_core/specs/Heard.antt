-- What each thing that is heard keeps to, in every protocol.
use Rattle.std.specs.Prelude.{◌≡◌, ℕ, ◌≤◌, ◌<◌, ◌^◌, ⊤, List, length}
use Rattle.sms_record.specs.declared.kind.Kind.{Kind}
use Rattle.sms_record.specs.declared.kind.Kind.TheVariants as kind
use Rattle.sms_record.specs.Limits.{most_body, most_name}
use Rattle.sms_record.specs.declared.sms.Sms.{Sms}
use Rattle.sms_record.specs.Record.{IsSms}
use Rattle.link_core.specs.declared.verdict.Verdict.{Verdict}
use Rattle.link_core.specs.declared.verdict.Verdict.TheVariants.{Good, Temporary, Permanent}
use Rattle.link_core.specs.declared.heard.Heard.{Heard}
use Rattle.link_core.specs.declared.heard.Heard.TheVariants as heard
use Rattle.link_core.specs.Arrivals.{arrival_of}

-- the tag of a frame
abbrev pub heard_tag : Heard → ℕ
heard_tag (heard.Login tag code) = tag
heard_tag (heard.Reply tag verdict) = tag
heard_tag (heard.Report tag foreign kind text) = tag
heard_tag (heard.Message tag sms) = tag
heard_tag (heard.Keep tag) = tag
heard_tag (heard.KeepReply tag) = tag
heard_tag (heard.Bye tag) = tag
heard_tag (heard.ByeReply tag) = tag
heard_tag (heard.Nack tag code) = tag
heard_tag (heard.Strange tag id) = tag

-- ids of a centre and the words of a report, which the store keeps
abbrev pub IsShort : List ℕ → Type 0
IsShort octets = length octets ≤ most_body

abbrev pub IsSoundVerdict : Verdict → Type 0
IsSoundVerdict (Good foreign) = IsShort foreign
IsSoundVerdict (Temporary code) = ⊤
IsSoundVerdict (Permanent code) = ⊤

-- a centre reports that a message was delivered, wasn't, or is buffered
abbrev pub IsReported : Kind → Type 0
IsReported kind.Delivered = ⊤
IsReported kind.Undelivered = ⊤
IsReported kind.Buffered = ⊤
IsReported kind.Sent = ⊥
IsReported kind.Refused = ⊥

-- a message that was heard: nothing that a frame doesn't say is known of it, and with a time and an SMSC id it has a record
pub record IsArrival (sms : Sms) : Type 0 where
  pub bare : sms ≡ arrival_of sms.sender sms.receiver sms.coding sms.class sms.udh sms.body
  pub recorded : (time : ℕ) (smsc : List ℕ) → time < 2 ^ 37 → length smsc ≤ most_name → IsSms (record sms { smsc = smsc; time = time })

abbrev pub IsSound : Heard → Type 0
IsSound (heard.Login tag code) = ⊤
IsSound (heard.Reply tag verdict) = IsSoundVerdict verdict
IsSound (heard.Report tag foreign kind text) = IsShort foreign × IsReported kind × IsShort text
IsSound (heard.Message tag sms) = IsArrival sms
IsSound (heard.Keep tag) = ⊤
IsSound (heard.KeepReply tag) = ⊤
IsSound (heard.Bye tag) = ⊤
IsSound (heard.ByeReply tag) = ⊤
IsSound (heard.Nack tag code) = ⊤
IsSound (heard.Strange tag id) = ⊤
