-- The entries that the gate's store records: which there are, what each is about, and the octets of each.
use Rattle.std.specs.Prelude.{ℕ, ◌+◌, ◌<◌, ◌≤◌, ◌^◌, ⊤, List, [], ◌∷◌, ◌++◌, length, All, Option, Some, None, sum_by}
use Rattle.std.specs.List.{flat_map}
use Rattle.exact_octets.specs.Numbers.{number}
use Rattle.exact_octets.specs.Spelling.{long}
use Rattle.sms_record.specs.declared.kind.Kind.{Kind}
use Rattle.sms_record.specs.declared.kind.Kind.TheVariants.{Delivered, Undelivered, Buffered, Sent, Refused}
use Rattle.sms_record.specs.declared.sms.Sms.{Sms}
use Rattle.sms_record.specs.Record.{IsSms, sms_octets}
use Rattle.gate_entries.specs.Limits.{most_messages, most_arrivals, most_text}
use Rattle.gate_entries.specs.declared.accept.Accept.{Accept}
use Rattle.gate_entries.specs.declared.acked.Acked.{Acked}
use Rattle.gate_entries.specs.declared.cause.Cause.{Cause}
use Rattle.gate_entries.specs.declared.cause.Cause.TheVariants.{Centre, Expired}
use Rattle.gate_entries.specs.declared.rejected.Rejected.{Rejected}
use Rattle.gate_entries.specs.declared.reported.Reported.{Reported}
use Rattle.gate_entries.specs.declared.arrived.Arrived.{Arrived}
use Rattle.gate_entries.specs.declared.answered.Answered.{Answered}
use Rattle.gate_entries.specs.declared.called.Called.{Called}
use Rattle.gate_entries.specs.declared.call_dropped.DropCause.{DropCause}
use Rattle.gate_entries.specs.declared.call_dropped.DropCause.TheVariants.{BadUrl, Tries}
use Rattle.gate_entries.specs.declared.call_dropped.CallDropped.{CallDropped}
use Rattle.gate_entries.specs.declared.recorded.Recorded.{Recorded}
use Rattle.gate_entries.specs.declared.recorded.Recorded.TheVariants as entry

-- ---- what an entry is about

pub record About : Type 0 where
  -- when it happened, where it says so
  pub time : Option ℕ
  -- the message, the job and the arrivals that it ends
  pub message : Option ℕ
  pub job : Option ℕ
  pub arrivals : List ℕ
  -- the messages that it hands in
  pub parts : List Sms
  -- the SMSC id and the foreign id by which a message is known to its centre
  pub key : Option (List ℕ × List ℕ)

abbrev nothing : About
nothing = record { time = None; message = None; job = None; arrivals = []; parts = []; key = None }

abbrev pub about : Recorded → About
about (entry.Accept accept) = record nothing { time = Some accept.time; parts = accept.parts }
about (entry.Acked acked) = record nothing { time = Some acked.time; message = Some acked.message; key = Some (acked.smsc, acked.foreign) }
about (entry.Rejected rejected) = record nothing { time = Some rejected.time; message = Some rejected.message }
about (entry.Reported reported) = record nothing { time = Some reported.time; key = Some (reported.smsc, reported.foreign) }
about (entry.Arrived arrived) = record nothing { time = Some arrived.sms.time }
about (entry.Answered answered) = record nothing { time = Some answered.time; arrivals = answered.arrivals; parts = answered.parts }
about (entry.Called called) = record nothing { job = Some called.job }
about (entry.CallDropped dropped) = record nothing { job = Some dropped.job }

-- the messages that an entry hands in, and the message that it ends
abbrev pub parts_of : Recorded → List Sms
parts_of kept = (about kept).parts

abbrev pub ended_message : Recorded → Option ℕ
ended_message kept = (about kept).message

abbrev pub ended_job : Recorded → Option ℕ
ended_job kept = (about kept).job

-- ---- fields

-- a number of eight octets
abbrev pub IsNumber : ℕ → Type 0
IsNumber n = n < 2 ^ 64

-- an SMSC id, a foreign id or a text, behind a length of two octets
abbrev pub IsText : List ℕ → Type 0
IsText text = length text ≤ most_text

-- an SMSC id and a foreign id
abbrev pub ids : List ℕ → List ℕ → List ℕ
ids smsc foreign = long smsc ++ long foreign

-- how many numbers there are, and each in eight octets
abbrev pub numbers : List ℕ → List ℕ
numbers ns = number 2 (length ns) ++ flat_map (number 8) ns

-- how many messages there are, and their records
abbrev pub messages : List Sms → List ℕ
messages parts = number 2 (length parts) ++ flat_map sms_octets parts

-- ---- kind 01, Accept: messages that were taken at one time

-- the grammar: at least one message, and a time of eight octets
pub record IsAccept (accept : Accept) : Type 0 where
  pub in_time : accept.time < 2 ^ 64
  pub some : 1 ≤ length accept.parts
  pub few : length accept.parts ≤ most_messages
  pub each : All IsSms accept.parts

-- the time, and the messages
abbrev pub accept_fields : Accept → List ℕ
accept_fields accept = number 8 accept.time ++ messages accept.parts

abbrev pub accept_octets : Accept → List ℕ
accept_octets accept = 1 ∷ accept_fields accept

-- how many octets the entry has
abbrev pub accept_size : Accept → ℕ
accept_size accept = 11 + sum_by (λ sms. length (sms_octets sms)) accept.parts

-- ---- kind 02, Acked: a centre took a message

pub record IsAcked (acked : Acked) : Type 0 where
  pub message : IsNumber acked.message
  pub smsc : IsText acked.smsc
  pub foreign : IsText acked.foreign
  pub time : IsNumber acked.time

abbrev pub acked_fields : Acked → List ℕ
acked_fields acked = number 8 acked.message ++ (ids acked.smsc acked.foreign ++ number 8 acked.time)

-- ---- kind 03, Rejected: a message won't be sent

abbrev pub IsCause : Cause → Type 0
IsCause (Centre code) = code < 2 ^ 32
IsCause Expired = ⊤

-- 00 and the centre's code, or 01
abbrev pub cause_octets : Cause → List ℕ
cause_octets (Centre code) = 0 ∷ number 4 code
cause_octets Expired = 1 ∷ []

pub record IsRejected (rejected : Rejected) : Type 0 where
  pub message : IsNumber rejected.message
  pub smsc : IsText rejected.smsc
  pub cause : IsCause rejected.cause
  pub time : IsNumber rejected.time

abbrev pub rejected_fields : Rejected → List ℕ
rejected_fields rejected = number 8 rejected.message ++ (long rejected.smsc ++ (cause_octets rejected.cause ++ number 8 rejected.time))

-- ---- kind 04, Reported: a centre said what became of a message that it took

-- the bit of a kind of reports in a mask
abbrev pub kind_value : Kind → ℕ
kind_value Delivered = 1
kind_value Undelivered = 2
kind_value Buffered = 4
kind_value Sent = 8
kind_value Refused = 16

-- what a centre can report: the other kinds are said by its answer
abbrev pub IsReportKind : Kind → Type 0
IsReportKind Delivered = ⊤
IsReportKind Undelivered = ⊤
IsReportKind Buffered = ⊤
IsReportKind Sent = ⊥
IsReportKind Refused = ⊥

pub record IsReported (reported : Reported) : Type 0 where
  pub smsc : IsText reported.smsc
  pub foreign : IsText reported.foreign
  pub kind : IsReportKind reported.kind
  pub text : IsText reported.text
  pub time : IsNumber reported.time

abbrev pub reported_fields : Reported → List ℕ
reported_fields reported = ids reported.smsc reported.foreign ++ ((kind_value reported.kind ∷ []) ++ (long reported.text ++ number 8 reported.time))

-- ---- kind 05, Arrived: a message came from a centre

pub record IsArrived (arrived : Arrived) : Type 0 where
  pub smsc : IsText arrived.smsc
  pub sms : IsSms arrived.sms

abbrev pub arrived_fields : Arrived → List ℕ
arrived_fields arrived = long arrived.smsc ++ sms_octets arrived.sms

-- ---- kind 06, Answered: arrivals were dealt with, and these are their replies

pub record IsAnswered (answered : Answered) : Type 0 where
  pub some : 1 ≤ length answered.arrivals
  pub few_arrivals : length answered.arrivals ≤ most_arrivals
  pub arrivals : All IsNumber answered.arrivals
  pub few : length answered.parts ≤ most_messages
  pub each : All IsSms answered.parts
  pub time : IsNumber answered.time

abbrev pub answered_fields : Answered → List ℕ
answered_fields answered = numbers answered.arrivals ++ (number 8 answered.time ++ messages answered.parts)

-- ---- kind 07, Called: the URL of a job was called

pub record IsCalled (called : Called) : Type 0 where
  pub job : IsNumber called.job
  pub status : called.status < 2 ^ 16

abbrev pub called_fields : Called → List ℕ
called_fields called = number 8 called.job ++ number 2 called.status

-- ---- kind 08, CallDropped: the URL of a job won't be called

abbrev pub drop_code : DropCause → ℕ
drop_code BadUrl = 0
drop_code Tries = 1

abbrev pub IsCallDropped : CallDropped → Type 0
IsCallDropped dropped = IsNumber dropped.job

abbrev pub call_dropped_fields : CallDropped → List ℕ
call_dropped_fields dropped = number 8 dropped.job ++ (drop_code dropped.cause ∷ [])

-- ---- an entry of any kind

-- the grammar
abbrev pub IsEntry : Recorded → Type 0
IsEntry (entry.Accept accept) = IsAccept accept
IsEntry (entry.Acked acked) = IsAcked acked
IsEntry (entry.Rejected rejected) = IsRejected rejected
IsEntry (entry.Reported reported) = IsReported reported
IsEntry (entry.Arrived arrived) = IsArrived arrived
IsEntry (entry.Answered answered) = IsAnswered answered
IsEntry (entry.Called called) = IsCalled called
IsEntry (entry.CallDropped dropped) = IsCallDropped dropped

-- the octets: its kind, and its fields
abbrev pub entry_octets : Recorded → List ℕ
entry_octets (entry.Accept accept) = accept_octets accept
entry_octets (entry.Acked acked) = 2 ∷ acked_fields acked
entry_octets (entry.Rejected rejected) = 3 ∷ rejected_fields rejected
entry_octets (entry.Reported reported) = 4 ∷ reported_fields reported
entry_octets (entry.Arrived arrived) = 5 ∷ arrived_fields arrived
entry_octets (entry.Answered answered) = 6 ∷ answered_fields answered
entry_octets (entry.Called called) = 7 ∷ called_fields called
entry_octets (entry.CallDropped dropped) = 8 ∷ call_dropped_fields dropped
