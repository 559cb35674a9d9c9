-- What entries do to a state.
use Rattle.std.specs.Prelude.{ℕ, ◌+◌, ◌-◌, ◌^◌, Bool, true, false, ◌&&◌, min, List, [], ◌∷◌, ◌++◌, length, map, drop, fold, Option, Some, None, option_map, slice_set, if◌then◌else◌}
use Rattle.std.specs.Option.{option_and_then}
use Rattle.dlr_table.specs.Reports.{oldest}
use Rattle.dlr_table.specs.declared.awaited.Awaited.{Awaited}
use Rattle.report_urls.specs.Report.{acked_report, rejected_report, reported_report}
use Rattle.report_urls.specs.ReportUrl.{report_url, asks_centre}
use Rattle.url_escapes.specs.Words.{is_filled}
use Rattle.gate_entries.specs.declared.acked.Acked.{Acked}
use Rattle.gate_entries.specs.declared.reported.Reported.{Reported}
use Rattle.sms_record.specs.declared.kind.Kind.{Kind}
use Rattle.sms_record.specs.declared.kind.Kind.TheVariants.{Delivered, Undelivered, Buffered, Sent, Refused}
use Rattle.sms_record.specs.declared.sms.Sms.{Sms}
use Rattle.gate_entries.specs.declared.recorded.Recorded.{Recorded}
use Rattle.gate_entries.specs.declared.recorded.Recorded.TheVariants as entry
use Rattle.gate_entries.specs.declared.passing.Passing.{Passing}
use Rattle.gate_entries.specs.declared.passing.Passing.TheVariants.{Up, Down, Took, Returned, TookJob, ReturnedJob, TookArrival, ReturnedArrival}
use Rattle.gate_model.specs.declared.job.Job.{Job}
use Rattle.gate_model.specs.declared.waiting.Waiting.{Waiting}
use Rattle.gate_model.specs.Numbers.{value_under, without, with_change, numbered_from}
use Rattle.gate_model.specs.State.{State, Lists, with_list}

-- What happens to a store: an entry that it keeps, or one that is forgotten when it ends.
pub data Entry : Type 0 where
  recorded : Recorded → Entry
  passing : Passing → Entry

-- ---- messages

-- a message that no link has taken
abbrev pub unleased : Sms → Waiting
unleased sms = record { sms = sms; lease = None }

-- messages get the next numbers, and wait
abbrev pub accepts : List Sms → State → State
accepts parts state = record state {
  waiting = state.waiting ++ numbered_from (state.last_message + 1) (map unleased parts);
  accepted = state.accepted + length parts;
  last_message = state.last_message + length parts;
}

-- the message of a number, where it waits
abbrev pub sms_of : (message : ℕ) → State → Option Sms
sms_of message state = option_map (λ waiting. waiting.sms) (value_under message state.waiting)

-- a message no longer waits, and with it its lease ends
abbrev pub ends : (message : ℕ) → State → State
ends message state = record state { waiting = without message state.waiting }

-- the lease of a message is another one
abbrev pub leases : (message : ℕ) → (lease : Option ℕ) → State → State
leases message lease state = record state { waiting = with_change message (λ waiting. record waiting { lease = lease }) state.waiting }

-- ---- jobs

-- a URL that nobody has taken, nor given back
abbrev pub new_job : List ℕ → Job
new_job url = record { url = url; leased = false; returns = 0 }

-- a URL, where there is one
abbrev pub if_any : Option (List ℕ) → List (List ℕ)
if_any None = []
if_any (Some url) = url ∷ []

-- a URL, where there is one, is to be called, and gets the next number
abbrev pub calls : Option (List ℕ) → State → State
calls url state = record state {
  jobs = state.jobs ++ numbered_from (state.last_job + 1) (map new_job (if_any url));
  last_job = state.last_job + length (if_any url);
}

-- a job is done with, and with it its lease ends
abbrev pub ends_job : (job : ℕ) → State → State
ends_job job state = record state { jobs = without job state.jobs }

-- the most returns that are counted
abbrev pub most_returns : ℕ
most_returns = 2 ^ 32 - 1

-- a job is taken
abbrev pub takes_job : (job : ℕ) → State → State
takes_job job state = record state { jobs = with_change job (λ j. record j { leased = true }) state.jobs }

-- a job is given back
abbrev pub returns_job : (job : ℕ) → State → State
returns_job job state = record state {
  jobs = with_change job (λ j. record j { leased = false; returns = min (j.returns + 1) most_returns }) state.jobs;
}

-- ---- reports

-- no report of this kind is followed by another
abbrev pub is_last : Kind → Bool
is_last Delivered = true
is_last Undelivered = true
is_last Buffered = false
is_last Sent = false
is_last Refused = false

-- a report is awaited of a message that its centre took: the centre gave it an id, and is asked to report
abbrev pub is_awaited : (foreign : List ℕ) → Sms → Bool
is_awaited foreign sms = is_filled foreign && asks_centre sms

-- a message that is awaited: its number, and what it is but for its body
abbrev pub awaited_as : (message : ℕ) → Sms → Awaited
awaited_as message sms = record { message = message; sms = record sms { body = [] } }

-- the message of which a centre's answer makes that a report is awaited, where there is one
abbrev pub asked_by : Acked → Option Sms → List Awaited
asked_by acked None = []
asked_by acked (Some sms) = if is_awaited acked.foreign sms then awaited_as acked.message sms ∷ [] else []

-- messages are awaited, last under a key
abbrev pub awaits : (smsc foreign : List ℕ) → List Awaited → State → State
awaits smsc foreign more state = record state {
  awaited = with_list smsc foreign (state.awaited smsc foreign ++ more) state.awaited;
  awaited_count = state.awaited_count + length more;
}

-- the oldest message under a key is no longer awaited
abbrev pub closes : (smsc foreign : List ℕ) → State → State
closes smsc foreign state = record state {
  awaited = with_list smsc foreign (drop 1 (state.awaited smsc foreign)) state.awaited;
  awaited_count = state.awaited_count - 1;
}

-- a report belonged to no message
abbrev pub misses : State → State
misses state = record state { unmatched = state.unmatched + 1 }

-- the oldest message under the key of a report
abbrev pub first_under : Reported → State → Option Awaited
first_under reported state = oldest (state.awaited reported.smsc reported.foreign)

-- a report came for the oldest message under its key, where there is one
abbrev pub hears : Reported → Option Awaited → State → State
hears reported None state = misses state
hears reported (Some awaited) state = if is_last reported.kind then closes reported.smsc reported.foreign state else state

-- ---- arrivals

-- a message from a centre gets the next number
abbrev pub arrives : Sms → State → State
arrives sms state = record state {
  arrivals = state.arrivals ++ (state.last_arrival + 1, record { sms = sms; leased = false }) ∷ [];
  arrived = state.arrived + 1;
  last_arrival = state.last_arrival + 1;
}

-- messages from centres are dealt with, and with them their leases end
abbrev pub answers : (arrivals : List ℕ) → State → State
answers arrivals state = record state { arrivals = fold (λ pairs arrival. without arrival pairs) state.arrivals arrivals }

-- a message from a centre is taken, or given back
abbrev pub leases_arrival : (arrival : ℕ) → Bool → State → State
leases_arrival arrival leased state = record state { arrivals = with_change arrival (λ a. record a { leased = leased }) state.arrivals }

-- ---- entries

-- a centre took a message, which is awaited then, if it is to be
abbrev pub acknowledges : Acked → State → State
acknowledges acked state =
    awaits acked.smsc acked.foreign (asked_by acked (sms_of acked.message state)) (record (ends acked.message state) { acked = state.acked + 1 })

-- a message is given up
abbrev pub rejects : (message : ℕ) → State → State
rejects message state = record (ends message state) { rejected = state.rejected + 1 }

-- an entry that is kept, but for the URL that it calls and that it is counted
abbrev pub moves : Recorded → State → State
moves (entry.Accept accept) state = accepts accept.parts state
moves (entry.Acked acked) state = acknowledges acked state
moves (entry.Rejected rejected) state = rejects rejected.message state
moves (entry.Reported reported) state = hears reported (first_under reported state) state
moves (entry.Arrived arrived) state = arrives arrived.sms state
moves (entry.Answered answered) state = accepts answered.parts (answers answered.arrivals state)
moves (entry.Called called) state = record (ends_job called.job state) { called = state.called + 1 }
moves (entry.CallDropped dropped) state = record (ends_job dropped.job state) { dropped = state.dropped + 1 }

-- The URL that an entry calls, in the store of this birth. It is that of the message of which the entry speaks: one that its centre took or
-- that was given up is the message of its number, and a report belongs to the oldest message under its key.
abbrev pub called_url : (birth : ℕ) → (message : ℕ → Option Sms) → Lists → Recorded → Option (List ℕ)
called_url birth message lists (entry.Acked acked) = option_and_then (report_url birth (acked_report acked) acked.message) (message acked.message)
called_url birth message lists (entry.Rejected rejected) = option_and_then (report_url birth (rejected_report rejected) rejected.message) (message rejected.message)
called_url birth message lists (entry.Reported reported) =
    option_and_then (λ awaited. report_url birth (reported_report reported) awaited.message awaited.sms) (oldest (lists reported.smsc reported.foreign))
called_url birth message lists other = None

-- the URL that an entry calls in a state
abbrev pub url_in : (birth : ℕ) → State → Recorded → Option (List ℕ)
url_in birth state kept = called_url birth (λ message. sms_of message state) state.awaited kept

-- an entry that is kept, but that it is counted
abbrev pub keeps : (birth : ℕ) → Recorded → State → State
keeps birth kept state = calls (url_in birth state kept) (moves kept state)

-- one more entry was recorded
abbrev pub counts_entry : State → State
counts_entry state = record state { entries = state.entries + 1 }

-- an entry that passes
abbrev pub passes : Passing → State → State
passes (Up link) state = record state { up = slice_set state.up link true }
passes (Down link) state = record state { up = slice_set state.up link false }
passes (Took link message time) state = leases message (Some link) state
passes (Returned message) state = leases message None state
passes (TookJob job) state = takes_job job state
passes (ReturnedJob job) state = returns_job job state
passes (TookArrival arrival) state = leases_arrival arrival true state
passes (ReturnedArrival arrival) state = leases_arrival arrival false state

-- what an entry does, in the store of this birth
abbrev pub does : (birth : ℕ) → State → Entry → State
does birth state (recorded kept) = counts_entry (keeps birth kept state)
does birth state (passing brief) = passes brief state

-- what entries do, one after the other
abbrev pub after : (birth : ℕ) → State → List Entry → State
after birth state entries = fold (does birth) state entries
