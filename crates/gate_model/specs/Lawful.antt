-- Which entries may happen to a state, and which of them are refused.
use Rattle.std.specs.Prelude.{◌≡◌, ◌≢◌, ℕ, Bool, ◌+◌, ◌*◌, ◌≤◌, ◌^◌, nat_lt, nat_le, ◌&&◌, not, ◌==◌, List, [], ◌∷◌, length, All, Option, Some, None, IsSomeAnd, IsTrue, bytes_eq, slice_get, position, if◌then◌else◌, true, false, ⊤}
use Rattle.std.specs.List.{list_any, list_all}
use Rattle.std.specs.Option.{option_or, option_map, option_map_or}
use Rattle.sms_record.specs.declared.sms.Sms.{Sms}
use Rattle.route_rules.specs.declared.rules.Rules.{Rules}
use Rattle.route_rules.specs.Routes.{routable}
use Rattle.gate_entries.specs.declared.cause.Cause.{Cause}
use Rattle.gate_entries.specs.declared.cause.Cause.TheVariants.{Centre, Expired}
use Rattle.gate_entries.specs.Entry.{IsEntry, entry_octets, ended_job}
use Rattle.gate_entries.specs.declared.call_dropped.DropCause.{DropCause}
use Rattle.gate_entries.specs.declared.call_dropped.DropCause.TheVariants.{BadUrl, Tries}
use Rattle.gate_entries.specs.declared.recorded.Recorded.{Recorded}
use Rattle.gate_entries.specs.declared.recorded.Recorded.TheVariants as entry
use Rattle.gate_entries.specs.declared.passing.Passing.{Passing}
use Rattle.gate_entries.specs.declared.passing.Passing.TheVariants.{Up, Down, Took, Returned, TookJob, ReturnedJob, TookArrival, ReturnedArrival}
use Rattle.gate_model.specs.declared.reply.Refusal.{Refusal}
use Rattle.gate_model.specs.declared.reply.Refusal.TheVariants.{NoRoute, Full}
use Rattle.gate_model.specs.declared.waiting.Waiting.{Waiting}
use Rattle.gate_model.specs.Numbers.{is_held, value_under}
use Rattle.gate_model.specs.declared.job.Job.{Job}
use Rattle.gate_model.specs.State.{State, flight}
use Rattle.gate_model.specs.Fold.{Entry, recorded, passing}
use Rattle.gate_model.specs.Routing.{due_time, link_for}

-- ---- sound: what is asked of an entry that a store kept

-- a reading of the clock
abbrev pub is_time : ℕ → Bool
is_time time = nat_lt time (2 ^ 37)

-- a message is no longer worth sending, if an end was asked for
abbrev pub has_expired : (time : ℕ) → Waiting → Bool
has_expired time waiting = nat_le 1 waiting.sms.validity && nat_le (waiting.sms.time + 60 * waiting.sms.validity) time

-- no number stands twice
abbrev pub are_distinct : List ℕ → Bool
are_distinct [] = true
are_distinct (number ∷ numbers) = not (list_any (λ other. other == number) numbers) && are_distinct numbers

-- distinct arrivals that are held
abbrev pub are_arrivals : State → (arrivals : List ℕ) → Bool
are_arrivals state arrivals = list_all (λ arrival. is_held arrival state.arrivals) arrivals && are_distinct arrivals

-- a message waits, and the cause of its end has come
abbrev pub may_end : State → (message time : ℕ) → Cause → Bool
may_end state message time (Centre code) = is_held message state.waiting
may_end state message time Expired = option_map_or (has_expired time) (value_under message state.waiting) false

-- a message waits that is no longer worth sending
abbrev pub is_expired : (message time : ℕ) → State → Bool
is_expired message time state = may_end state message time Expired

-- there is a job, and it is held
abbrev pub holds_job : State → (job : Option ℕ) → Bool
holds_job state None = false
holds_job state (Some job) = is_held job state.jobs

-- an entry suits a state: it names what the state holds, at a reading of the clock; and a message that came has the id of its link
abbrev pub suits : State → Recorded → Bool
suits state (entry.Accept accept) = is_time accept.time
suits state (entry.Acked acked) = is_held acked.message state.waiting && is_time acked.time
suits state (entry.Rejected rejected) = may_end state rejected.message rejected.time rejected.cause && is_time rejected.time
suits state (entry.Reported reported) = is_time reported.time
suits state (entry.Arrived arrived) = bytes_eq arrived.sms.smsc arrived.smsc
suits state (entry.Answered answered) = are_arrivals state answered.arrivals && is_time answered.time
suits state other = holds_job state (ended_job other)

-- the time of an entry that says what became of a message is a reading of the clock
abbrev pub is_timed : Recorded → Bool
is_timed (entry.Acked acked) = is_time acked.time
is_timed (entry.Rejected rejected) = is_time rejected.time
is_timed (entry.Reported reported) = is_time reported.time
is_timed other = true

abbrev pub IsTimed : Recorded → Type 0
IsTimed kept = IsTrue (is_timed kept)

-- sound: an entry of the grammar, which has the counts and the lengths, that suits the state
abbrev pub IsSound : State → Recorded → Type 0
IsSound state kept = IsEntry kept × IsTrue (suits state kept)

-- ---- lawful: what is asked of an entry that happens

-- some link has taken the message
abbrev pub IsLeased : State → (message : ℕ) → Type 0
IsLeased state message = IsSomeAnd (value_under message state.waiting) (λ waiting. waiting.lease ≢ None)

-- no link has
abbrev pub IsFree : State → (message : ℕ) → Type 0
IsFree state message = IsSomeAnd (value_under message state.waiting) (λ waiting. waiting.lease ≡ None)

-- whether somebody has taken the arrival, or the job
abbrev pub IsArrival : (leased : Bool) → State → (arrival : ℕ) → Type 0
IsArrival leased state arrival = IsSomeAnd (value_under arrival state.arrivals) (λ a. a.leased ≡ leased)

abbrev pub IsJob : (leased : Bool) → State → (job : ℕ) → Type 0
IsJob leased state job = IsSomeAnd (value_under job state.jobs) (λ j. j.leased ≡ leased)

-- a call is given up for its tries only after so many returns
abbrev pub IsTriedOut : DropCause → Job → Type 0
IsTriedOut BadUrl job = ⊤
IsTriedOut Tries job = 9 ≤ job.returns

-- whoever ends a message has taken it, but one that is no longer worth sending ends while nobody has
abbrev pub HoldsMessage : State → (message : ℕ) → Cause → Type 0
HoldsMessage state message (Centre code) = IsLeased state message
HoldsMessage state message Expired = IsFree state message

-- what a recorded entry needs besides being sound: whoever ends a thing has taken it
abbrev pub HoldsLease : State → Recorded → Type 0
HoldsLease state (entry.Acked acked) = IsLeased state acked.message
HoldsLease state (entry.Rejected rejected) = HoldsMessage state rejected.message rejected.cause
HoldsLease state (entry.Answered answered) = All (IsArrival true state) answered.arrivals
HoldsLease state (entry.Called called) = IsJob true state called.job
HoldsLease state (entry.CallDropped dropped) =
    IsSomeAnd (value_under dropped.job state.jobs) (λ job. (job.leased ≡ true) × IsTriedOut dropped.cause job)
HoldsLease state other = ⊤

-- a link may take the message now
abbrev pub MayTake : Rules → State → (link now : ℕ) → Waiting → Type 0
MayTake rules state link now waiting = (waiting.lease ≡ None) × (due_time waiting.sms ≤ now) × (link_for rules state waiting.sms ≡ Some link)

-- an entry that passes takes what is free, and gives back what was taken
abbrev pub MayPass : Rules → State → Passing → Type 0
MayPass rules state (Up link) = slice_get state.up link ≡ Some false
MayPass rules state (Down link) = (slice_get state.up link ≡ Some true) × (flight state link ≡ 0)
MayPass rules state (Took link message time) = IsSomeAnd (value_under message state.waiting) (MayTake rules state link time) × IsTrue (is_time time)
MayPass rules state (Returned message) = IsLeased state message
MayPass rules state (TookJob job) = IsJob false state job
MayPass rules state (ReturnedJob job) = IsJob true state job
MayPass rules state (TookArrival arrival) = IsArrival false state arrival
MayPass rules state (ReturnedArrival arrival) = IsArrival true state arrival

-- the most octets of an entry: one unit of a journal holds them
abbrev pub most_octets : ℕ
most_octets = 16777216

-- lawful: an entry that is recorded is sound, is short enough to be kept, and ends only what was taken
abbrev pub IsLawful : Rules → State → Entry → Type 0
IsLawful rules state (recorded kept) = IsSound state kept × HoldsLease state kept × (length (entry_octets kept) ≤ most_octets)
IsLawful rules state (passing brief) = MayPass rules state brief

-- ---- refused: entries that are lawful, and for which there is no link or no room

-- the most entries that a store records
abbrev pub most_entries : ℕ
most_entries = 2 ^ 48

-- the first of these parts that no link may carry, up or not
abbrev pub without_route : Rules → List Sms → Option Refusal
without_route rules parts = option_map (λ part. NoRoute part) (position (λ sms. not (routable rules sms)) parts)

-- there are parts, and with the messages that wait they are more than may wait
abbrev pub past_queue : Rules → State → List Sms → Option Refusal
past_queue rules state parts =
    if nat_lt 0 (length parts) && nat_lt rules.outgoing (length state.waiting + length parts)
    then Some (Full (length state.waiting) rules.outgoing) else None

-- with one more, more arrivals are held than may be
abbrev pub past_arrivals : Rules → State → Option Refusal
past_arrivals rules state =
    if nat_lt rules.incoming (length state.arrivals + 1) then Some (Full (length state.arrivals) rules.incoming) else None

-- as many entries were recorded as ever may be
abbrev pub past_entries : State → Option Refusal
past_entries state = if nat_lt state.entries most_entries then None else Some (Full state.entries most_entries)

-- for the parts of an entry
abbrev pub refused_parts : Rules → State → List Sms → Option Refusal
refused_parts rules state parts = option_or (without_route rules parts) (option_or (past_queue rules state parts) (past_entries state))

-- why a recorded entry is refused, if it is
abbrev pub refusal : Rules → State → Recorded → Option Refusal
refusal rules state (entry.Accept accept) = refused_parts rules state accept.parts
refusal rules state (entry.Answered answered) = refused_parts rules state answered.parts
refusal rules state (entry.Arrived arrived) = option_or (past_arrivals rules state) (past_entries state)
refusal rules state other = past_entries state
