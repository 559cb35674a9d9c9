-- A gate: the state that it holds, and what keeps it whole.
use Rattle.std.specs.Prelude.{◌≡◌, ℕ, ◌<◌, ◌≤◌, List, [], length, slice_get, All, Option, option_map, ⊤}
use Rattle.std.specs.Option.{option_and_then, option_map_or}
use Rattle.std.specs.Prelude.{Bool, false, is_some, IsTrue, IfSome}
use Rattle.sms_record.specs.declared.sms.Sms.{Sms}
use Rattle.route_rules.specs.declared.rules.Rules.{Rules}
use Rattle.dlr_table.specs.Reports.{spare}
use Rattle.gate_entries.specs.declared.recorded.Recorded.{Recorded}
use Rattle.gate_entries.specs.declared.recorded.Recorded.TheVariants as entry
use Rattle.gate_entries.specs.Entry.{IsText}
use Rattle.gate_entries.specs.declared.acked.Acked.{Acked}
use Rattle.gate_model.specs.declared.gate.Gate.{Gate}
use Rattle.gate_model.specs.declared.ready.Ready.{Ready}
use Rattle.gate_model.specs.declared.waiting.Waiting.{Waiting}
use Rattle.gate_model.specs.Fold.{is_awaited, sms_of, url_in}
use Rattle.gate_model.specs.Numbers.{value_under}
use Rattle.gate_model.specs.State.{State}
pub use Rattle.gate_model.specs.Whole.{state_of, IsBounded, IsWhole}

-- the state that a gate holds
abbrev pub model_of : Gate → State
model_of gate = state_of gate.waiting.pairs gate.arrivals.pairs gate.jobs.pairs gate.reports gate.up.items gate.counts

abbrev pub rules_of : Gate → Rules
rules_of gate = gate.rules

-- what always holds of a gate (it stands on its type)
abbrev pub IsGate : Gate → Type 0
IsGate gate = IsWhole gate.rules gate.flight.items (model_of gate)

-- a gate has the same rules, and holds this state now; what was a place for a job still is one
pub record Becomes (old new : Gate) (state : State) : Type 0 where
  pub rules : rules_of new ≡ rules_of old
  pub holds : model_of new ≡ state
  pub places : old.jobs.room ≤ new.jobs.room

-- a gate holds what it held, under the same rules
pub record KeepsAll (old new : Gate) : Type 0 where
  pub rules : rules_of new ≡ rules_of old
  pub holds : model_of new ≡ model_of old

-- the lease of the message under a number, where there is one
abbrev pub lease_under : (message : ℕ) → List (ℕ × Waiting) → Option ℕ
lease_under message waiting = option_and_then (λ w. w.lease) (value_under message waiting)

-- a report is awaited of the message that its centre took
abbrev pub is_awaited_in : Acked → State → Bool
is_awaited_in acked state = option_map_or (is_awaited acked.foreign) (sms_of acked.message state) false

-- a gate has the memory that an entry needs, but for the URL that it calls
abbrev pub HasRoomFor : Gate → Recorded → Type 0
HasRoomFor gate (entry.Accept accept) = length accept.parts ≤ gate.waiting.room
HasRoomFor gate (entry.Acked acked) = IsTrue (is_awaited_in acked (model_of gate)) → 0 < spare gate.reports acked.smsc acked.foreign
HasRoomFor gate (entry.Arrived arrived) = 1 ≤ gate.arrivals.room
HasRoomFor gate (entry.Answered answered) = length answered.parts ≤ gate.waiting.room
HasRoomFor gate other = ⊤

-- the entry that was prepared
abbrev pub entry_of : Ready → Recorded
entry_of ready = ready.entry

-- the birth of the store that it was prepared for
abbrev pub birth_of : Ready → ℕ
birth_of ready = ready.birth

-- An entry that was prepared may be done: the gate has the memory that it needs, and with it stands the URL that it calls in the gate's state.
pub record HasRoom (gate : Gate) (ready : Ready) : Type 0 where
  pub memory : HasRoomFor gate (entry_of ready)
  pub url : ready.url ≡ url_in (birth_of ready) (model_of gate) (entry_of ready)
  pub job : IfSome ready.url (λ url. 1 ≤ gate.jobs.room)

-- ---- what is asked of a state

-- the arrival of a number, where it is held
abbrev pub arrival_of : (arrival : ℕ) → State → Option Sms
arrival_of arrival state = option_map (λ a. a.sms) (value_under arrival state.arrivals)

-- the URL of a job, where it is held
abbrev pub url_of : (job : ℕ) → State → Option (List ℕ)
url_of job state = option_map (λ j. j.url) (value_under job state.jobs)

-- some link has taken a message
abbrev pub is_leased : (message : ℕ) → State → Bool
is_leased message state = is_some (lease_under message state.waiting)

-- the SMSC id of a link, empty where there is none
abbrev pub id_of : (link : ℕ) → Rules → List ℕ
id_of link rules = option_map_or (λ rule. rule.id) (slice_get rules.links link) []

-- an entry can name each link by its SMSC id
abbrev pub HaveIds : Rules → Type 0
HaveIds rules = All (λ rule. IsText rule.id) rules.links

-- how often a job was given back; one that isn't held never was
abbrev pub returns_of : (job : ℕ) → State → ℕ
returns_of job state = option_map_or (λ j. j.returns) (value_under job state.jobs) 0
