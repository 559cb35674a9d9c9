-- How entries are read.
use Rattle.std.specs.Prelude.{ℕ, zero, suc, ◌-◌, ◌^◌, List, [], ◌∷◌}
use Rattle.exact_octets.specs.declared.alphabet.Alphabet.TheVariants.{Any}
use Rattle.exact_octets.specs.Alphabet.{within}
use Rattle.exact_octets.specs.Numbers.{from_to}
use Rattle.exact_octets.specs.Reading.{Reader, both, made, given, repeated, octet_at, counted_at, code_at, kind_at as named_kind_at, number_at as number_of_width_at}
use Rattle.sms_record.specs.declared.kind.Kind.{Kind}
use Rattle.sms_record.specs.declared.kind.Kind.TheVariants.{Delivered, Undelivered, Buffered}
use Rattle.sms_record.specs.declared.sms.Sms.{Sms}
use Rattle.sms_record.specs.RecordReading.{sms_at}
use Rattle.gate_entries.specs.Limits.{most_messages, most_arrivals, most_text}
use Rattle.gate_entries.specs.declared.accept.Accept.{Accept}
use Rattle.gate_entries.specs.declared.acked.Acked.{Acked}
use Rattle.gate_entries.specs.declared.cause.Cause.{Cause}
use Rattle.gate_entries.specs.declared.cause.Cause.TheVariants.{Centre, Expired}
use Rattle.gate_entries.specs.declared.rejected.Rejected.{Rejected}
use Rattle.gate_entries.specs.declared.reported.Reported.{Reported}
use Rattle.gate_entries.specs.declared.arrived.Arrived.{Arrived}
use Rattle.gate_entries.specs.declared.answered.Answered.{Answered}
use Rattle.gate_entries.specs.declared.called.Called.{Called}
use Rattle.gate_entries.specs.declared.call_dropped.DropCause.{DropCause}
use Rattle.gate_entries.specs.declared.call_dropped.DropCause.TheVariants.{BadUrl, Tries}
use Rattle.gate_entries.specs.declared.call_dropped.CallDropped.{CallDropped}
use Rattle.gate_entries.specs.declared.recorded.EntryKind.{EntryKind}
use Rattle.gate_entries.specs.declared.recorded.EntryKind.TheVariants as kind
use Rattle.gate_entries.specs.declared.recorded.Recorded.{Recorded}
use Rattle.gate_entries.specs.declared.recorded.Recorded.TheVariants as entry
use Rattle.gate_entries.specs.Entry.{accept_fields, acked_fields, rejected_fields, kind_value, reported_fields, arrived_fields, answered_fields, called_fields, drop_code, call_dropped_fields}

-- ---- fields

-- any number of eight octets
abbrev pub number_at : Reader ℕ
number_at = number_of_width_at 8 (from_to 0 (2 ^ 64 - 1))

abbrev pub text_at : Reader (List ℕ)
text_at = counted_at 2 (from_to 0 most_text) Any

abbrev pub ids_at : Reader (List ℕ × List ℕ)
ids_at = both text_at (λ smsc. text_at)

-- so many messages
abbrev pub parts_at : ℕ → Reader (List Sms)
parts_at = repeated sms_at

-- messages behind their number, which is at least so many
unfoldable pub messages_at : ℕ → Reader (List Sms)
messages_at least = made (λ x. x.1) (both (number_of_width_at 2 (from_to least most_messages)) parts_at)

-- so many numbers
abbrev pub numbers_of_count_at : ℕ → Reader (List ℕ)
numbers_of_count_at = repeated number_at

-- the numbers of arrivals behind how many they are
unfoldable pub arrivals_at : Reader (List ℕ)
arrivals_at = made (λ x. x.1) (both (number_of_width_at 2 (from_to 1 most_arrivals)) numbers_of_count_at)

-- ---- the kinds

abbrev pub accept_of : ℕ × List Sms → Accept
accept_of x = record { time = x.0; parts = x.1 }

unfoldable pub accept_fields_at : Reader Accept
accept_fields_at = made accept_of (both number_at (λ time. messages_at 1))

-- an entry of this kind alone
unfoldable pub accept_at : Reader Accept
accept_at = made (λ x. x.1) (both (octet_at (within 1 1)) (λ kind. accept_fields_at))

abbrev pub acked_of : ℕ × ((List ℕ × List ℕ) × ℕ) → Acked
acked_of x = record { message = x.0; smsc = x.1.0.0; foreign = x.1.0.1; time = x.1.1 }

unfoldable pub acked_at : Reader Acked
acked_at = made acked_of (both number_at (λ message. both ids_at (λ ids. number_at)))

-- what stands behind the octet of a cause
abbrev pub cause_behind : ℕ → Reader Cause
cause_behind zero = made Centre (number_of_width_at 4 (from_to 0 (2 ^ 32 - 1)))
cause_behind (suc kind) = given Expired

unfoldable pub cause_at : Reader Cause
cause_at = named_kind_at (within 0 1) cause_behind

abbrev pub rejected_of : ℕ × (List ℕ × (Cause × ℕ)) → Rejected
rejected_of x = record { message = x.0; smsc = x.1.0; cause = x.1.1.0; time = x.1.1.1 }

unfoldable pub rejected_at : Reader Rejected
rejected_at = made rejected_of (both number_at (λ message. both text_at (λ smsc. both cause_at (λ cause. number_at))))

abbrev pub report_kinds : List Kind
report_kinds = Delivered ∷ Undelivered ∷ Buffered ∷ []

unfoldable pub report_kind_at : Reader Kind
report_kind_at = code_at kind_value report_kinds

abbrev pub reported_of : (List ℕ × List ℕ) × (Kind × (List ℕ × ℕ)) → Reported
reported_of x = record { smsc = x.0.0; foreign = x.0.1; kind = x.1.0; text = x.1.1.0; time = x.1.1.1 }

unfoldable pub reported_at : Reader Reported
reported_at = made reported_of (both ids_at (λ ids. both report_kind_at (λ kind. both text_at (λ text. number_at))))

abbrev pub arrived_of : List ℕ × Sms → Arrived
arrived_of x = record { smsc = x.0; sms = x.1 }

unfoldable pub arrived_at : Reader Arrived
arrived_at = made arrived_of (both text_at (λ smsc. sms_at))

abbrev pub answered_of : List ℕ × (ℕ × List Sms) → Answered
answered_of x = record { arrivals = x.0; parts = x.1.1; time = x.1.0 }

unfoldable pub answered_at : Reader Answered
answered_at = made answered_of (both arrivals_at (λ arrivals. both number_at (λ time. messages_at 0)))

abbrev pub called_of : ℕ × ℕ → Called
called_of x = record { job = x.0; status = x.1 }

unfoldable pub called_at : Reader Called
called_at = made called_of (both number_at (λ job. number_of_width_at 2 (from_to 0 (2 ^ 16 - 1))))

abbrev pub drop_causes : List DropCause
drop_causes = BadUrl ∷ Tries ∷ []

unfoldable pub drop_cause_at : Reader DropCause
drop_cause_at = code_at drop_code drop_causes

abbrev pub call_dropped_of : ℕ × DropCause → CallDropped
call_dropped_of x = record { job = x.0; cause = x.1 }

unfoldable pub call_dropped_at : Reader CallDropped
call_dropped_at = made call_dropped_of (both number_at (λ job. drop_cause_at))

-- ---- an entry of any kind: its kind, and what stands behind it

abbrev pub entry_kinds : List EntryKind
entry_kinds = kind.Accept ∷ kind.Acked ∷ kind.Rejected ∷ kind.Reported ∷ kind.Arrived ∷ kind.Answered ∷ kind.Called ∷ kind.CallDropped ∷ []

abbrev pub entry_code : EntryKind → ℕ
entry_code kind.Accept = 1
entry_code kind.Acked = 2
entry_code kind.Rejected = 3
entry_code kind.Reported = 4
entry_code kind.Arrived = 5
entry_code kind.Answered = 6
entry_code kind.Called = 7
entry_code kind.CallDropped = 8

unfoldable pub kind_at : Reader EntryKind
kind_at = code_at entry_code entry_kinds

abbrev pub fields_at : EntryKind → Reader Recorded
fields_at kind.Accept = made entry.Accept accept_fields_at
fields_at kind.Acked = made entry.Acked acked_at
fields_at kind.Rejected = made entry.Rejected rejected_at
fields_at kind.Reported = made entry.Reported reported_at
fields_at kind.Arrived = made entry.Arrived arrived_at
fields_at kind.Answered = made entry.Answered answered_at
fields_at kind.Called = made entry.Called called_at
fields_at kind.CallDropped = made entry.CallDropped call_dropped_at

unfoldable pub entry_at : Reader Recorded
entry_at = made (λ x. x.1) (both kind_at fields_at)

-- the kind of an entry, and what stands behind it
abbrev pub kind_of_entry : Recorded → EntryKind
kind_of_entry (entry.Accept accept) = kind.Accept
kind_of_entry (entry.Acked acked) = kind.Acked
kind_of_entry (entry.Rejected rejected) = kind.Rejected
kind_of_entry (entry.Reported reported) = kind.Reported
kind_of_entry (entry.Arrived arrived) = kind.Arrived
kind_of_entry (entry.Answered answered) = kind.Answered
kind_of_entry (entry.Called called) = kind.Called
kind_of_entry (entry.CallDropped dropped) = kind.CallDropped

abbrev pub fields_of : Recorded → List ℕ
fields_of (entry.Accept accept) = accept_fields accept
fields_of (entry.Acked acked) = acked_fields acked
fields_of (entry.Rejected rejected) = rejected_fields rejected
fields_of (entry.Reported reported) = reported_fields reported
fields_of (entry.Arrived arrived) = arrived_fields arrived
fields_of (entry.Answered answered) = answered_fields answered
fields_of (entry.Called called) = called_fields called
fields_of (entry.CallDropped dropped) = call_dropped_fields dropped
