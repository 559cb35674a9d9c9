-- Each kind of entry is read exactly behind its octet, and an entry of any kind by it.
use Rattle.std.proofs.Common.{◌≡◌, ℕ, ◌-◌, ◌^◌, [], ◌∷◌, ◌++◌, refl, ap, ◌∙◌, arith, Some, sym, subst}
use Rattle.exact_octets.proofs.Readers.{IsReader, then_reads, ◌&◌, made_reads}
use Rattle.exact_octets.proofs.Tests.{Between}
use Rattle.exact_octets.proofs.Digits.{up_to_reads}
use Rattle.exact_octets.proofs.Fields.{between_reads}
use Rattle.sms_record.proofs.Messages.{sms_reads}
use Rattle.gate_entries.specs.declared.accept.Accept.{Accept}
use Rattle.gate_entries.specs.Entry.{IsAccept, accept_fields, accept_octets, IsAcked, acked_fields, IsRejected, rejected_fields, IsReported, reported_fields, IsArrived, arrived_fields, IsAnswered, answered_fields, IsCalled, called_fields, IsCallDropped, call_dropped_fields, IsEntry, entry_octets}
use Rattle.gate_entries.specs.EntryReading.{accept_of, accept_fields_at, accept_at, acked_of, acked_at, rejected_of, rejected_at, reported_of, reported_at, arrived_of, arrived_at, answered_of, answered_at, called_of, called_at, call_dropped_of, call_dropped_at, entry_kinds, entry_code, kind_at, fields_at, entry_at, kind_of_entry, fields_of}
use Rattle.gate_entries.proofs.Parts.{any_number_reads, long_text_reads, ids_reads, messages_reads, arrivals_reads, cause_reads, report_kind_reads, drop_cause_reads}
use Rattle.std.specs.Prelude.{⊤}
use Rattle.exact_octets.specs.Reading.{Reader, made, value_of}
use Rattle.exact_octets.proofs.Choices.{code_reads}
use Rattle.gate_entries.specs.declared.acked.Acked.{Acked}
use Rattle.gate_entries.specs.declared.rejected.Rejected.{Rejected}
use Rattle.gate_entries.specs.declared.reported.Reported.{Reported}
use Rattle.gate_entries.specs.declared.arrived.Arrived.{Arrived}
use Rattle.gate_entries.specs.declared.answered.Answered.{Answered}
use Rattle.gate_entries.specs.declared.called.Called.{Called}
use Rattle.gate_entries.specs.declared.call_dropped.CallDropped.{CallDropped}
use Rattle.gate_entries.specs.declared.recorded.EntryKind.{EntryKind}
use Rattle.gate_entries.specs.declared.recorded.EntryKind.TheVariants as kind
use Rattle.gate_entries.specs.declared.recorded.Recorded.{Recorded}
use Rattle.gate_entries.specs.declared.recorded.Recorded.TheVariants as entry

-- ---- Accept

pub accept_fields_reads : IsReader IsAccept accept_fields accept_fields_at
unfolding accept_fields_at
accept_fields_reads =
    made_reads accept_of (any_number_reads & messages_reads 1 (omega arith))
    (record {
      there = λ p good. (record { in_time = good.0; some = good.1.0; few = good.1.1; each = good.1.2 }, refl);
      back = λ accept good. ((accept.time, accept.parts), (good.in_time, (good.some, good.few, good.each)), refl, refl);
    })

-- behind its octet
accept_there : (p : ℕ × Accept) → Between 1 1 p.0 × IsAccept p.1 → IsAccept p.1 × (accept_octets p.1 ≡ (p.0 ∷ []) ++ accept_fields p.1)
accept_there p good = let kind : 1 ≡ p.0 = omega (arith, good.0.0, good.0.1) in (good.1, ap (λ (k : ℕ). k ∷ accept_fields p.1) kind)

pub accept_reads : IsReader IsAccept accept_octets accept_at
unfolding accept_at
accept_reads =
    made_reads (λ (x : ℕ × Accept). x.1) (between_reads 1 1 (omega arith) & accept_fields_reads)
    (record { there = accept_there; back = λ accept good. ((1, accept), ((omega arith, omega arith), good), refl, refl) })

-- ---- what centres say of messages

pub acked_reads : IsReader IsAcked acked_fields acked_at
unfolding acked_at
acked_reads =
    made_reads acked_of (any_number_reads & ids_reads & any_number_reads)
    (record {
      there = λ p good. (record { message = good.0; smsc = good.1.0.0; foreign = good.1.0.1; time = good.1.1 }, refl);
      back = λ a good. ((a.message, ((a.smsc, a.foreign), a.time)), (good.message, ((good.smsc, good.foreign), good.time)), refl, refl);
    })

pub rejected_reads : IsReader IsRejected rejected_fields rejected_at
unfolding rejected_at
rejected_reads =
    made_reads rejected_of (any_number_reads & long_text_reads & cause_reads & any_number_reads)
    (record {
      there = λ p good. (record { message = good.0; smsc = good.1.0; cause = good.1.1.0; time = good.1.1.1 }, refl);
      back = λ r good. ((r.message, (r.smsc, (r.cause, r.time))), (good.message, (good.smsc, (good.cause, good.time))), refl, refl);
    })

pub reported_reads : IsReader IsReported reported_fields reported_at
unfolding reported_at
reported_reads =
    made_reads reported_of (ids_reads & report_kind_reads & long_text_reads & any_number_reads)
    (record {
      there = λ p good. (record { smsc = good.0.0; foreign = good.0.1; kind = good.1.0; text = good.1.1.0; time = good.1.1.1 }, refl);
      back = λ r good. (((r.smsc, r.foreign), (r.kind, (r.text, r.time))), ((good.smsc, good.foreign), (good.kind, (good.text, good.time))), refl, refl);
    })

-- ---- arrivals

pub arrived_reads : IsReader IsArrived arrived_fields arrived_at
unfolding arrived_at
arrived_reads =
    made_reads arrived_of (long_text_reads & sms_reads)
    (record {
      there = λ p good. (record { smsc = good.0; sms = good.1 }, refl);
      back = λ a good. ((a.smsc, a.sms), (good.smsc, good.sms), refl, refl);
    })

pub answered_reads : IsReader IsAnswered answered_fields answered_at
unfolding answered_at
answered_reads =
    made_reads answered_of (arrivals_reads & any_number_reads & messages_reads 0 (omega arith))
    (record {
      there = λ p good. (record { some = good.0.0; few_arrivals = good.0.1; arrivals = good.0.2; few = good.1.1.1; each = good.1.1.2; time = good.1.0 }, refl);
      back = λ a good. ((a.arrivals, (a.time, a.parts)), ((good.some, good.few_arrivals, good.arrivals), (good.time, (omega arith, good.few, good.each))), refl, refl);
    })

-- ---- calls

pub called_reads : IsReader IsCalled called_fields called_at
unfolding called_at
called_reads =
    made_reads called_of (any_number_reads & up_to_reads 2 (2 ^ 16 - 1) (omega arith))
    (record {
      there = λ p good. (record { job = good.0; status = omega (arith, good.1) }, refl);
      back = λ c good. ((c.job, c.status), (good.job, omega (arith, good.status)), refl, refl);
    })

pub call_dropped_reads : IsReader IsCallDropped call_dropped_fields call_dropped_at
unfolding call_dropped_at
call_dropped_reads =
    made_reads call_dropped_of (any_number_reads & drop_cause_reads)
    (record {
      there = λ p good. (good.0, refl);
      back = λ d good. ((d.job, d.cause), (good, tt), refl, refl);
    })

-- ---- the kinds

kind_again : (k : EntryKind) → value_of entry_code entry_kinds (entry_code k) ≡ Some k
kind_again kind.Accept = refl
kind_again kind.Acked = refl
kind_again kind.Rejected = refl
kind_again kind.Reported = refl
kind_again kind.Arrived = refl
kind_again kind.Answered = refl
kind_again kind.Called = refl
kind_again kind.CallDropped = refl

kind_code_reads : IsReader (λ k. ⊤) (λ k. entry_code k ∷ []) kind_at
unfolding kind_at
kind_code_reads = code_reads entry_code entry_kinds (λ k. ⊤) (tt, (tt, (tt, (tt, (tt, (tt, (tt, (tt, tt)))))))) (λ k good. kind_again k) (kind.Accept, tt)

-- ---- entries of one kind

-- what an entry of a kind is made of
abbrev Made : EntryKind → Type 0
Made kind.Accept = Accept
Made kind.Acked = Acked
Made kind.Rejected = Rejected
Made kind.Reported = Reported
Made kind.Arrived = Arrived
Made kind.Answered = Answered
Made kind.Called = Called
Made kind.CallDropped = CallDropped

abbrev entry_of : (k : EntryKind) → Made k → Recorded
entry_of kind.Accept a = entry.Accept a
entry_of kind.Acked a = entry.Acked a
entry_of kind.Rejected a = entry.Rejected a
entry_of kind.Reported a = entry.Reported a
entry_of kind.Arrived a = entry.Arrived a
entry_of kind.Answered a = entry.Answered a
entry_of kind.Called a = entry.Called a
entry_of kind.CallDropped a = entry.CallDropped a

abbrev MadeOf : Recorded → EntryKind → Type 0
MadeOf e k = (a : Made k) × (entry_of k a ≡ e)

made_of : (e : Recorded) → MadeOf e (kind_of_entry e)
made_of (entry.Accept a) = (a, refl)
made_of (entry.Acked a) = (a, refl)
made_of (entry.Rejected a) = (a, refl)
made_of (entry.Reported a) = (a, refl)
made_of (entry.Arrived a) = (a, refl)
made_of (entry.Answered a) = (a, refl)
made_of (entry.Called a) = (a, refl)
made_of (entry.CallDropped a) = (a, refl)

abbrev IsOf : EntryKind → Recorded → Type 0
IsOf k e = IsEntry e × (kind_of_entry e ≡ k)

made_back : (k : EntryKind) (e : Recorded) → IsOf k e → (a : Made k) × IsEntry (entry_of k a) × (entry_of k a ≡ e) × (fields_of (entry_of k a) ≡ fields_of e)
made_back k e good =
    let m : MadeOf e k = subst (MadeOf e) good.1 (made_of e) in
    (m.0, subst IsEntry (sym m.1) good.0, m.1, ap fields_of m.1)

made_kind : (k : EntryKind) (a : Made k) → kind_of_entry (entry_of k a) ≡ k
made_kind kind.Accept a = refl
made_kind kind.Acked a = refl
made_kind kind.Rejected a = refl
made_kind kind.Reported a = refl
made_kind kind.Arrived a = refl
made_kind kind.Answered a = refl
made_kind kind.Called a = refl
made_kind kind.CallDropped a = refl

of_kind : (k : EntryKind) (read : Reader (Made k)) → IsReader (λ a. IsEntry (entry_of k a)) (λ a. fields_of (entry_of k a)) read → IsReader (IsOf k) fields_of (made (entry_of k) read)
of_kind k read reads = made_reads (entry_of k) reads (record { there = λ a good. ((good, made_kind k a), refl); back = made_back k })

fields_reads : (k : EntryKind) → IsReader (IsOf k) fields_of (fields_at k)
fields_reads kind.Accept = of_kind kind.Accept _ accept_fields_reads
fields_reads kind.Acked = of_kind kind.Acked _ acked_reads
fields_reads kind.Rejected = of_kind kind.Rejected _ rejected_reads
fields_reads kind.Reported = of_kind kind.Reported _ reported_reads
fields_reads kind.Arrived = of_kind kind.Arrived _ arrived_reads
fields_reads kind.Answered = of_kind kind.Answered _ answered_reads
fields_reads kind.Called = of_kind kind.Called _ called_reads
fields_reads kind.CallDropped = of_kind kind.CallDropped _ call_dropped_reads

-- ---- an entry

-- its octets are its kind's, and those of its fields
pub octets_by_kind : (e : Recorded) → entry_octets e ≡ entry_code (kind_of_entry e) ∷ fields_of e
octets_by_kind (entry.Accept a) = refl
octets_by_kind (entry.Acked a) = refl
octets_by_kind (entry.Rejected a) = refl
octets_by_kind (entry.Reported a) = refl
octets_by_kind (entry.Arrived a) = refl
octets_by_kind (entry.Answered a) = refl
octets_by_kind (entry.Called a) = refl
octets_by_kind (entry.CallDropped a) = refl

-- an entry is read exactly
pub entry_reads : IsReader IsEntry entry_octets entry_at
unfolding entry_at
entry_reads =
    made_reads (λ (x : EntryKind × Recorded). x.1) (then_reads kind_code_reads (λ k good. fields_reads k))
    (record {
      there = λ p good. (good.1.0, octets_by_kind p.1 ∙ ap (λ (k : EntryKind). entry_code k ∷ fields_of p.1) good.1.1);
      back = λ e good. ((kind_of_entry e, e), (tt, (good, refl)), refl, sym (octets_by_kind e));
    })
