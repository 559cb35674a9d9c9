-- What becomes of reports, by a history alone: which reports are open, which URLs are due, and which of them are still to be called.
use Rattle.std.specs.Prelude.{◌≡◌, ℕ, ◌+◌, Bool, false, ◌&&◌, not, ◌==◌, List, [], ◌∷◌, ◌++◌, map, filter, drop, fold, if◌then◌else◌}
use Rattle.std.specs.List.{flat_map, list_any}
use Rattle.std.specs.Option.{option_map_or}
use Rattle.sms_record.specs.declared.sms.Sms.{Sms}
use Rattle.dlr_table.specs.declared.awaited.Awaited.{Awaited}
use Rattle.gate_entries.specs.Entry.{parts_of, ended_job}
use Rattle.gate_entries.specs.declared.recorded.Recorded.{Recorded}
use Rattle.gate_entries.specs.declared.recorded.Recorded.TheVariants as entry
use Rattle.gate_model.specs.Fold.{is_last, asked_by, called_url, if_any}
use Rattle.gate_model.specs.Numbers.{value_under, numbered_from}
use Rattle.gate_model.specs.State.{State, Lists, is_key}

-- the messages of a history by their numbers: those that waited before it, and those that its entries hand in, under the next numbers
abbrev pub messages_of : (start : State) → (history : List Recorded) → List (ℕ × Sms)
messages_of start history = map (λ pair. (pair.0, pair.1.sms)) start.waiting ++ numbered_from (start.last_message + 1) (flat_map parts_of history)

-- ---- open reports

-- the reports that are open under a key behind an entry: a message that is to be reported comes last, and a report that none follows takes the
-- oldest away
abbrev pub open_behind : List (ℕ × Sms) → (smsc foreign : List ℕ) → List Awaited → Recorded → List Awaited
open_behind messages smsc foreign open_before (entry.Acked acked) =
    if is_key acked.smsc acked.foreign smsc foreign then open_before ++ asked_by acked (value_under acked.message messages) else open_before
open_behind messages smsc foreign open_before (entry.Reported reported) =
    if is_key reported.smsc reported.foreign smsc foreign && is_last reported.kind then drop 1 open_before else open_before
open_behind messages smsc foreign open_before other = open_before

-- the same behind entries
abbrev pub open_after : List (ℕ × Sms) → Lists → List Recorded → Lists
open_after messages lists entries smsc foreign = fold (open_behind messages smsc foreign) (lists smsc foreign) entries

-- the reports that are open under a key, of a history from a start on
abbrev pub open_reports : (start : State) → (history : List Recorded) → Lists
open_reports start history = open_after (messages_of start history) start.awaited history

-- ---- due URLs

-- the URLs that are due by entries: each calls that of its own message
abbrev pub due_from : (birth : ℕ) → List (ℕ × Sms) → Lists → List Recorded → List (List ℕ)
due_from birth messages lists [] = []
due_from birth messages lists (kept ∷ entries) =
    if_any (called_url birth (λ message. value_under message messages) lists kept)
    ++ due_from birth messages (open_after messages lists (kept ∷ [])) entries

-- the URLs that are due by a history, in their order
abbrev pub due : (birth : ℕ) → (start : State) → (history : List Recorded) → List (List ℕ)
due birth start history = due_from birth (messages_of start history) start.awaited history

-- ---- jobs

-- an entry says of a job that its URL was called, or that it won't be
abbrev pub is_end_of_job : (job : ℕ) → Recorded → Bool
is_end_of_job job kept = option_map_or (λ ended. job == ended) (ended_job kept) false

-- the URLs of a state's jobs, by their numbers
abbrev pub urls_of : State → List (ℕ × List ℕ)
urls_of state = map (λ pair. (pair.0, pair.1.url)) state.jobs

-- the jobs of a history: those that stood before it, and its due URLs under the next numbers
abbrev pub jobs_of : (birth : ℕ) → (start : State) → (history : List Recorded) → List (ℕ × List ℕ)
jobs_of birth start history = urls_of start ++ numbered_from (start.last_job + 1) (due birth start history)

-- those of them of which no entry says that they are done with
abbrev pub jobs_left : (birth : ℕ) → (start : State) → (history : List Recorded) → List (ℕ × List ℕ)
jobs_left birth start history = filter (λ job. not (list_any (is_end_of_job job.0) history)) (jobs_of birth start history)

-- The law of reports, of a history from a start on: what is awaited is what is open, and the jobs that are held are those that are left.
pub record HaveReports (birth : ℕ) (start : State) (history : List Recorded) (now : State) : Type 0 where
  pub awaited : (smsc foreign : List ℕ) → now.awaited smsc foreign ≡ open_reports start history smsc foreign
  pub jobs : urls_of now ≡ jobs_left birth start history
