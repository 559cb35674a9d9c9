-- The law of settling: leases, returns and links that are up are forgotten, and nothing that is kept hangs on them.
use Rattle.std.proofs.Common.{◌≡◌, refl, sym, ap, ◌∙◌, ℕ, ◌+◌, zero, suc, Bool, true, false, cond, List, [], ◌∷◌, ◌++◌, map, Option, Some, None}
use Rattle.std.proofs.lemmas.List.{map-append, length-map}
use Rattle.std.specs.Prelude.{fold, replicate, slice_set, ◌==◌, option_map}
use Rattle.sms_record.specs.declared.sms.Sms.{Sms}
use Rattle.gate_entries.specs.declared.recorded.Recorded.{Recorded}
use Rattle.gate_entries.specs.declared.recorded.Recorded.TheVariants as entry
use Rattle.gate_entries.specs.declared.passing.Passing.{Passing}
use Rattle.gate_entries.specs.declared.passing.Passing.TheVariants.{Up, Down, Took, Returned, TookJob, ReturnedJob, TookArrival, ReturnedArrival}
use Rattle.gate_model.specs.Numbers.{value_under, without, with_changes, numbered_from}
use Rattle.dlr_table.specs.declared.awaited.Awaited.{Awaited}
use Rattle.gate_entries.specs.declared.reported.Reported.{Reported}
use Rattle.gate_model.specs.declared.waiting.Waiting.{Waiting}
use Rattle.gate_model.specs.State.{State, empty, totals_of}
use Rattle.gate_model.specs.Fold.{Entry, recorded, passing, keeps, moves, calls, new_job, if_any, url_in, called_url, sms_of, asked_by, awaits, passes, does, after, counts_entry, accepts, answers, hears, closes, unleased, is_last, ends}
use Rattle.gate_model.specs.Settling.{settle, free_waiting, free_arrival, free_job, kept, SettlesAlike}
use Rattle.gate_model.proofs.NumberLemmas.{with_changes-without, with_changes-with_change, with_changes-numbered_from}

-- messages that were accepted just now are free
free-unleased : (parts : List Sms) → map free_waiting (map unleased parts) ≡ map unleased parts
free-unleased [] = refl
free-unleased (part ∷ parts) = ap (λ ws. unleased part ∷ ws) (free-unleased parts)

settle-accepts : (parts : List Sms) (state : State) → settle (accepts parts state) ≡ accepts parts (settle state)
settle-accepts parts state =
    let first = state.last_message + 1 in
    let waiting : with_changes free_waiting (state.waiting ++ numbered_from first (map unleased parts)) ≡ with_changes free_waiting state.waiting ++ numbered_from first (map unleased parts) =
    map-append (λ pair. (pair.0, free_waiting pair.1)) state.waiting (numbered_from first (map unleased parts))
    ∙ ap (λ ps. with_changes free_waiting state.waiting ++ ps) (with_changes-numbered_from free_waiting first (map unleased parts) ∙ ap (numbered_from first) (free-unleased parts)) in
    ap (λ ps. record (accepts parts (settle state)) { waiting = ps }) waiting

with_changes-fold : {T : Type 0} (every : T → T) (pairs : List (ℕ × T)) (numbers : List ℕ) → with_changes every (fold (λ ps number. without number ps) pairs numbers) ≡ fold (λ ps number. without number ps) (with_changes every pairs) numbers
with_changes-fold every pairs [] = refl
with_changes-fold every pairs (number ∷ numbers) =
    with_changes-fold every (without number pairs) numbers ∙ ap (λ ps. fold (λ qs n. without n qs) ps numbers) (with_changes-without every number pairs)

settle-hears : (reported : Reported) (found : Option Awaited) (state : State) → settle (hears reported found state) ≡ hears reported found (settle state)
settle-hears reported None state = refl
settle-hears reported (Some awaited) state =
    elim (is_last reported.kind) as (λ b. settle (cond b (closes reported.smsc reported.foreign state) state) ≡ cond b (closes reported.smsc reported.foreign (settle state)) (settle state)) [
      | true ↦ refl
      | false ↦ refl
    ]

-- each value is changed where it is
pub value_under-with_changes : {T : Type 0} (every : T → T) (number : ℕ) (pairs : List (ℕ × T)) → value_under number (with_changes every pairs) ≡ option_map every (value_under number pairs)
value_under-with_changes every number [] = refl
value_under-with_changes every number (pair ∷ pairs) =
    elim (pair.0 == number) as (λ b. cond b (Some (every pair.1)) (value_under number (with_changes every pairs)) ≡ option_map every (cond b (Some pair.1) (value_under number pairs))) [
      | true ↦ refl
      | false ↦ value_under-with_changes every number pairs
    ]

-- a message that is stored in what is left of a state is the same one
pub sms-settle : (message : ℕ) (state : State) → sms_of message (settle state) ≡ sms_of message state
sms-settle message state = ap (option_map (λ waiting. waiting.sms)) (value_under-with_changes free_waiting message state.waiting) ∙ same (value_under message state.waiting)
  where
    same : (waiting : Option Waiting) → option_map (λ waiting. waiting.sms) (option_map free_waiting waiting) ≡ option_map (λ waiting. waiting.sms) waiting
    same None = refl
    same (Some waiting) = refl

-- what is called because of an entry hangs on nothing that is forgotten
pub url-settle : (birth : ℕ) (state : State) (kept : Recorded) → url_in birth (settle state) kept ≡ url_in birth state kept
url-settle birth state kept = (λ i. called_url birth (λ message. sms-settle message state i) state.awaited kept)

settle-calls : (url : Option (List ℕ)) (state : State) → settle (calls url state) ≡ calls url (settle state)
settle-calls url state =
    let first = state.last_job + 1 in
    ap (λ ps. record (calls url (settle state)) { jobs = ps })
    (map-append (λ pair. (pair.0, free_job pair.1)) state.jobs (numbered_from first (map new_job (if_any url)))
    ∙ ap (λ ps. with_changes free_job state.jobs ++ ps) (with_changes-numbered_from free_job first (map new_job (if_any url)) ∙ ap (numbered_from first) (still_free url)))
  where
    still_free : (url : Option (List ℕ)) → map free_job (map new_job (if_any url)) ≡ map new_job (if_any url)
    still_free None = refl
    still_free (Some url) = refl

settle-moves : (state : State) (kept : Recorded) → settle (moves kept state) ≡ moves kept (settle state)
settle-moves state (entry.Accept accept) = settle-accepts accept.parts state
settle-moves state (entry.Acked acked) =
    ap (λ ps. record (settle (moves (entry.Acked acked) state)) { waiting = ps }) (with_changes-without free_waiting acked.message state.waiting)
    ∙ ap (λ sms. awaits acked.smsc acked.foreign (asked_by acked sms) (record (ends acked.message (settle state)) { acked = state.acked + 1 })) (sym (sms-settle acked.message state))
settle-moves state (entry.Rejected rejected) =
    ap (λ ps. record (settle (moves (entry.Rejected rejected) state)) { waiting = ps }) (with_changes-without free_waiting rejected.message state.waiting)
settle-moves state (entry.Reported reported) = settle-hears reported _ state
settle-moves state (entry.Arrived arrived) =
    ap (λ ps. record (settle (moves (entry.Arrived arrived) state)) { arrivals = ps }) (map-append (λ pair. (pair.0, free_arrival pair.1)) state.arrivals _)
settle-moves state (entry.Answered answered) =
    settle-accepts answered.parts (answers answered.arrivals state)
    ∙ ap (λ ps. accepts answered.parts (record (settle state) { arrivals = ps })) (with_changes-fold free_arrival state.arrivals answered.arrivals)
settle-moves state other = ap (λ ps. record (settle (moves other state)) { jobs = ps }) (with_changes-without free_job _ state.jobs)

-- what is kept does to a settled state what it does, settled
pub settle-keeps : (birth : ℕ) (state : State) (kept : Recorded) → settle (keeps birth kept state) ≡ keeps birth kept (settle state)
settle-keeps birth state kept =
    settle-calls (url_in birth state kept) (moves kept state)
    ∙ ap (calls (url_in birth state kept)) (settle-moves state kept)
    ∙ ap (λ url. calls url (moves kept (settle state))) (sym (url-settle birth state kept))

-- all links are down, whichever was up
all_down : (up : List Bool) (link : ℕ) (is : Bool) → map (λ u. false) (slice_set up link is) ≡ map (λ u. false) up
all_down [] link is = refl
all_down (u ∷ up) zero is = refl
all_down (u ∷ up) (suc link) is = ap (λ ups. false ∷ ups) (all_down up link is)

-- what passes is forgotten
pub settle-passes : (state : State) (brief : Passing) → settle (passes brief state) ≡ settle state
settle-passes state (Up link) = ap (λ ups. record (settle state) { up = ups }) (all_down state.up link true)
settle-passes state (Down link) = ap (λ ups. record (settle state) { up = ups }) (all_down state.up link false)
settle-passes state (Took link message time) = ap (λ ps. record (settle state) { waiting = ps }) (with_changes-with_change free_waiting message _ state.waiting (λ w. refl))
settle-passes state (Returned message) = ap (λ ps. record (settle state) { waiting = ps }) (with_changes-with_change free_waiting message _ state.waiting (λ w. refl))
settle-passes state (TookJob job) = ap (λ ps. record (settle state) { jobs = ps }) (with_changes-with_change free_job job _ state.jobs (λ j. refl))
settle-passes state (ReturnedJob job) = ap (λ ps. record (settle state) { jobs = ps }) (with_changes-with_change free_job job _ state.jobs (λ j. refl))
settle-passes state (TookArrival arrival) = ap (λ ps. record (settle state) { arrivals = ps }) (with_changes-with_change free_arrival arrival _ state.arrivals (λ a. refl))
settle-passes state (ReturnedArrival arrival) = ap (λ ps. record (settle state) { arrivals = ps }) (with_changes-with_change free_arrival arrival _ state.arrivals (λ a. refl))

-- a state that is opened again after entries is the settled state before them, with the entries that are kept
pub settle-after : (birth : ℕ) (state : State) (entries : List Entry) → settle (after birth state entries) ≡ after birth (settle state) (kept entries)
settle-after birth state [] = refl
settle-after birth state (recorded one ∷ entries) =
    settle-after birth (does birth state (recorded one)) entries ∙ ap (λ s. after birth (counts_entry s) (kept entries)) (settle-keeps birth state one)
settle-after birth state (passing one ∷ entries) =
    settle-after birth (does birth state (passing one)) entries ∙ ap (λ s. after birth s (kept entries)) (settle-passes state one)

kept-kept : (entries : List Entry) → kept (kept entries) ≡ kept entries
kept-kept [] = refl
kept-kept (recorded one ∷ entries) = ap (λ es. recorded one ∷ es) (kept-kept entries)
kept-kept (passing one ∷ entries) = kept-kept entries

-- the law of settling
pub settles_alike : (birth : ℕ) (state : State) (entries : List Entry) → SettlesAlike birth state entries
settles_alike birth state entries =
    settle-after birth state entries ∙ sym (settle-after birth state (kept entries) ∙ ap (after birth (settle state)) (kept-kept entries))

-- a store keeps all of the entries that are recorded
pub kept-recorded : (entries : List Recorded) → kept (map recorded entries) ≡ map recorded entries
kept-recorded [] = refl
kept-recorded (one ∷ entries) = ap (λ es. recorded one ∷ es) (kept-recorded entries)

-- so what is left of a state behind recorded entries is what they make of what is left of it
pub settled_fold : (birth : ℕ) (state : State) (entries : List Recorded) → settle (after birth state (map recorded entries)) ≡ after birth (settle state) (map recorded entries)
settled_fold birth state entries = settle-after birth state (map recorded entries) ∙ ap (after birth (settle state)) (kept-recorded entries)

-- what is left stays
settled_values : {T : Type 0} (every : T → T) (pairs : List (ℕ × T)) → ((value : T) → every (every value) ≡ every value) → with_changes every (with_changes every pairs) ≡ with_changes every pairs
settled_values every [] same = refl
settled_values every (pair ∷ pairs) same = rw (same pair.1, settled_values every pairs same) refl

still_down : (up : List Bool) → map (λ u. false) (map (λ u. false) up) ≡ map (λ u. false) up
still_down [] = refl
still_down (u ∷ up) = ap (λ ups. false ∷ ups) (still_down up)

pub settled_twice : (state : State) → settle (settle state) ≡ settle state
settled_twice state =
    let waiting = settled_values free_waiting state.waiting (λ w. refl) in
    let arrivals = settled_values free_arrival state.arrivals (λ a. refl) in
    let jobs = settled_values free_job state.jobs (λ j. refl) in
    let up = still_down state.up in
    (λ i. record state { waiting = waiting i; arrivals = arrivals i; jobs = jobs i; up = up i })

none_up : (links : ℕ) → map (λ u. false) (replicate links false) ≡ replicate links false
none_up zero = refl
none_up (suc links) = ap (λ ups. false ∷ ups) (none_up links)

-- nothing is taken in a store in which nothing has happened
pub settled_empty : (links : ℕ) → settle (empty links) ≡ empty links
settled_empty links = ap (λ ups. record (empty links) { up = ups }) (none_up links)

-- what a store is opened with, of the entries that it keeps, is settled
pub settled_since_birth : (birth links : ℕ) (entries : List Recorded) → settle (after birth (empty links) (map recorded entries)) ≡ after birth (empty links) (map recorded entries)
settled_since_birth birth links entries = settled_fold birth (empty links) entries ∙ ap (λ s. after birth s (map recorded entries)) (settled_empty links)

-- the counts stay, and which messages wait
pub totals-settle : (state : State) → totals_of (settle state) ≡ totals_of state
totals-settle state =
    let waiting = length-map state.waiting (λ pair. (pair.0, free_waiting pair.1)) in
    let arrivals = length-map state.arrivals (λ pair. (pair.0, free_arrival pair.1)) in
    let jobs = length-map state.jobs (λ pair. (pair.0, free_job pair.1)) in
    (λ i. record (totals_of state) { waiting = waiting i; arrivals = arrivals i; jobs = jobs i })
