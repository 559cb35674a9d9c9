-- An entry that is recorded: what it moves, the URL that it calls, and its count.
use Rattle.std.proofs.Common.{◌≡◌, refl, sym, ap, ◌∙◌, subst, ℕ, ◌+◌, ◌≤◌, ◌<◌, true, false, cond, List, Option, Some, None, arith}
use Rattle.std.specs.Prelude.{IfSome, IsSome, is_some}
use Rattle.dlr_table.specs.Reports.{oldest}
use Rattle.dlr_table.specs.declared.awaited.Awaited.{Awaited}
use Rattle.sms_record.specs.declared.sms.Sms.{Sms}
use Rattle.gate_entries.specs.declared.acked.Acked.{Acked}
use Rattle.gate_entries.specs.declared.recorded.Recorded.{Recorded}
use Rattle.gate_entries.specs.declared.recorded.Recorded.TheVariants as entry
use Rattle.gate_entries.specs.declared.reported.Reported.{Reported}
use Rattle.gate_model.specs.Fold.{acknowledges, asked_by, awaits, calls, closes, counts_entry, does, ends, first_under, hears, is_last, misses, moves, recorded, sms_of, url_in}
use Rattle.gate_model.specs.State.{State}

-- what an entry moves leaves how many jobs were made and how many entries were recorded
record IsAlike (old new : State) : Type 0 where
  pub last_job : new.last_job ≡ old.last_job
  pub entries : new.entries ≡ old.entries

alike-moves : (kept : Recorded) (state : State) → IsAlike state (moves kept state)
alike-moves (entry.Reported reported) state = heard (oldest (state.awaited reported.smsc reported.foreign))
  where
    heard : (found : Option Awaited) → IsAlike state (hears reported found state)
    heard None = record { last_job = refl; entries = refl }
    heard (Some awaited) =
        elim (is_last reported.kind) as (λ b. IsAlike state (cond b (closes reported.smsc reported.foreign state) state)) [
          | true ↦ record { last_job = refl; entries = refl }
          | false ↦ record { last_job = refl; entries = refl }
        ]
alike-moves other state = record { last_job = refl; entries = refl }

-- so behind an entry that is counted, fewer jobs were made than entries were recorded
pub fewer_jobs : (kept : Recorded) (state mid : State) → mid ≡ counts_entry (moves kept state) → state.last_job ≤ state.entries → mid.last_job < mid.entries
fewer_jobs kept state mid is fewer =
    let alike = alike-moves kept state in
    let last = alike.last_job in
    let entries = alike.entries in
    let here : (moves kept state).last_job < (moves kept state).entries + 1 = omega (arith, last, entries, fewer) in
    subst (λ (s : State). s.last_job < s.entries) (sym is) here

-- what an entry moves, its count, and the URL that it calls are what it does
pub applied : (birth : ℕ) (kept : Recorded) (url : Option (List ℕ)) (state mid new : State) → mid ≡ counts_entry (moves kept state) → url ≡ url_in birth state kept
    → new ≡ calls url mid → new ≡ does birth state (recorded kept)
applied birth kept url state mid new moved is called =
    called ∙ ap (calls url) moved ∙ ap (λ u. counts_entry (calls u (moves kept state))) is

-- places that were there for a URL still are
pub still_room : (url : Option (List ℕ)) (before now : ℕ) → before ≤ now → IfSome url (λ _. 1 ≤ before) → IfSome url (λ _. 1 ≤ now)
still_room None before now more room = tt
still_room (Some url) before now more room = omega (arith, more, room)

-- a report of no message
pub heard_none : (reported : Reported) (state new : State) → is_some (first_under reported state) ≡ false → new ≡ counts_entry (misses state)
    → new ≡ counts_entry (hears reported (first_under reported state) state)
heard_none reported state new none missed = missed ∙ by_found (first_under reported state) none
  where
    by_found : (found : Option Awaited) → is_some found ≡ false → counts_entry (misses state) ≡ counts_entry (hears reported found state)
    by_found None none = refl
    by_found (Some awaited) none = absurd cc

-- a report of one, that none follows, or that others may
pub heard_last : (reported : Reported) (state : State) → IsSome (first_under reported state) → is_last reported.kind ≡ true
    → counts_entry (closes reported.smsc reported.foreign state) ≡ counts_entry (hears reported (first_under reported state) state)
heard_last reported state some last = by_found (first_under reported state) some
  where
    by_found : (found : Option Awaited) → IsSome found → counts_entry (closes reported.smsc reported.foreign state) ≡ counts_entry (hears reported found state)
    by_found None some = absurd cc
    by_found (Some awaited) some = sym (ap (λ b. counts_entry (cond b (closes reported.smsc reported.foreign state) state)) last)

pub heard_more : (reported : Reported) (state : State) → IsSome (first_under reported state) → is_last reported.kind ≡ false
    → counts_entry state ≡ counts_entry (hears reported (first_under reported state) state)
heard_more reported state some more = by_found (first_under reported state) some
  where
    by_found : (found : Option Awaited) → IsSome found → counts_entry state ≡ counts_entry (hears reported found state)
    by_found None some = absurd cc
    by_found (Some awaited) some = sym (ap (λ b. counts_entry (cond b (closes reported.smsc reported.foreign state) state)) more)

-- a message that a centre took was handed out, and is awaited where it is to be
pub acknowledged : (acked : Acked) (sms : Option Sms) (state mid new : State) → sms ≡ sms_of acked.message state
    → mid ≡ counts_entry (record (ends acked.message state) { acked = state.acked + 1 }) → new ≡ awaits acked.smsc acked.foreign (asked_by acked sms) mid
    → new ≡ counts_entry (acknowledges acked state)
acknowledged acked sms state mid new its taken awaited =
    awaited ∙ ap (awaits acked.smsc acked.foreign (asked_by acked sms)) taken
    ∙ ap (λ o. counts_entry (awaits acked.smsc acked.foreign (asked_by acked o) (record (ends acked.message state) { acked = state.acked + 1 }))) its
