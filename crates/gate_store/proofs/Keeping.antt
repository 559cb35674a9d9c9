-- A store stays open, under its rules, whatever a call did; and a link of one that was opened may come up.
use Rattle.std.specs.Prelude.{if◌then◌else◌}
use Rattle.std.proofs.Common.{◌≡◌, ◌≤◌, ◌+◌, ℕ, zero, suc, ◌<◌, arith, Bool, true, false, List, [], ◌∷◌, ◌++◌, length, map, slice_get, Option, Some, None, Result, Ok, Err, refl, sym, ◌∙◌, ap, subst, inl, inr}
use Rattle.kn_base.specs.declared.memory.Memory.{Memory}
use Rattle.gate_entries.specs.declared.passing.Passing.{Passing}
use Rattle.gate_entries.specs.declared.passing.Passing.TheVariants.{Up, Took, TookArrival, TookJob}
use Rattle.gate_entries.specs.declared.recorded.Recorded.{Recorded}
use Rattle.gate_model.specs.Lawful.{MayPass, is_expired}
use Rattle.gate_model.specs.Routing.{next, next_arrival, next_job}
use Rattle.gate_model.specs.Settling.{settle}
use Rattle.gate_model.specs.State.{State}
use Rattle.gate_model.specs.declared.reply.Refusal.{Refusal}
use Rattle.gate_model.specs.declared.reply.Reply.{Reply}
use Rattle.route_rules.specs.declared.rules.Rules.{Rules}
use Rattle.sms_record.specs.declared.sms.Sms.{Sms}
use Rattle.store_disk.specs.Meaning.{Meaning}
use Rattle.gate_store.specs.Deeds.{Performs, Passes, Takes, TakesNext, TakesMessage, TakesNextArrival, TakesArrival, TakesThisArrival, TakesNextJob, TakesJob, TakesThisJob, Withholds, given_up, is_untried, put_behind, repair_calls}
use Rattle.gate_store.specs.Entries.{state_of}
use Rattle.gate_store.specs.Store.{IsOpen, IsOpened, birth_in, disk_in, rules_in, state_in, unsure_in}
use Rattle.gate_store.specs.declared.store.Store.{Store}
use Rattle.gate_store.specs.declared.taken.Taken.{Taken}
use Rattle.gate_store.specs.declared.taken.Taken.TheVariants as taken

few_calls : (unsure : Option Recorded) (untried : Bool) → (if untried then 0 else repair_calls unsure + 4) ≤ 6
few_calls unsure true = omega arith
few_calls None false = omega arith
few_calls (Some kept) false = omega arith

module _ {D : Type 0} (meaning : Meaning D) where
  -- it is open still, under the same rules
  pub record StaysOpen (old new : Store D) : Type 0 where
    pub opened : IsOpen meaning new
    pub ruled : rules_in new ≡ rules_in old

  pub performs_keeps : (old new : Store D) (kept : Recorded) (outcome : Result Reply Refusal) → IsOpen meaning old
      → Performs meaning old kept outcome new → StaysOpen old new
  performs_keeps old new kept outcome held does_ = record {
    opened = (held.0, held.1 ++ put_behind kept outcome, does_.holds held.0 held.1 held.2);
    ruled = does_.ruled;
  }

  pub passes_keeps : (old new : Store D) (brief : Passing) → IsOpen meaning old → Passes meaning old brief new → StaysOpen old new
  passes_keeps old new brief held passes = record {
    opened = (held.0, held.1, passes.holds held.0 held.1 held.2);
    ruled = passes.ruled;
  }

  same_keeps : (old new : Store D) → IsOpen meaning old → new ≡ old → StaysOpen old new
  same_keeps old new held same = record {
    opened = subst (IsOpen meaning) (sym same) held;
    ruled = ap rules_in same;
  }

  withholds_keeps : (expired : Bool) (old new : Store D) (link now message : ℕ) (refusal : Refusal) → IsOpen meaning old
      → Withholds meaning expired old link now message refusal new → StaysOpen old new
  withholds_keeps true old new link now message refusal held (inl does_) =
      performs_keeps old new (given_up meaning (rules_in old) link now message) (Err refusal) held does_
  withholds_keeps true old new link now message refusal held (inr none) = same_keeps old new held none.1
  withholds_keeps false old new link now message refusal held none = same_keeps old new held none.1

  takes_message_keeps : (old new : Store D) (link now message : ℕ) (outcome : Result (Option Taken) Refusal) → IsOpen meaning old
      → TakesMessage meaning old link now message outcome new → StaysOpen old new
  takes_message_keeps old new link now message (Ok None) held takes = absurd takes
  takes_message_keeps old new link now message (Ok (Some (taken.Send number sms))) held takes =
      passes_keeps old new (Took link message now) held takes.3
  takes_message_keeps old new link now message (Ok (Some (taken.Expired number))) held takes =
      performs_keeps old new (given_up meaning (rules_in old) link now message) (Ok takes.2) held takes.3
  takes_message_keeps old new link now message (Err refusal) held takes =
      withholds_keeps (is_expired message now (state_in old)) old new link now message refusal held takes

  takes_next_keeps : (old new : Store D) (link now : ℕ) (message : Option ℕ) (outcome : Result (Option Taken) Refusal) → IsOpen meaning old
      → TakesNext meaning old link now message outcome new → StaysOpen old new
  takes_next_keeps old new link now None outcome held takes = same_keeps old new held takes.1
  takes_next_keeps old new link now (Some message) outcome held takes = takes_message_keeps old new link now message outcome held takes

  pub takes_keeps : (old new : Store D) (link now : ℕ) (outcome : Result (Option Taken) Refusal) → IsOpen meaning old
      → Takes meaning old link now outcome new → StaysOpen old new
  takes_keeps old new link now outcome held takes = takes_next_keeps old new link now (next (rules_in old) (state_in old) link now) outcome held takes

  takes_this_job_keeps : (old new : Store D) (job : ℕ) (outcome : Result (Option (ℕ × List ℕ × ℕ)) Memory) → IsOpen meaning old
      → TakesThisJob meaning old job outcome new → StaysOpen old new
  takes_this_job_keeps old new job (Ok None) held takes = absurd takes
  takes_this_job_keeps old new job (Ok (Some taken)) held takes = passes_keeps old new (TookJob job) held takes.3
  takes_this_job_keeps old new job (Err memory) held takes = same_keeps old new held takes

  takes_that_job_keeps : (old new : Store D) (job : Option ℕ) (outcome : Result (Option (ℕ × List ℕ × ℕ)) Memory) → IsOpen meaning old
      → TakesJob meaning old job outcome new → StaysOpen old new
  takes_that_job_keeps old new None outcome held takes = same_keeps old new held takes.1
  takes_that_job_keeps old new (Some job) outcome held takes = takes_this_job_keeps old new job outcome held takes

  pub takes_job_keeps : (old new : Store D) (outcome : Result (Option (ℕ × List ℕ × ℕ)) Memory) → IsOpen meaning old
      → TakesNextJob meaning old outcome new → StaysOpen old new
  takes_job_keeps old new outcome held takes = takes_that_job_keeps old new (next_job (state_in old)) outcome held takes

  takes_this_arrival_keeps : (old new : Store D) (arrival : ℕ) (outcome : Result (Option (ℕ × Sms)) Memory) → IsOpen meaning old
      → TakesThisArrival meaning old arrival outcome new → StaysOpen old new
  takes_this_arrival_keeps old new arrival (Ok None) held takes = absurd takes
  takes_this_arrival_keeps old new arrival (Ok (Some taken)) held takes = passes_keeps old new (TookArrival arrival) held takes.2
  takes_this_arrival_keeps old new arrival (Err memory) held takes = same_keeps old new held takes

  takes_that_arrival_keeps : (old new : Store D) (arrival : Option ℕ) (outcome : Result (Option (ℕ × Sms)) Memory) → IsOpen meaning old
      → TakesArrival meaning old arrival outcome new → StaysOpen old new
  takes_that_arrival_keeps old new None outcome held takes = same_keeps old new held takes.1
  takes_that_arrival_keeps old new (Some arrival) outcome held takes = takes_this_arrival_keeps old new arrival outcome held takes

  pub takes_arrival_keeps : (old new : Store D) (outcome : Result (Option (ℕ × Sms)) Memory) → IsOpen meaning old
      → TakesNextArrival meaning old outcome new → StaysOpen old new
  takes_arrival_keeps old new outcome held takes = takes_that_arrival_keeps old new (next_arrival (state_in old)) outcome held takes

  -- an entry needs six disk calls at most
  pub six_calls : (old new : Store D) (kept : Recorded) (outcome : Result Reply Refusal) → Performs meaning old kept outcome new
      → meaning.calls (disk_in new) ≤ meaning.calls (disk_in old) + 6
  six_calls old new kept outcome does_ = let few = few_calls (unsure_in old) (is_untried outcome) in let bounded = does_.bounded in omega arith

  -- a store that was opened is settled
  pub opened_settled : (disk : D) (rules : Rules) (birth : ℕ) (store : Store D) → IsOpened meaning disk rules birth store
      → settle (state_in store) ≡ state_in store
  opened_settled disk rules birth store is =
      is.holds.state ∙ ap (λ r. state_of (birth_in store) r is.entries) is.ruled ∙ sym is.state

down_at : (ups : List Bool) (at : ℕ) → at < length ups → slice_get (map (λ (up : Bool). false) ups) at ≡ Some false
down_at [] at within = absurd (omega (arith, within))
down_at (up ∷ ups) zero within = refl
down_at (up ∷ ups) (suc at) within = down_at ups at (omega (arith, within))

-- a link of a settled state may come up
pub may_come_up : (rules : Rules) (state : State) (link : ℕ) → settle state ≡ state → link < length state.up → MayPass rules state (Up link)
may_come_up rules state link settled within = subst (λ ups. slice_get ups link ≡ Some false) (ap (λ (s : State). s.up) settled) (down_at state.up link within)
