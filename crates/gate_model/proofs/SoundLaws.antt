-- What is sound is sound whoever has taken what, and whichever links are up.
use Rattle.std.proofs.Common.{◌≡◌, refl, sym, ap, ◌∙◌, subst, ℕ, true, false, List, [], ◌∷◌, Option, Some, None}
use Rattle.std.specs.Prelude.{◌&&◌, option_map, is_some, IsTrue}
use Rattle.std.specs.List.{list_all}
use Rattle.std.proofs.lemmas.Bool.{and_parts}
use Rattle.std.specs.Option.{option_map_or}
use Rattle.route_rules.specs.declared.rules.Rules.{Rules}
use Rattle.gate_entries.specs.declared.cause.Cause.{Cause}
use Rattle.gate_entries.specs.declared.cause.Cause.TheVariants.{Centre, Expired}
use Rattle.gate_entries.specs.Entry.{ended_job}
use Rattle.gate_entries.specs.declared.recorded.Recorded.{Recorded}
use Rattle.gate_entries.specs.declared.recorded.Recorded.TheVariants as entry
use Rattle.gate_model.specs.declared.waiting.Waiting.{Waiting}
use Rattle.gate_model.specs.Numbers.{is_held, value_under, with_changes}
use Rattle.gate_model.specs.State.{State}
use Rattle.gate_model.specs.Fold.{Entry, recorded, passing, does, counts_entry}
use Rattle.gate_model.specs.Lawful.{IsLawful, IsSound, IsTimed, suits, may_end, has_expired, are_distinct, is_time, holds_job}
use Rattle.gate_model.specs.Fates.{AreSound}
use Rattle.gate_model.specs.Settling.{settle, free_waiting, free_arrival, free_job, kept}
use Rattle.gate_model.proofs.SettlingLaws.{settle-keeps, settle-passes, value_under-with_changes}

module _ {T : Type 0} (every : T → T) where
  still_there : (value : Option T) → is_some (option_map every value) ≡ is_some value
  still_there None = refl
  still_there (Some value) = refl

  -- and none comes or goes
  pub held-with_changes : (number : ℕ) (pairs : List (ℕ × T)) → is_held number (with_changes every pairs) ≡ is_held number pairs
  held-with_changes number pairs = ap is_some (value_under-with_changes every number pairs) ∙ still_there (value_under number pairs)

-- a message is stored in what is left of a state exactly where it is in the state
pub held-settle : (message : ℕ) (state : State) → is_held message (settle state).waiting ≡ is_held message state.waiting
held-settle message state = held-with_changes free_waiting message state.waiting

may_end-settle : (state : State) (message time : ℕ) (cause : Cause) → may_end (settle state) message time cause ≡ may_end state message time cause
may_end-settle state message time (Centre code) = held-settle message state
may_end-settle state message time Expired = ap (λ w. option_map_or (has_expired time) w false) (value_under-with_changes free_waiting message state.waiting) ∙ same (value_under message state.waiting)
  where
    same : (waiting : Option Waiting) → option_map_or (has_expired time) (option_map free_waiting waiting) false ≡ option_map_or (has_expired time) waiting false
    same None = refl
    same (Some waiting) = refl

all_held-settle : (state : State) (numbers : List ℕ) → list_all (λ arrival. is_held arrival (settle state).arrivals) numbers ≡ list_all (λ arrival. is_held arrival state.arrivals) numbers
all_held-settle state [] = refl
all_held-settle state (number ∷ numbers) = rw (held-with_changes free_arrival number state.arrivals, all_held-settle state numbers) refl

held_job-settle : (state : State) (job : Option ℕ) → holds_job (settle state) job ≡ holds_job state job
held_job-settle state None = refl
held_job-settle state (Some job) = held-with_changes free_job job state.jobs

-- what suits a state suits what is left of it
pub suits-settle : (state : State) (one : Recorded) → suits (settle state) one ≡ suits state one
suits-settle state (entry.Accept accept) = refl
suits-settle state (entry.Acked acked) = ap (λ b. b && is_time acked.time) (held-settle acked.message state)
suits-settle state (entry.Rejected rejected) = ap (λ b. b && is_time rejected.time) (may_end-settle state rejected.message rejected.time rejected.cause)
suits-settle state (entry.Reported reported) = refl
suits-settle state (entry.Arrived arrived) = refl
suits-settle state (entry.Answered answered) = ap (λ b. (b && are_distinct answered.arrivals) && is_time answered.time) (all_held-settle state answered.arrivals)
suits-settle state other = held_job-settle state (ended_job other)

pub sound-settle : (state : State) (one : Recorded) → IsSound state one → IsSound (settle state) one
sound-settle state one sound = (sound.0, subst IsTrue (sym (suits-settle state one)) sound.1)

-- a lawful entry is sound, here and in what is left of the state
pub sound_where_lawful : (rules : Rules) (state : State) (one : Recorded) → IsLawful rules state (recorded one) → IsSound state one × IsSound (settle state) one
sound_where_lawful rules state one lawful = (lawful.0, sound-settle state one lawful.0)

-- what is kept of sound entries is sound where the state before them is settled
pub are_sound-settle : (birth : ℕ) (state : State) (entries : List Entry) → AreSound birth state entries → AreSound birth (settle state) (kept entries)
are_sound-settle birth state [] sound = tt
are_sound-settle birth state (recorded one ∷ entries) sound = (
  sound-settle state one sound.0,
  subst (λ s. AreSound birth (counts_entry s) (kept entries)) (settle-keeps birth state one) (are_sound-settle birth (does birth state (recorded one)) entries sound.1),
)
are_sound-settle birth state (passing brief ∷ entries) sound =
    subst (λ s. AreSound birth s (kept entries)) (settle-passes state brief) (are_sound-settle birth (does birth state (passing brief)) entries sound.1)

-- the time of an entry that suits a state is a reading of the clock
pub timed_where_suits : (state : State) (one : Recorded) → suits state one ≡ true → IsTimed one
timed_where_suits state (entry.Acked acked) suited = (and_parts _ _ suited).1
timed_where_suits state (entry.Rejected rejected) suited = (and_parts _ _ suited).1
timed_where_suits state (entry.Reported reported) suited = suited
timed_where_suits state other suited = refl
