-- What an entry that isn't refused leaves room for.
use Rattle.std.proofs.Common.{◌≡◌, ◌<◌, Bool, true, false, Option, Some, None, refl, ltb-true, cond}
use Rattle.std.specs.Prelude.{nat_lt}
use Rattle.std.specs.Option.{option_or}
use Rattle.route_rules.specs.declared.rules.Rules.{Rules}
use Rattle.gate_entries.specs.declared.recorded.Recorded.{Recorded}
use Rattle.gate_entries.specs.declared.recorded.Recorded.TheVariants as entry
use Rattle.gate_model.specs.declared.reply.Refusal.TheVariants.{Full}
use Rattle.gate_model.specs.Lawful.{refusal, past_queue, past_arrivals, past_entries, without_route, most_entries}
use Rattle.gate_model.specs.State.{State}

-- neither of two is there
second_none : {T : Type 0} (first second : Option T) → option_or first second ≡ None → second ≡ None
second_none None second none = none
second_none (Some x) second none = absurd cc

few_entries : (state : State) → past_entries state ≡ None → state.entries < most_entries
few_entries state none = ltb-true state.entries most_entries (by_test (nat_lt state.entries most_entries) none)
  where
    by_test : (b : Bool) → cond b None (Some (Full state.entries most_entries)) ≡ None → b ≡ true
    by_test true none = refl
    by_test false none = absurd cc

-- fewer were recorded than ever may be
pub few_where_unrefused : (rules : Rules) (state : State) (kept : Recorded) → refusal rules state kept ≡ None → state.entries < most_entries
few_where_unrefused rules state (entry.Accept accept) none = few_entries state (second_none (past_queue rules state accept.parts) _ (second_none (without_route rules accept.parts) _ none))
few_where_unrefused rules state (entry.Arrived arrived) none = few_entries state (second_none (past_arrivals rules state) _ none)
few_where_unrefused rules state (entry.Answered answered) none = few_entries state (second_none (past_queue rules state answered.parts) _ (second_none (without_route rules answered.parts) _ none))
few_where_unrefused rules state other none = few_entries state none
