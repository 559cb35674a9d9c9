-- What the model refuses.
use Rattle.std.proofs.Common.{◌≡◌, ℕ, Bool, true, false, cond, nat_lt, List, length, Option, Some, None, Err, IfSome, refl, subst}
use Rattle.std.specs.Option.{option_or, option_map}
use Rattle.gate_entries.specs.declared.recorded.Recorded.{Recorded}
use Rattle.gate_entries.specs.declared.recorded.Recorded.TheVariants as entry
use Rattle.gate_model.specs.Lawful.{refusal, refused_parts, without_route, past_queue, past_arrivals, past_entries, most_entries}
use Rattle.gate_model.specs.State.{State}
use Rattle.gate_model.specs.declared.reply.Refusal.{Refusal}
use Rattle.gate_model.specs.declared.reply.Refusal.TheVariants.{NoRoute, Full, Disk, Memory}
use Rattle.gate_model.specs.declared.reply.Reply.{Reply}
use Rattle.route_rules.specs.declared.rules.Rules.{Rules}
use Rattle.sms_record.specs.declared.sms.Sms.{Sms}
use Rattle.gate_store.specs.Deeds.{IsReason, is_by_disk}

-- the refusals that a model answers
abbrev pub IsNamed : Refusal → Type 0
IsNamed (NoRoute part) = Unit {0}
IsNamed (Full held limit) = Unit {0}
IsNamed Disk = ⊥
IsNamed Memory = ⊥

named_or : (first second : Option Refusal) → IfSome first IsNamed → IfSome second IsNamed → IfSome (option_or first second) IsNamed
named_or (Some why) second f s = f
named_or None second f s = s

named_part : (place : Option ℕ) → IfSome (option_map (λ part. NoRoute part) place) IsNamed
named_part (Some part) = tt
named_part None = tt

named_full : (b : Bool) (held limit : ℕ) → IfSome (cond b (Some (Full held limit)) None) IsNamed
named_full true held limit = tt
named_full false held limit = tt

named_entries : (state : State) → IfSome (past_entries state) IsNamed
named_entries state = by_test (nat_lt state.entries most_entries)
  where
    by_test : (b : Bool) → IfSome (cond b None (Some (Full state.entries most_entries))) IsNamed
    by_test true = tt
    by_test false = tt

named_parts : (rules : Rules) (state : State) (parts : List Sms) → IfSome (refused_parts rules state parts) IsNamed
named_parts rules state parts =
    named_or (without_route rules parts) (option_or (past_queue rules state parts) (past_entries state)) (named_part _)
    (named_or (past_queue rules state parts) (past_entries state) (named_full _ (length state.waiting) rules.outgoing) (named_entries state))

named : (rules : Rules) (state : State) (kept : Recorded) → IfSome (refusal rules state kept) IsNamed
named rules state (entry.Accept accept) = named_parts rules state accept.parts
named rules state (entry.Arrived arrived) =
    named_or (past_arrivals rules state) (past_entries state) (named_full _ (length state.arrivals) rules.incoming) (named_entries state)
named rules state (entry.Answered answered) = named_parts rules state answered.parts
named rules state other = named_entries state

by_name : (rules : Rules) (state : State) (kept : Recorded) (why : Refusal) → IsNamed why → refusal rules state kept ≡ Some why
    → IsReason rules state kept (Err why) × (is_by_disk {T = Reply} (Err why) ≡ false)
by_name rules state kept (NoRoute part) n is = (is, refl)
by_name rules state kept (Full held limit) n is = (is, refl)
by_name rules state kept Disk n is = absurd n
by_name rules state kept Memory n is = absurd n

-- what a model refuses is the reason of an outcome that isn't by the disk
pub reason_named : (rules : Rules) (state : State) (kept : Recorded) (why : Refusal) → refusal rules state kept ≡ Some why
    → IsReason rules state kept (Err why) × (is_by_disk {T = Reply} (Err why) ≡ false)
reason_named rules state kept why is =
    by_name rules state kept why (subst (λ o. IfSome o IsNamed) is (named rules state kept)) is
