-- The entry that may be unsure behind deeds.
use Rattle.std.proofs.Common.{◌≡◌, List, [], ◌∷◌, ◌++◌, Option, Some, None, Result, Ok, Err, inl, inr, ◌⊎◌, refl, ap, sym, ◌∙◌, append_assoc, subst}
use Rattle.std.specs.Prelude.{IfSome}
use Rattle.std.proofs.lemmas.List.{append-nil}
use Rattle.gate_entries.specs.declared.recorded.Recorded.{Recorded}
use Rattle.gate_model.specs.Acceptor.{Deed}
use Rattle.gate_model.specs.declared.reply.Refusal.{Refusal}
use Rattle.gate_model.specs.declared.reply.Refusal.TheVariants.{NoRoute, Full, Disk, Memory}
use Rattle.gate_model.specs.declared.reply.Reply.{Reply}
use Rattle.gate_store.specs.Deeds.{LeavesUnsure, MayBeUnsure, entries_of, entry_of, put_behind}
use Rattle.boxes_main.specs.Door.{IsInDoubt}
use Rattle.boxes_main.proofs.Answered.{done_of-append}

-- what was in doubt still is, behind a deed that wasn't done
still_in_doubt : (earlier : List Deed) (deed : Deed) (unsure : Option Recorded) → entries_of deed ≡ [] → IfSome unsure (IsInDoubt earlier)
    → IfSome unsure (IsInDoubt (earlier ++ deed ∷ []))
still_in_doubt earlier deed None undone doubt = tt
still_in_doubt earlier deed (Some kept) undone doubt = record {
  before = doubt.before;
  deed = doubt.deed;
  since = doubt.since ++ deed ∷ [];
  split = ap (λ x. x ++ deed ∷ []) doubt.split ∙ append_assoc doubt.before (doubt.deed ∷ doubt.since) (deed ∷ []);
  failed = doubt.failed;
  asked = doubt.asked;
  none_done = done_of-append doubt.since (deed ∷ []) ∙ ap (λ x. x ++ (entries_of deed ++ [])) doubt.none_done ∙ ap (λ x. x ++ []) undone;
}

-- the disk failed in a deed, whose entry is in doubt then
now_in_doubt : (earlier : List Deed) (deed : Deed) → deed.outcome ≡ Err Disk → IsInDoubt (earlier ++ deed ∷ []) (entry_of deed)
now_in_doubt earlier deed failed = record { before = earlier; deed = deed; since = []; split = refl; failed = failed; asked = refl; none_done = refl }

-- what is in doubt behind one deed more
one_more : (earlier : List Deed) (deed : Deed) (before now : Option Recorded) (outcome : Result Reply Refusal) → deed.outcome ≡ outcome → IfSome before (IsInDoubt earlier)
    → LeavesUnsure before (entry_of deed) outcome now → IfSome now (IsInDoubt (earlier ++ deed ∷ []))
one_more earlier deed before now (Ok reply) same doubt leaves = subst (λ (u : Option Recorded). IfSome u (IsInDoubt (earlier ++ deed ∷ []))) (sym leaves) tt
one_more earlier deed before now (Err Disk) same doubt leaves = by_cases leaves
  where
    by_cases : (now ≡ before) ⊎ (now ≡ None) ⊎ (now ≡ Some (entry_of deed)) → IfSome now (IsInDoubt (earlier ++ deed ∷ []))
    by_cases (inl is) = subst (λ (u : Option Recorded). IfSome u (IsInDoubt (earlier ++ deed ∷ []))) (sym is)
        (still_in_doubt earlier deed before (ap (put_behind (entry_of deed)) same) doubt)
    by_cases (inr (inl is)) = subst (λ (u : Option Recorded). IfSome u (IsInDoubt (earlier ++ deed ∷ []))) (sym is) tt
    by_cases (inr (inr is)) = subst (λ (u : Option Recorded). IfSome u (IsInDoubt (earlier ++ deed ∷ []))) (sym is) (now_in_doubt earlier deed same)
one_more earlier deed before now (Err (NoRoute part)) same doubt leaves = subst (λ (u : Option Recorded). IfSome u (IsInDoubt (earlier ++ deed ∷ []))) (sym leaves)
    (still_in_doubt earlier deed before (ap (put_behind (entry_of deed)) same) doubt)
one_more earlier deed before now (Err (Full held limit)) same doubt leaves = subst (λ (u : Option Recorded). IfSome u (IsInDoubt (earlier ++ deed ∷ []))) (sym leaves)
    (still_in_doubt earlier deed before (ap (put_behind (entry_of deed)) same) doubt)
one_more earlier deed before now (Err Memory) same doubt leaves = subst (λ (u : Option Recorded). IfSome u (IsInDoubt (earlier ++ deed ∷ []))) (sym leaves)
    (still_in_doubt earlier deed before (ap (put_behind (entry_of deed)) same) doubt)

pub in_doubt_more : (earlier : List Deed) (deed : Deed) (before now : Option Recorded) → IfSome before (IsInDoubt earlier)
    → LeavesUnsure before (entry_of deed) deed.outcome now → IfSome now (IsInDoubt (earlier ++ deed ∷ []))
in_doubt_more earlier deed before now doubt leaves = one_more earlier deed before now deed.outcome refl doubt leaves

-- what is in doubt behind deeds
pub in_doubt : (earlier deeds : List Deed) (before now : Option Recorded) → IfSome before (IsInDoubt earlier) → MayBeUnsure before deeds now
    → IfSome now (IsInDoubt (earlier ++ deeds))
in_doubt earlier [] before now doubt may =
    subst (λ (u : Option Recorded). IfSome u (IsInDoubt (earlier ++ []))) (sym may) (subst (λ ds. IfSome before (IsInDoubt ds)) (sym (append-nil earlier)) doubt)
in_doubt earlier (deed ∷ deeds) before now doubt may =
    subst (λ ds. IfSome now (IsInDoubt ds)) (append_assoc earlier (deed ∷ []) deeds)
    (in_doubt (earlier ++ deed ∷ []) deeds may.0 now (in_doubt_more earlier deed before may.0 doubt may.1) may.2)
