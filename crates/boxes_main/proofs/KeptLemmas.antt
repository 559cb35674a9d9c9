-- A store that was opened on a new disk of the house, and closed: what is left of it, and what it cost.
use Rattle.std.proofs.Common.{◌≡◌, ◌≤◌, ◌+◌, inl, inr, ⊎_elim, ℕ, List, ◌++◌, Option, Some, None, Result, Ok, Err, map, ap, sym, ◌∙◌, arith, subst}
use Rattle.std.specs.Bool.{OnTrue}
use Rattle.gate_entries.specs.declared.recorded.Recorded.{Recorded}
use Rattle.gate_model.specs.Due.{HaveReports}
use Rattle.gate_model.specs.Fates.{HaveFates}
use Rattle.gate_model.specs.Fold.{does, recorded}
use Rattle.gate_model.specs.Settling.{settle}
use Rattle.gate_model.specs.State.{State}
use Rattle.gate_model.specs.declared.reply.Refusal.{Refusal}
use Rattle.gate_model.specs.declared.reply.Refusal.TheVariants as refusal_is
use Rattle.gate_model.specs.declared.reply.Reply.{Reply}
use Rattle.gate_store.specs.Deeds.{Performs, repair_calls}
use Rattle.gate_store.specs.Entries.{start, state_of}
use Rattle.gate_store.specs.Reopening.{Reopens, ReopensTo, MayReopen, MayStandFor}
use Rattle.gate_store.specs.Store.{IsStore, birth_in, disk_in, rules_in, state_in, unsure_in}
use Rattle.gate_store.specs.declared.store.Store.{Store}
use Rattle.gate_store.proofs.Commits.{settle-state_of}
use Rattle.gate_store.proofs.Counting.{fates_by, reports_by}
use Rattle.gate_store.proofs.Recording.{stops_now}
use Rattle.gate_store.proofs.Reopened.{settle-does}
use Rattle.gate_store.proofs.Standing.{stands_now}
use Rattle.gate_store.proofs.Told.{told_weaker}
use Rattle.route_rules.specs.declared.rules.Rules.{Rules}
use Rattle.store_disk.specs.Disk.{Areas}
use Rattle.store_disk.specs.Meaning.{Meaning}
use Rattle.store_disk.specs.Story.{IsImage}
use Rattle.boxes_main.specs.Kept.{IsKept, calls_for}

-- ---- states that settle alike

alike_to : (rules : Rules) (s t : State) (image : Areas) → settle s ≡ settle t → ReopensTo rules s image → ReopensTo rules t image
alike_to rules s t image same is = subst (λ (x : State). Reopens rules image x) same is

pub alike_with : (birth : ℕ) (s t : State) (kept : Recorded) → settle s ≡ settle t → settle (does birth s (recorded kept)) ≡ settle (does birth t (recorded kept))
alike_with birth s t kept same = settle-does birth s kept ∙ ap (λ (x : State). does birth x (recorded kept)) same ∙ sym (settle-does birth t kept)

pub alike_may : (birth : ℕ) (rules : Rules) (s t : State) (unsure : Option Recorded) (image : Areas) → settle s ≡ settle t
    → MayReopen birth rules s unsure image → MayReopen birth rules t unsure image
alike_may birth rules s t None image same is = alike_to rules s t image same is
alike_may birth rules s t (Some kept) image same is =
    ⊎_elim (λ without. inl (alike_to rules s t image same without))
    (λ with_it. inr (alike_to rules (does birth s (recorded kept)) (does birth t (recorded kept)) image (alike_with birth s t kept same) with_it)) is

-- ---- what is left

module _ {D : Type 0} (meaning : Meaning D) where
  -- whatever a stop leaves of the disk of a store stands for what it holds
  pub stands_with : (store : Store D) (disk : D) (birth : ℕ) (entries : List Recorded) → disk ≡ disk_in store → IsStore meaning store birth entries
      → OnTrue meaning.tells ((image : Areas) → IsImage (meaning.story disk) image → MayStandFor birth entries (unsure_in store) image)
  stands_with store disk birth entries same is =
      subst (λ (d : D). OnTrue meaning.tells ((image : Areas) → IsImage (meaning.story d) image → MayStandFor birth entries (unsure_in store) image)) (sym same)
      (stands_now meaning store birth entries is)

  -- what became of a store that was opened with entries, and closed with more behind them
  pub kept_by : (rules : Rules) (birth : ℕ) (entries more : List Recorded) (opened closed : Store D) (disk : D)
      → rules_in opened ≡ rules → state_in opened ≡ state_of birth rules entries → rules_in closed ≡ rules → birth_in closed ≡ birth
      → IsStore meaning closed birth (entries ++ more) → disk ≡ disk_in closed
      → IsKept meaning rules birth entries more opened closed disk
  kept_by rules birth entries more opened closed disk ruled began ruled_then born holds back =
      let all = entries ++ more in
      let settled : settle (state_in closed) ≡ settle (state_of birth rules all) =
      holds.state ∙ ap (λ (r : Rules). state_of birth r all) ruled_then ∙ sym (settle-state_of birth rules all) in
      record {
        ruled = ruled;
        began = began;
        back = back;
        stands = stands_with closed disk birth all back holds;
        stops = told_weaker meaning.tells _ _
            (λ reopens image here. alike_may birth rules (state_in closed) (state_of birth rules all) (unsure_in closed) image settled
            (subst (λ (r : Rules). MayReopen birth r (state_in closed) (unsure_in closed) image) ruled_then
            (subst (λ b. MayReopen b (rules_in closed) (state_in closed) (unsure_in closed) image) born (reopens image here))))
            (subst (λ (d : D). OnTrue meaning.tells ((image : Areas) → IsImage (meaning.story d) image
            → MayReopen (birth_in closed) (rules_in closed) (state_in closed) (unsure_in closed) image)) (sym back) (stops_now meaning closed birth all holds));
        fates = subst (λ (r : Rules). HaveFates birth (start r) (map recorded all)) ruled_then (fates_by meaning closed birth all holds);
        reports = subst (λ (r : Rules). HaveReports birth (state_of birth r entries) more (state_in closed)) ruled_then
            (reports_by meaning closed birth entries more holds);
      }

  -- ---- what it cost

  few_repairs : (unsure : Option Recorded) → repair_calls unsure ≤ 2
  few_repairs None = omega arith
  few_repairs (Some kept) = omega arith

  -- an entry costs what its outcome says; where one is unsure, the calls that take it back are counted with the fault that left it so
  pub costs : (old new : Store D) (kept : Recorded) (outcome : Result Reply Refusal) → Performs meaning old kept outcome new
      → meaning.calls (disk_in new) + repair_calls (unsure_in new) ≤ meaning.calls (disk_in old) + repair_calls (unsure_in old) + calls_for outcome
  costs old new kept (Ok reply) done =
      let few : meaning.calls (disk_in new) ≤ meaning.calls (disk_in old) + (repair_calls (unsure_in old) + 4) = done.bounded in
      let sure : repair_calls (unsure_in new) ≡ 0 = ap repair_calls done.unsure in
      omega (arith, few, sure)
  costs old new kept (Err refusal_is.Disk) done =
      let few : meaning.calls (disk_in new) ≤ meaning.calls (disk_in old) + (repair_calls (unsure_in old) + 4) = done.bounded in
      let most = few_repairs (unsure_in new) in
      omega (arith, few, most)
  costs old new kept (Err (refusal_is.NoRoute part)) done =
      let few : meaning.calls (disk_in new) ≤ meaning.calls (disk_in old) + 0 = done.bounded in
      let same : repair_calls (unsure_in new) ≡ repair_calls (unsure_in old) = ap repair_calls done.unsure in
      omega (arith, few, same)
  costs old new kept (Err (refusal_is.Full held limit)) done =
      let few : meaning.calls (disk_in new) ≤ meaning.calls (disk_in old) + 0 = done.bounded in
      let same : repair_calls (unsure_in new) ≡ repair_calls (unsure_in old) = ap repair_calls done.unsure in
      omega (arith, few, same)
  costs old new kept (Err refusal_is.Memory) done =
      let few : meaning.calls (disk_in new) ≤ meaning.calls (disk_in old) + 0 = done.bounded in
      let same : repair_calls (unsure_in new) ≡ repair_calls (unsure_in old) = ap repair_calls done.unsure in
      omega (arith, few, same)
