-- What a disk stood for, and what a store that was opened on it holds.
use Rattle.std.proofs.Common.{◌≡◌, ◌≤◌, ◌+◌, inl, inr, ℕ, List, [], ◌∷◌, ◌++◌, refl, ap, sym, ◌∙◌, subst, arith}
use Rattle.std.specs.Bool.{OnTrue}
use Rattle.kn_base.specs.Count.{Rose}
use Rattle.gate_entries.specs.declared.recorded.Recorded.{Recorded}
use Rattle.gate_model.specs.State.{State}
use Rattle.route_rules.specs.declared.rules.Rules.{Rules}
use Rattle.store_disk.specs.Disk.{Areas}
use Rattle.store_disk.specs.Meaning.{Meaning}
use Rattle.store_disk.specs.Story.{Story, reads}
use Rattle.store_disk.specs.declared.area.Area.{Area}
use Rattle.store_disk.proofs.Leaving.{leaves_weaker}
use Rattle.store_journal.specs.Area.{Standing, unborn, born, foreign, stands}
use Rattle.store_journal.specs.Journal.{IsCause, IsLike, IsUnlessDisk, IsUntouched, OpensAs, OpensOver, disk_of, area_of, birth_of, left}
use Rattle.store_journal.specs.declared.fault.OpenFault.{OpenFault}
use Rattle.store_journal.specs.declared.fault.OpenFault.TheVariants as journal_is
use Rattle.store_journal.specs.declared.journal.Journal.{Journal}
use Rattle.gate_store.specs.Entries.{payloads, state_of, StandsFor, StopsAt, IsForeign}
use Rattle.gate_store.specs.Reopening.{Reopens, ReopensAlike}
use Rattle.gate_store.specs.Store.{IsStore, IsOpened, IsUnopened, GivesBack, disk_in}
use Rattle.gate_store.specs.StoreFault.{same_fault}
use Rattle.gate_store.specs.StoreSteps.{Loads, LoadsNone}
use Rattle.gate_store.specs.declared.store.Store.{Store}
use Rattle.gate_store.specs.declared.store_fault.StoreFault.{StoreFault}
use Rattle.gate_store.specs.declared.store_fault.StoreFault.TheVariants.{Foreign, Disk, Memory}
use Rattle.gate_store.proofs.Told.{told_weaker}

-- ---- what areas stand for

no_entries : (entries : List Recorded) → [] ≡ payloads entries → entries ≡ []
no_entries [] e = refl
no_entries (kept ∷ entries) e = absurd cc

-- an opening that found these entries found the store of that birth with them
pub stands_for : (standing : Standing) (birth now : ℕ) (area : Area) (there : List (List ℕ)) (entries : List Recorded)
    → there ≡ payloads entries → OpensAs standing birth now area there → StandsFor standing now entries
stands_for unborn birth now area there entries same opens = no_entries entries (sym opens.2 ∙ same)
stands_for (born old stood_in stood) birth now area there entries same opens = (sym opens.0, sym opens.2 ∙ same)
stands_for (foreign stood_in at) birth now area there entries same opens = absurd opens

-- a store that wasn't born before is born with the birth that was handed in
pub born_with : (standing : Standing) (birth now : ℕ) (area : Area) (there : List (List ℕ)) → OpensAs standing birth now area there
    → standing ≡ unborn → now ≡ birth
born_with unborn birth now area there opens is = opens.0
born_with (born old stood_in stood) birth now area there opens is = absurd cc
born_with (foreign stood_in at) birth now area there opens is = absurd cc

none_stops : (birth : ℕ) (rules : Rules) (at : ℕ) (there : List (List ℕ)) → there ≡ [] → StopsAt birth rules there at → ⊥
none_stops birth rules at there none stops = none_split stops.entries (sym none ∙ stops.split)
  where
    none_split : (entries : List Recorded) → [] ≡ payloads entries ++ stops.payload ∷ stops.rest → ⊥
    none_split [] e = absurd cc
    none_split (kept ∷ entries) e = absurd cc

-- an opening that found a payload that is no entry which may come next found no store
pub stands_foreign : (rules : Rules) (standing : Standing) (birth now : ℕ) (found area : Area) (there : List (List ℕ)) (at : ℕ)
    → area ≡ found → StopsAt now rules there at → OpensAs standing birth now found there → IsForeign rules standing area at
stands_foreign rules unborn birth now found area there at is stops opens = none_stops now rules at there opens.2 stops
stands_foreign rules (born old stood_in stood) birth now found area there at is stops opens = (is ∙ opens.1, subst (λ b. StopsAt b rules stood at) opens.0 (subst (λ x. StopsAt now rules x at) opens.2 stops))
stands_foreign rules (foreign stood_in at_there) birth now found area there at is stops opens = absurd opens

-- ---- what a stop in an opening leaves

-- areas that stand for what others stood for reopen to what these reopen to
like_reopens : (rules : Rules) (birth : ℕ) (before image : Areas) → IsLike birth (stands before) (stands image) → (state : State) → Reopens rules before state → Reopens rules image state
like_reopens rules birth before image (inl same) state r = record {
  birth = r.birth;
  entries = r.entries;
  stood = subst (λ s. StandsFor s r.birth r.entries) (sym same) r.stood;
  in_turn = r.in_turn;
  makes = r.makes;
}
like_reopens rules birth before image (inr new) state r =
    let none : r.entries ≡ [] = subst (λ s. StandsFor s r.birth r.entries) new.0 r.stood in
    record {
      birth = birth;
      entries = [];
      stood = subst (λ s. StandsFor s birth []) (sym new.2) (refl, refl);
      in_turn = tt;
      makes = r.makes ∙ ap (state_of r.birth rules) none;
    }

pub opens_alike : (rules : Rules) (birth : ℕ) (old new : Story) → OpensOver birth old new → ReopensAlike rules old new
opens_alike rules birth old new opens = leaves_weaker old new _ _ (λ image x. (x.0, x.1, like_reopens rules birth x.0 image x.2)) opens

module _ {D : Type 0} (meaning : Meaning D) (disk : D) (rules : Rules) (birth : ℕ) (journal : Journal D) where
  module _ (stood : OnTrue meaning.tells (OpensAs (stands (reads (meaning.story disk))) birth (birth_of journal) (area_of journal) (left journal)))
      (stops : OnTrue meaning.tells (OpensOver birth (meaning.story disk) (meaning.story (disk_of journal)))) (unfailed : meaning.faults (disk_of journal) ≡ meaning.faults disk)
      (bounded : meaning.calls (disk_of journal) ≤ meaning.calls disk + 13) where
    -- a journal that was opened, whose entries were loaded, is an opened store
    pub opened_by : (store : Store D) → Loads meaning rules journal store → IsOpened meaning disk rules birth store
    opened_by store loads = record {
      entries = loads.entries;
      holds = subst (λ b. IsStore meaning store b loads.entries) (sym loads.born) loads.holds;
      stood = told_weaker meaning.tells _ _
          (λ opens. subst (λ b. StandsFor (stands (reads (meaning.story disk))) b loads.entries) (sym loads.born)
          (stands_for (stands (reads (meaning.story disk))) birth (birth_of journal) (area_of journal) (left journal) loads.entries loads.handed opens)) stood;
      born = told_weaker meaning.tells _ _
          (λ opens is. loads.born ∙ born_with (stands (reads (meaning.story disk))) birth (birth_of journal) (area_of journal) (left journal) opens is) stood;
      ruled = loads.ruled;
      state = loads.state ∙ ap (λ b. state_of b rules loads.entries) (sym loads.born);
      sure = loads.sure;
      stops = subst (λ (d : D). OnTrue meaning.tells (ReopensAlike rules (meaning.story disk) (meaning.story d))) (sym loads.disk)
          (told_weaker meaning.tells _ _ (opens_alike rules birth (meaning.story disk) (meaning.story (disk_of journal))) stops);
      unfailed = ap meaning.faults loads.disk ∙ unfailed;
      bounded = let same : meaning.calls (disk_in store) ≡ meaning.calls (disk_of journal) = ap meaning.calls loads.disk in omega (arith, bounded, same);
    }

    -- why what was left of a journal wasn't loaded
    unloaded_by : (back : D) (fault : StoreFault) → LoadsNone meaning rules journal back fault → IsUnopened meaning disk rules back fault
    unloaded_by back (Foreign area at) none = (
      ap meaning.faults none.same ∙ unfailed,
      told_weaker meaning.tells _ _
          (stands_foreign rules (stands (reads (meaning.story disk))) birth (birth_of journal) (area_of journal) area (left journal) at none.cause.0 none.cause.1) stood,
    )
    unloaded_by back Disk none = absurd none.cause
    unloaded_by back Memory none = ap meaning.faults none.same ∙ unfailed

    -- a journal that was opened, whose entries weren't loaded, is no opened store
    pub given_back : OnTrue meaning.tells (IsUntouched (reads (meaning.story disk)) (reads (meaning.story (disk_of journal)))) → (back : D) (fault : StoreFault)
        → LoadsNone meaning rules journal back fault → GivesBack meaning disk rules back fault
    given_back untouched back fault none = record {
      cause = unloaded_by back fault none;
      untouched = subst (λ (d : D). OnTrue meaning.tells (IsUntouched (reads (meaning.story disk)) (reads (meaning.story d)))) (sym none.same) untouched;
      stops = subst (λ (d : D). OnTrue meaning.tells (ReopensAlike rules (meaning.story disk) (meaning.story d))) (sym none.same)
          (told_weaker meaning.tells _ _ (opens_alike rules birth (meaning.story disk) (meaning.story (disk_of journal))) stops);
      kept = let same : meaning.faults back ≡ meaning.faults disk = ap meaning.faults none.same ∙ unfailed in omega arith;
      bounded = let same : meaning.calls back ≡ meaning.calls (disk_of journal) = ap meaning.calls none.same in omega (arith, bounded, same);
    }

module _ {D : Type 0} (meaning : Meaning D) (disk : D) (rules : Rules) (birth : ℕ) (back : D) where
  -- why no journal was opened
  unopened_by : (fault : OpenFault) → OnTrue meaning.tells (IsCause (reads (meaning.story disk)) fault) → IsUnlessDisk fault (meaning.faults back ≡ meaning.faults disk)
      → (fault ≡ journal_is.Disk → Rose (meaning.faults disk) (meaning.faults back)) → IsUnopened meaning disk rules back (same_fault fault)
  unopened_by (journal_is.Foreign area at) cause spared failed =
      (spared, told_weaker meaning.tells _ _ (λ is. subst (λ s. IsForeign rules s area at) (sym is) (refl, refl)) cause)
  unopened_by journal_is.Disk cause spared failed = failed refl
  unopened_by journal_is.Memory cause spared failed = spared

  -- no journal was opened
  pub unopened : (fault : OpenFault) (told : StoreFault) → told ≡ same_fault fault → OnTrue meaning.tells (IsCause (reads (meaning.story disk)) fault)
      → IsUnlessDisk fault (meaning.faults back ≡ meaning.faults disk) → (fault ≡ journal_is.Disk → Rose (meaning.faults disk) (meaning.faults back)) → meaning.faults disk ≤ meaning.faults back
      → OnTrue meaning.tells (IsUntouched (reads (meaning.story disk)) (reads (meaning.story back))) → OnTrue meaning.tells (OpensOver birth (meaning.story disk) (meaning.story back))
      → meaning.calls back ≤ meaning.calls disk + 13 → GivesBack meaning disk rules back told
  unopened fault told is cause spared failed kept untouched stops bounded = record {
    cause = subst (λ f. IsUnopened meaning disk rules back f) (sym is) (unopened_by fault cause spared failed);
    untouched = untouched;
    stops = told_weaker meaning.tells _ _ (opens_alike rules birth (meaning.story disk) (meaning.story back)) stops;
    kept = kept;
    bounded = omega (arith, bounded);
  }
