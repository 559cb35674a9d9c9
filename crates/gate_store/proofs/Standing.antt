-- What a stop leaves of a store at rest stands for what it holds.
use Rattle.std.proofs.Common.{◌≡◌, ⊎_elim, inl, inr, ℕ, List, [], ◌∷◌, ◌++◌, Option, Some, None, refl, sym, subst}
use Rattle.std.specs.Prelude.{option_map}
use Rattle.std.specs.Bool.{OnTrue}
use Rattle.gate_entries.specs.declared.recorded.Recorded.{Recorded}
use Rattle.gate_entries.specs.Entry.{entry_octets}
use Rattle.store_disk.specs.Disk.{Areas}
use Rattle.store_disk.specs.Meaning.{Meaning}
use Rattle.store_disk.specs.Story.{IsImage}
use Rattle.store_disk.specs.declared.area.Area.{Area}
use Rattle.store_journal.specs.Area.{born, stands}
use Rattle.store_journal.specs.Journal.{MayHold, area_of}
use Rattle.store_journal.proofs.Kept.{holds}
use Rattle.gate_store.specs.Entries.{payloads, StandsFor}
use Rattle.gate_store.specs.Reopening.{MayStandFor}
use Rattle.gate_store.specs.Store.{IsStore, disk_in, unsure_in}
use Rattle.gate_store.specs.declared.store.Store.{Store}
use Rattle.gate_store.proofs.Told.{told_weaker}
use Rattle.gate_store.proofs.Turns.{payloads_more}

-- areas that hold the payloads of entries stand for these
stands_for_held : (birth : ℕ) (area : Area) (entries : List Recorded) (areas : Areas) → stands areas ≡ born birth area (payloads entries) → StandsFor (stands areas) birth entries
stands_for_held birth area entries areas held = subst (λ s. StandsFor s birth entries) (sym held) (refl, refl)

may_stand_for : (birth : ℕ) (area : Area) (entries : List Recorded) (unsure : Option Recorded) (areas : Areas)
    → MayHold birth area (payloads entries) (option_map entry_octets unsure) areas → MayStandFor birth entries unsure areas
may_stand_for birth area entries None areas held = stands_for_held birth area entries areas held
may_stand_for birth area entries (Some kept) areas held = ⊎_elim
    (λ without. inl (stands_for_held birth area entries areas without))
    (λ with_it. inr (stands_for_held birth area (entries ++ kept ∷ []) areas
    (subst (λ there. stands areas ≡ born birth area there) (sym (payloads_more entries kept)) with_it))) held

module _ {D : Type 0} (meaning : Meaning D) where
  -- whatever a stop now leaves of a store stands for its entries, or for these and the unsure one
  pub stands_now : (store : Store D) (birth : ℕ) (entries : List Recorded) → IsStore meaning store birth entries
      → OnTrue meaning.tells ((image : Areas) → IsImage (meaning.story (disk_in store)) image → MayStandFor birth entries (unsure_in store) image)
  stands_now store birth entries is =
      told_weaker meaning.tells _ _ (λ held image now. may_stand_for birth (area_of store.journal) entries (unsure_in store) image (held image now))
      (holds meaning store.journal birth (payloads entries) _ is.journal)
