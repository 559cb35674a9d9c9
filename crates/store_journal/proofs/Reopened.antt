-- What an opening finds on a disk that a journal has left, also behind a stop.
use Rattle.std.proofs.Common.{◌≡◌, inl, inr, ⊎_elim, ℕ, List, [], ◌∷◌, ◌++◌, sym, subst, cond, Option, Some, None, Ok, Err, append_assoc}
use Rattle.std.specs.Bool.{OnTrue}
use Rattle.std.proofs.lemmas.Bool.{OnTrue_at, OnTrue_from}
use Rattle.std.proofs.lemmas.List.{append-nil}
use Rattle.store_disk.specs.Disk.{Areas}
use Rattle.store_disk.specs.Meaning.{Meaning}
use Rattle.store_disk.specs.Story.{IsImage}
use Rattle.store_disk.specs.declared.area.Area.{Area}
use Rattle.store_disk.specs.declared.disk.DiskFailed.{DiskFailed}
use Rattle.store_journal.specs.Area.{born, stands}
use Rattle.store_journal.specs.Journal.{IsJournal, AreFound, HandsOn, HoldsSame, MayHold, Appends, Repairs, OpensAs, area_of, disk_of, is_unsure, reserved}
use Rattle.store_journal.specs.declared.journal.Journal.{Journal}
use Rattle.store_journal.proofs.Kept.{holds}

-- an opening of areas that stand for a store finds its birth and its payloads
opens_born : (areas : Areas) (birth new now : ℕ) (area found : Area) (payloads left : List (List ℕ)) → stands areas ≡ born birth area payloads → OpensAs (stands areas) new now found left → (now ≡ birth) × (left ≡ payloads)
opens_born areas birth new now area found payloads left is opens = let all = subst (λ s. OpensAs s new now found left) is opens in (all.0, all.2)

pub opens_held : (areas : Areas) (birth new now : ℕ) (area found : Area) (payloads left : List (List ℕ)) (unsure : Option (List ℕ)) → MayHold birth area payloads unsure areas → OpensAs (stands areas) new now found left
    → (now ≡ birth) × AreFound payloads unsure left
opens_held areas birth new now area found payloads left None is opens = opens_born areas birth new now area found payloads left is opens
opens_held areas birth new now area found payloads left (Some unsure) is opens = ⊎_elim
    (λ without. let all = opens_born areas birth new now area found payloads left without opens in (all.0, inl all.1))
    (λ with_it. let all = opens_born areas birth new now area found (payloads ++ unsure ∷ []) left with_it opens in (all.0, inr all.1))
    is

module _ {D : Type 0} (meaning : Meaning D) where
  -- an opening of what is left of a journal's disk hands out what it holds
  pub hands_on : (journal : Journal D) (birth : ℕ) (payloads : List (List ℕ)) (unsure : Option (List ℕ)) → IsJournal meaning journal birth payloads unsure
      → OnTrue meaning.tells (HandsOn (meaning.story (disk_of journal)) birth payloads unsure)
  hands_on journal birth payloads unsure is = OnTrue_from meaning.tells _ (λ told image stopped other now found left opens.
      opens_held image birth other now (area_of journal) found payloads left unsure (OnTrue_at told (holds meaning journal birth payloads unsure is) image stopped) opens)

  -- What became of a journal in which nothing was unsure: payloads were handed out or reserved, which keeps what it holds; payloads were
  -- appended, of which these with Ok, in order; and what was unsure was repaired, or still is.
  pub data Becomes : Journal D → Journal D → List (List ℕ) → Option (List ℕ) → Type 0 where
    begins : (journal : Journal D) → Becomes journal journal [] None
    keeps : {old between new : Journal D} {more : List (List ℕ)} {unsure : Option (List ℕ)} → Becomes old between more unsure → HoldsSame meaning between new → Becomes old new more unsure
    appends : {old between new : Journal D} {more : List (List ℕ)} → Becomes old between more None
        → ((birth : ℕ) (payloads : List (List ℕ)) → IsJournal meaning between birth payloads None → Appends {T = Unit {0}} meaning between new (Ok tt) birth payloads) → Becomes old new (more ++ reserved between ∷ []) None
    fails : {old between new : Journal D} {more : List (List ℕ)} (failed : DiskFailed) → Becomes old between more None
        → ((birth : ℕ) (payloads : List (List ℕ)) → IsJournal meaning between birth payloads None → Appends {T = Unit {0}} meaning between new (Err failed) birth payloads)
        → Becomes old new more (cond (is_unsure new) (Some (reserved between)) None)
    repairs : {old between new : Journal D} {more : List (List ℕ)} {unsure : Option (List ℕ)} → Becomes old between more unsure
        → ((birth : ℕ) (payloads : List (List ℕ)) (unsure : Option (List ℕ)) → IsJournal meaning between birth payloads unsure → Repairs {T = Unit {0}} meaning between new (Ok tt) birth payloads unsure) → Becomes old new more None
    still : {old between new : Journal D} {more : List (List ℕ)} {unsure : Option (List ℕ)} (failed : DiskFailed) → Becomes old between more unsure
        → ((birth : ℕ) (payloads : List (List ℕ)) (unsure : Option (List ℕ)) → IsJournal meaning between birth payloads unsure → Repairs {T = Unit {0}} meaning between new (Err failed) birth payloads unsure) → Becomes old new more unsure

  -- so it holds these more
  pub becomes_more : {old new : Journal D} {more : List (List ℕ)} {unsure : Option (List ℕ)} → Becomes old new more unsure → (birth : ℕ) (payloads : List (List ℕ)) → IsJournal meaning old birth payloads None → IsJournal meaning new birth (payloads ++ more) unsure
  becomes_more (begins journal) = λ birth payloads is. subst (λ (l : List (List ℕ)). IsJournal meaning journal birth l None) (sym (append-nil payloads)) is
  becomes_more (keeps before same) = λ birth payloads is. same birth _ _ (becomes_more before birth payloads is)
  becomes_more {new = new} (appends {between = between} {more = more} before appended) = λ birth payloads is.
      subst (λ (l : List (List ℕ)). IsJournal meaning new birth l None) (append_assoc payloads more (reserved between ∷ []))
      (appended birth (payloads ++ more) (becomes_more before birth payloads is)).ok
  becomes_more (fails {more = more} failed before appended) = λ birth payloads is. (appended birth (payloads ++ more) (becomes_more before birth payloads is)).failed
  becomes_more (repairs {more = more} {unsure = unsure} before repaired) = λ birth payloads is. (repaired birth (payloads ++ more) unsure (becomes_more before birth payloads is)).ok
  becomes_more (still {more = more} {unsure = unsure} failed before repaired) = λ birth payloads is. (repaired birth (payloads ++ more) unsure (becomes_more before birth payloads is)).failed

  -- Whatever a stop leaves of its disk, an opening of that hands out exactly the payloads that the journal held at first and those that were
  -- appended to it with Ok, in order, under the birth that it had; where one is unsure, maybe that one more, last.
  pub reopened : {old new : Journal D} {more : List (List ℕ)} {unsure : Option (List ℕ)} → Becomes old new more unsure → (birth : ℕ) (payloads : List (List ℕ)) → IsJournal meaning old birth payloads None
      → (image : Areas) → OnTrue meaning.tells (IsImage (meaning.story (disk_of new)) image) → (other now : ℕ) (found : Area) (left : List (List ℕ)) → OnTrue meaning.tells (OpensAs (stands image) other now found left)
      → OnTrue meaning.tells ((now ≡ birth) × AreFound (payloads ++ more) unsure left)
  reopened {new = new} {more = more} {unsure = unsure} became birth payloads is image stopped other now found left opens = OnTrue_from meaning.tells _ (λ told.
      OnTrue_at told (hands_on new birth (payloads ++ more) unsure (becomes_more became birth payloads is)) image (OnTrue_at told stopped) other now found left (OnTrue_at told opens))
