-- How a disk goes on, and what each stop on the way leaves.
use Rattle.std.proofs.Common.{◌≡◌, inl, inr, ⊎_elim, ◌⊎◌, ℕ, ◌+◌, ◌-◌, ◌≤◌, List, [], ◌∷◌, ◌++◌, length, drop, refl, sym, ◌∙◌, ap, subst, arith, append_assoc, length-append}
use Rattle.std.proofs.Math.Seq.{drop-append-add}
use Rattle.std.proofs.lemmas.Bool.{cases_lt}
use Rattle.std.specs.Prelude.{Result, Ok, Err}
use Rattle.store_disk.specs.Disk.{Areas}
use Rattle.store_disk.specs.Story.{Act, Story, tell, synced, moment_of, up_to, IsImage, IsImageSince, LeavesOnly, Writes, Cuts, Syncs}
use Rattle.store_disk.specs.declared.area.Area.{Area}
use Rattle.store_disk.specs.declared.disk.DiskFailed.{DiskFailed}
use Rattle.store_disk.proofs.Pasts.{synced_old}

-- a story that goes on from another
abbrev pub after : Story → List Act → Story
after story acts = record { start = story.start; acts = acts ++ story.acts }

-- the moment that a story has reached is the story
pub up_to_now : (story : Story) (moment : ℕ) → moment_of story ≤ moment → up_to moment story ≡ story
up_to_now story moment le =
    let none : length story.acts - moment ≡ 0 = omega (arith, le) in
    ap (λ n. record { start = story.start; acts = drop n story.acts }) none

-- what it was then doesn't change as it goes on
pub up_to_before : (story : Story) (acts : List Act) (moment : ℕ) → moment ≤ moment_of story → up_to moment (after story acts) ≡ up_to moment story
up_to_before story acts moment le =
    let left : length (acts ++ story.acts) - moment ≡ length acts + (length story.acts - moment) = omega (arith, le, length-append acts story.acts) in
    ap (λ n. record { start = story.start; acts = drop n (acts ++ story.acts) }) left
    ∙ ap (λ acts. record { start = story.start; acts = acts }) (drop-append-add acts story.acts (length story.acts - moment))

-- a stop since a moment is one before a story or since it
stopped_when : (mid : Story) (acts : List Act) (since : ℕ) (image : Areas) → IsImageSince since (after mid acts) image
    → IsImageSince since mid image ⊎ IsImageSince (moment_of mid) (after mid acts) image
stopped_when mid acts since image is =
    ⊎_elim
    (λ earlier. inl (record {
      moment = is.moment;
      later = is.later;
      reached = omega (arith, earlier);
      image_then = subst (λ story. IsImage story image) (up_to_before mid acts is.moment (omega (arith, earlier))) is.image_then;
    }))
    (λ later. inr (record { moment = is.moment; later = later; reached = is.reached; image_then = is.image_then }))
    (cases_lt is.moment (moment_of mid))

-- before the first call
pub leaves_first : (story : Story) (P : Areas → Type 0) → ((image : Areas) → IsImage story image → P image) → LeavesOnly story story P
leaves_first story P now = record {
  acts = [];
  goes_on = refl;
  each = λ image is. now image (subst (λ s. IsImage s image) (up_to_now story is.moment is.later) is.image_then);
}

-- two in a row
pub leaves_both : (old mid new : Story) (P : Areas → Type 0) → LeavesOnly old mid P → LeavesOnly mid new P → LeavesOnly old new P
leaves_both old mid new P first second =
    let whole : new ≡ after old (second.acts ++ first.acts) =
    second.goes_on ∙ ap (λ s. after s second.acts) first.goes_on ∙ ap (λ acts. record { start = old.start; acts = acts }) (sym (append_assoc second.acts first.acts old.acts)) in
    record {
      acts = second.acts ++ first.acts;
      goes_on = whole;
      each = λ image is. ⊎_elim (first.each image) (λ later. second.each image (subst (λ s. IsImageSince (moment_of mid) s image) (sym second.goes_on) later))
          (stopped_when mid second.acts (moment_of old) image (subst (λ s. IsImageSince (moment_of old) s image) second.goes_on is));
    }

-- a stop now
pub leaves_now : (old new : Story) (P : Areas → Type 0) → LeavesOnly old new P → (image : Areas) → IsImage new image → P image
leaves_now old new P leaves image is = leaves.each image (record {
  moment = moment_of new;
  later = omega (arith, ap moment_of leaves.goes_on, length-append leaves.acts old.acts);
  reached = omega arith;
  image_then = subst (λ s. IsImage s image) (sym (up_to_now new (moment_of new) (omega arith))) is;
})

-- a stop at the start
pub leaves_then : (old new : Story) (P : Areas → Type 0) → LeavesOnly old new P → (image : Areas) → IsImage old image → P image
leaves_then old new P leaves image is = leaves.each image (record {
  moment = moment_of old;
  later = omega arith;
  reached = omega (arith, ap moment_of leaves.goes_on, length-append leaves.acts old.acts);
  image_then = subst (λ s. IsImage s image)
      (sym (ap (up_to (moment_of old)) leaves.goes_on ∙ up_to_before old leaves.acts (moment_of old) (omega arith) ∙ up_to_now old (moment_of old) (omega arith))) is;
})

-- one act more
pub leaves_more : (old mid new : Story) (act : Act) (P : Areas → Type 0) → LeavesOnly old mid P → new ≡ tell act mid → ((image : Areas) → IsImage new image → P image) → LeavesOnly old new P
leaves_more old mid new act P so_far told now =
    let last : LeavesOnly mid new P = record {
      acts = act ∷ [];
      goes_on = told;
      each = λ image is. ⊎_elim
          (λ earlier. leaves_now old mid P so_far image (subst (λ s. IsImage s image)
          (ap (up_to is.moment) told ∙ up_to_before mid (act ∷ []) is.moment (omega (arith, earlier)) ∙ up_to_now mid is.moment is.later) is.image_then))
          (λ later. now image (subst (λ s. IsImage s image) (up_to_now new is.moment (omega (arith, later, ap moment_of told))) is.image_then))
          (cases_lt is.moment (moment_of mid + 1));
    } in
    leaves_both old mid new P so_far last

-- a call that told nothing
pub leaves_same : (old mid new : Story) (P : Areas → Type 0) → LeavesOnly old mid P → new ≡ mid → LeavesOnly old new P
leaves_same old mid new P so_far same = subst (λ s. LeavesOnly old s P) (sym same) so_far

-- a write more, good or failed
pub leaves_write : {T : Type 0} (old mid new : Story) (area : Area) (at : ℕ) (bytes : List ℕ) (result : Result T DiskFailed) (P : Areas → Type 0) → LeavesOnly old mid P
    → Writes area at bytes result mid new → ((image : Areas) → IsImage new image → P image) → LeavesOnly old new P
leaves_write old mid new area at bytes (Ok done) P so_far writes now = leaves_more old mid new _ P so_far writes now
leaves_write old mid new area at bytes (Err failed) P so_far (inl same) now = leaves_same old mid new P so_far same
leaves_write old mid new area at bytes (Err failed) P so_far (inr torn) now = leaves_more old mid new _ P so_far torn.1 now

-- a cut more, good or failed
pub leaves_cut : {T : Type 0} (old mid new : Story) (area : Area) (size : ℕ) (result : Result T DiskFailed) (P : Areas → Type 0) → LeavesOnly old mid P
    → Cuts area size result mid new → ((image : Areas) → IsImage new image → P image) → LeavesOnly old new P
leaves_cut old mid new area size (Ok done) P so_far cuts now = leaves_more old mid new _ P so_far cuts now
leaves_cut old mid new area size (Err failed) P so_far (inl same) now = leaves_same old mid new P so_far same
leaves_cut old mid new area size (Err failed) P so_far (inr short) now = leaves_more old mid new _ P so_far short.1 now

-- a sync more, good or failed: it makes no new image
pub leaves_sync : {T : Type 0} (old mid new : Story) (area : Area) (result : Result T DiskFailed) (P : Areas → Type 0) → LeavesOnly old mid P → Syncs area result mid new → LeavesOnly old new P
leaves_sync old mid new area (Ok done) P so_far syncs =
    leaves_more old mid new (synced area) P so_far syncs (λ image is. leaves_now old mid P so_far image (synced_old mid area image (subst (λ s. IsImage s image) syncs is)))
leaves_sync old mid new area (Err failed) P so_far syncs = leaves_same old mid new P so_far syncs

-- what is less
pub leaves_weaker : (old new : Story) (P Q : Areas → Type 0) → ((image : Areas) → P image → Q image) → LeavesOnly old new P → LeavesOnly old new Q
leaves_weaker old new P Q weaker leaves = record { acts = leaves.acts; goes_on = leaves.goes_on; each = λ image since. weaker image (leaves.each image since) }
