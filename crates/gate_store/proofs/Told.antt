-- Facts that hold where a disk tells its story.
use Rattle.std.proofs.Common.{Bool, true, false}
use Rattle.std.specs.Bool.{OnTrue}
use Rattle.store_disk.specs.Disk.{Areas}
use Rattle.store_disk.specs.Story.{Story, IsImage, LeavesOnly}
use Rattle.store_disk.proofs.Leaving.{leaves_first, leaves_weaker, leaves_both}

-- a weaker fact, where something is told
pub told_weaker : (tells : Bool) (P Q : Type 0) → (P → Q) → OnTrue tells P → OnTrue tells Q
told_weaker true P Q f p = f p
told_weaker false P Q f p = tt

-- a fact that follows from two, where something is told
pub told_both : (tells : Bool) (P Q R : Type 0) → (P → Q → R) → OnTrue tells P → OnTrue tells Q → OnTrue tells R
told_both true P Q R f p q = f p q
told_both false P Q R f p q = tt

-- a fact that holds anyhow
pub told_anyhow : (tells : Bool) (P : Type 0) → P → OnTrue tells P
told_anyhow true P p = p
told_anyhow false P p = tt

module _ (tells : Bool) where
  -- no call was made
  pub told_leaves_none : (story : Story) (P : Areas → Type 0) → OnTrue tells ((image : Areas) → IsImage story image → P image) → OnTrue tells (LeavesOnly story story P)
  told_leaves_none story P now = told_weaker tells _ _ (leaves_first story P) now

  -- a stop leaves what is more than was asked
  pub told_leaves_weaker : (old new : Story) (P Q : Areas → Type 0) → ((image : Areas) → P image → Q image) → OnTrue tells (LeavesOnly old new P) → OnTrue tells (LeavesOnly old new Q)
  told_leaves_weaker old new P Q weaker leaves = told_weaker tells _ _ (leaves_weaker old new P Q weaker) leaves

  -- two steps in a row
  pub told_leaves_both : (old mid new : Story) (P : Areas → Type 0) → OnTrue tells (LeavesOnly old mid P) → OnTrue tells (LeavesOnly mid new P) → OnTrue tells (LeavesOnly old new P)
  told_leaves_both old mid new P first second = told_both tells _ _ _ (leaves_both old mid new P) first second
