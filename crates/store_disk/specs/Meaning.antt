-- What a disk means: what its type tells, and what became of each disk.
use Rattle.std.specs.Prelude.{ℕ, Bool, Result}
use Rattle.store_disk.specs.Disk.{CountsCall}
use Rattle.store_disk.specs.Story.{Story}
use Rattle.store_disk.specs.declared.disk.DiskFailed.{DiskFailed}

-- What the disks of a type mean.
pub record Meaning (D : Type 0) : Type 0 where
  -- they tell their story; disks of real files don't
  pub tells : Bool
  -- What was done to the areas. What they read as, and what a stop may leave of them, follows from it. It means something only where it is
  -- told.
  pub story : D → Story
  -- how often a disk has failed
  pub faults : D → ℕ
  -- how many calls were made
  pub calls : D → ℕ

-- one call of a disk is counted, and where it failed, so is its fault
abbrev pub Counts : {D T : Type 0} → Meaning D → (old new : D) → Result T DiskFailed → Type 0
Counts meaning old new result = CountsCall (meaning.calls old) (meaning.calls new) (meaning.faults old) (meaning.faults new) result
