-- Looking a disk up by its name, from the front of a list.
use Rattle.std.proofs.Common.{◌≡◌, ℕ, suc, ◌+◌, ◌<◌, true, false, cond, nat_eq, List, ◌∷◌, length, get_or, drop, Some, ap, drop-cons, add-one}
use Rattle.std.specs.Cmp.Lexicographic.{pointwise}
use Rattle.store_disk.specs.declared.mem_disk.MemDisk.{MemDisk}
use Rattle.boxes_main.specs.Disks.{disk_under, without}

module _ (name : List ℕ) (disks : List (List ℕ × MemDisk)) (at : ℕ) (d : List ℕ × MemDisk) where
  -- the disk in front has the name
  pub disk_under-here : at < length disks → pointwise nat_eq name (get_or disks at d).0 ≡ true → disk_under name (drop at disks) ≡ Some (get_or disks at d).1
  disk_under-here within same =
      rw (drop-cons disks at d) (ap (λ b. cond b (Some (get_or disks at d).1) (disk_under name (drop (suc at) disks))) same)

  -- the disk in front has another name
  pub disk_under-past : at < length disks → pointwise nat_eq name (get_or disks at d).0 ≡ false → disk_under name (drop at disks) ≡ disk_under name (drop (at + 1) disks)
  disk_under-past within other =
      rw (add-one, drop-cons disks at d) (ap (λ b. cond b (Some (get_or disks at d).1) (disk_under name (drop (suc at) disks))) other)

  -- the same of the others
  pub without-here : at < length disks → pointwise nat_eq name (get_or disks at d).0 ≡ true → without name (drop at disks) ≡ drop (at + 1) disks
  without-here within same =
      rw (add-one, drop-cons disks at d) (ap (λ b. cond b (drop (suc at) disks) (get_or disks at d ∷ without name (drop (suc at) disks))) same)

  pub without-past : at < length disks → pointwise nat_eq name (get_or disks at d).0 ≡ false → without name (drop at disks) ≡ get_or disks at d ∷ without name (drop (at + 1) disks)
  without-past within other =
      rw (add-one, drop-cons disks at d) (ap (λ b. cond b (drop (suc at) disks) (get_or disks at d ∷ without name (drop (suc at) disks))) other)
