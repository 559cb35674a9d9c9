-- Disks in memory by their names.
use Rattle.std.specs.Prelude.{ℕ, List, [], ◌∷◌, Option, Some, None, nat_eq, if◌then◌else◌}
use Rattle.std.specs.Cmp.Lexicographic.{pointwise}
use Rattle.store_disk.specs.Disk.{Areas, no_areas}
use Rattle.store_disk.specs.MemDisk.{mem_areas, mem_calls}
use Rattle.store_disk.specs.declared.mem_disk.MemDisk.{MemDisk}

-- the first disk under a name
abbrev pub disk_under : List ℕ → List (List ℕ × MemDisk) → Option MemDisk
disk_under name [] = None
disk_under name (disk ∷ disks) = if pointwise nat_eq name disk.0 then Some disk.1 else disk_under name disks

-- all disks but the first under a name
abbrev pub without : List ℕ → List (List ℕ × MemDisk) → List (List ℕ × MemDisk)
without name [] = []
without name (disk ∷ disks) = if pointwise nat_eq name disk.0 then disks else disk ∷ without name disks

-- what a disk reads as, and no octets where there is none
abbrev pub areas_in : Option MemDisk → Areas
areas_in None = no_areas
areas_in (Some disk) = mem_areas disk

-- the numbers of a disk's calls that are to fail, and none where there is none
abbrev pub failing_in : Option MemDisk → List ℕ
failing_in None = []
failing_in (Some disk) = (mem_calls disk).failing
