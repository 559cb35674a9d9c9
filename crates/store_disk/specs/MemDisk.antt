-- What a disk in memory holds and has counted, and the story that its log tells.
use Rattle.std.specs.Prelude.{◌⊎◌, ℕ, true, List, [], ◌∷◌, ◌++◌, ◌+◌, take, drop, reverse}
use Rattle.kn_base.specs.Calls.{Calls, IsFailing}
use Rattle.kn_base.specs.Count.{Rose}
use Rattle.store_disk.specs.Disk.{Areas, octets_of, with_octets}
use Rattle.store_disk.specs.Meaning.{Meaning}
use Rattle.store_disk.specs.Story.{Act, Story, wrote, cut, synced, tell, untold}
use Rattle.store_disk.specs.declared.area.Area.{Area}
use Rattle.store_disk.specs.declared.entry.Deed.{Deed}
use Rattle.store_disk.specs.declared.entry.Deed.TheVariants.{Wrote, Cut, Synced}
use Rattle.store_disk.specs.declared.entry.Entry.{Entry}
use Rattle.store_disk.specs.declared.mem_disk.MemDisk.{MemDisk}

-- what the areas hold
abbrev pub mem_areas : MemDisk → Areas
mem_areas disk = record { a = disk.a.items; b = disk.b.items; pick = disk.pick.items }

-- what was done to them, the last entry first
abbrev pub mem_log : MemDisk → List Entry
mem_log disk = reverse disk.log.items

-- its calls, and which of them are to fail
abbrev pub mem_calls : MemDisk → Calls
mem_calls disk = disk.calls

-- how many of them failed
abbrev pub mem_faults : MemDisk → ℕ
mem_faults disk = disk.faults

-- how many of them found no memory
abbrev pub mem_starved : MemDisk → ℕ
mem_starved disk = disk.starved

-- a call failed because it was to fail, or found no memory
abbrev pub HasCause : (old new : MemDisk) → Type 0
HasCause old new = IsFailing (mem_calls old) ⊎ Rose (mem_starved old) (mem_starved new)

-- the octets of an area before a deed, from those behind it
abbrev pub octets_before : Deed → List ℕ → List ℕ
octets_before (Wrote at count was) octets = take at octets ++ was ++ drop (at + count) octets
octets_before (Cut size was) octets = octets ++ was
octets_before Synced octets = octets

-- the areas before an entry, from those behind it
abbrev pub areas_before : Entry → Areas → Areas
areas_before entry areas = with_octets areas entry.area (octets_before entry.deed (octets_of areas entry.area))

-- the act that a deed was, behind which its area holds these octets
abbrev pub act_of : Area → Deed → List ℕ → Act
act_of area (Wrote at count was) octets = wrote area at count octets
act_of area (Cut size was) octets = cut area size octets
act_of area Synced octets = synced area

-- the story that a log tells of areas that hold this behind it
abbrev pub told : List Entry → Areas → Story
told [] areas = untold areas
told (entry ∷ log) areas = tell (act_of entry.area entry.deed (octets_of areas entry.area)) (told log (areas_before entry areas))

-- the story of a disk
abbrev pub mem_story : MemDisk → Story
mem_story disk = told (mem_log disk) (mem_areas disk)

-- what it means
abbrev pub mem_meaning : Meaning MemDisk
mem_meaning = record { tells = true; story = mem_story; faults = mem_faults; calls = λ disk. (mem_calls disk).made }

-- the entry of a write over areas as they are before it, and of a cut that leaves so many octets
abbrev pub write_entry : ℕ → Area → ℕ → ℕ → Areas → Entry
write_entry call area at count areas = record { call = call; area = area; deed = Wrote at count (take count (drop at (octets_of areas area))) }

abbrev pub cut_entry : ℕ → Area → ℕ → ℕ → Areas → Entry
cut_entry call area size left areas = record { call = call; area = area; deed = Cut size (drop left (octets_of areas area)) }
