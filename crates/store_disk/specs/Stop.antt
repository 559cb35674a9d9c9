-- What a stop leaves of the areas of a disk in memory, by what is chosen for what is in doubt.
use Rattle.std.specs.Prelude.{◌≡◌, ◌⊎◌, ◌≤◌, ◌<◌, ℕ, ◌+◌, Bool, true, false, ◌&&◌, ◌||◌, nat_lt, nat_le, ◌==◌, List, [], ◌∷◌, length, map, get_or, if◌then◌else◌}
use Rattle.std.specs.List.{AllByRecursion, range_with_len}
use Rattle.kn_base.specs.Count.{last_count, next_count}
use Rattle.store_disk.specs.Disk.{same_area}
use Rattle.store_disk.specs.MemDisk.{mem_calls, mem_log, octets_before}
use Rattle.store_disk.specs.Story.{Past}
use Rattle.store_disk.specs.declared.area.Area.{Area}
use Rattle.store_disk.specs.declared.entry.Deed.{Deed}
use Rattle.store_disk.specs.declared.entry.Deed.TheVariants.{Wrote, Cut, Synced}
use Rattle.store_disk.specs.declared.entry.Entry.{Entry}
use Rattle.store_disk.specs.declared.mem_disk.MemDisk.{MemDisk}

-- ---- one area

-- a place lies in one of these ranges
abbrev pub is_among : List (ℕ × ℕ) → ℕ → Bool
is_among [] place = false
is_among (range ∷ ranges) place = (nat_le range.0 place && nat_lt place (range.0 + range.1)) || is_among ranges place

-- one octet at each place in doubt: in these ranges, and behind what was settled. Elsewhere that stands.
abbrev pub octet_left : List ℕ → List (ℕ × ℕ) → ℕ → ℕ → ℕ
octet_left settled ranges octet place = if nat_le (length settled) place || is_among ranges place then octet else get_or settled place 0

-- What is left of an area: by 0 what was settled, by 1 what it reads as, and by any other octet that one at each place in doubt, in
-- the length that it reads as.
abbrev pub octets_left : List ℕ → List (ℕ × ℕ) → List ℕ → ℕ → List ℕ
octets_left settled ranges octets choice =
    if choice == 0 then settled
    else if choice == 1 then octets
    else map (octet_left settled ranges choice) (range_with_len 0 (length octets))

abbrev pub stopped_octets : Past → ℕ → List ℕ
stopped_octets past choice = octets_left past.settled past.ranges past.octets choice

-- ---- the log, its last entry first

-- a deed is a good sync
abbrev pub is_synced : Deed → Bool
is_synced (Wrote at count was) = false
is_synced (Cut size was) = false
is_synced Synced = true

-- a stop in the call of a number comes before an entry: it is of a later call, or of that call and a sync, which has put nothing in place yet
abbrev pub is_later : ℕ → Entry → Bool
is_later call entry = nat_lt call entry.call || (is_synced entry.deed && entry.call == call)

-- how many entries stand before a stop in the call of a number
abbrev pub moment_at : ℕ → List Entry → ℕ
moment_at call [] = 0
moment_at call (entry ∷ log) = if is_later call entry then moment_at call log else length log + 1

-- an area before an entry
abbrev pub octets_back : Area → Entry → List ℕ → List ℕ
octets_back area entry octets = if same_area area entry.area then octets_before entry.deed octets else octets

-- an area before all entries
abbrev pub octets_through : Area → List Entry → List ℕ → List ℕ
octets_through area [] octets = octets
octets_through area (entry ∷ log) octets = octets_through area log (octets_back area entry octets)

-- an entry is a good sync of an area
abbrev pub is_sync : Area → Entry → Bool
is_sync area entry = if same_area area entry.area then is_synced entry.deed else false

-- an area at its last good sync, or before all entries
abbrev pub settled_in : Area → List Entry → List ℕ → List ℕ
settled_in area [] octets = octets
settled_in area (entry ∷ log) octets = if is_sync area entry then octets else settled_in area log (octets_back area entry octets)

-- the range of a deed, before others
abbrev pub with_range : Deed → List (ℕ × ℕ) → List (ℕ × ℕ)
with_range (Wrote at count was) ranges = (at, count) ∷ ranges
with_range (Cut size was) ranges = ranges
with_range Synced ranges = ranges

-- a deed is a write over a place
abbrev pub covers : Deed → ℕ → Bool
covers (Wrote at count was) place = nat_le at place && nat_lt place (at + count)
covers (Cut size was) place = false
covers Synced place = false

-- the ranges that were written since an area's last good sync
abbrev pub ranges_in : Area → List Entry → List (ℕ × ℕ)
ranges_in area [] = []
ranges_in area (entry ∷ log) =
    if is_sync area entry then []
    else if same_area area entry.area then with_range entry.deed (ranges_in area log)
    else ranges_in area log

-- ---- a disk

-- the call of a number was made
abbrev pub is_made : ℕ → MemDisk → Bool
is_made call disk = nat_lt call (mem_calls disk).made

-- the moment of a stop in a call, or the last one where it wasn't made
abbrev pub stop_moment : ℕ → MemDisk → ℕ
stop_moment call disk = if is_made call disk then moment_at call (mem_log disk) else length (mem_log disk)

-- what is chosen: what is read, where the call wasn't made
abbrev pub stop_choice : ℕ → ℕ → MemDisk → ℕ
stop_choice call choice disk = if is_made call disk then choice else 1

-- the number of each entry is that of a call that was made; the count of calls stands still at its end
abbrev pub IsNumbered : MemDisk → Type 0
IsNumbered disk = AllByRecursion (λ entry. next_count entry.call ≤ (mem_calls disk).made) (mem_log disk)

-- One call more: a stop in it leaves what is told now, or before it where it is a sync, which has put nothing in place yet; and one in
-- a call before it what it left before.
pub record NumbersCall (syncs : Bool) (old new : MemDisk) : Type 0 where
  pub numbered : IsNumbered old → IsNumbered new
  pub this : IsNumbered old → (mem_calls old).made < last_count → stop_moment (mem_calls old).made new ≡ length (mem_log (if syncs then old else new))
  pub earlier : (call : ℕ) → call < (mem_calls old).made → stop_moment call new ≡ stop_moment call old

-- a call noted one entry under its number, or none
abbrev pub NotesOne : (syncs : Bool) → ℕ → List Entry → List Entry → Type 0
NotesOne syncs call old new = (new ≡ old) ⊎ ((entry : Entry) × (new ≡ entry ∷ old) × (entry.call ≡ call) × (is_synced entry.deed ≡ syncs))
