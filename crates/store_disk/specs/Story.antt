-- What was done to a disk, act by act, and what a stop may leave of its areas.
use Rattle.std.specs.Prelude.{◌≡◌, ◌⊎◌, ◌≤◌, ◌<◌, ◌+◌, ◌-◌, ℕ, Bool, List, [], ◌∷◌, ◌++◌, length, take, drop, get_or, min, max, if◌then◌else◌, Result, Ok, Err}
use Rattle.store_disk.specs.Disk.{Areas, octets_of, same_area, written}
use Rattle.store_disk.specs.declared.area.Area.{Area}
use Rattle.store_disk.specs.declared.area.Area.TheVariants.{A, B, Pick}
use Rattle.store_disk.specs.declared.disk.DiskFailed.{DiskFailed}

-- ---- acts

-- One act on an area: a write or a cut, good or failed, with what the area reads as behind it; or a good sync. A call that only reads is
-- no act, and a failed sync is none, since all stays in doubt that was.
pub data Act : Type 0 where
  wrote : (area : Area) (at count : ℕ) (octets : List ℕ) → Act
  cut : (area : Area) (size : ℕ) (octets : List ℕ) → Act
  synced : (area : Area) → Act

-- what areas held at the start, when nothing was in doubt, and what was done to them since, the last act first
pub record Story : Type 0 where
  pub start : Areas
  pub acts : List Act

-- a story with one more act
abbrev pub tell : Act → Story → Story
tell act story = record { start = story.start; acts = act ∷ story.acts }

-- the story of areas to which nothing was done
abbrev pub untold : Areas → Story
untold areas = record { start = areas; acts = [] }

-- how much was done: the moment that a story has reached
abbrev pub moment_of : Story → ℕ
moment_of story = length story.acts

-- ---- one area

-- What became of an area since its last good sync: what it held then, what it reads as now, the ranges that were written since (the
-- place and how many octets), and the least and the greatest length that it had.
pub record Past : Type 0 where
  pub settled : List ℕ
  pub octets : List ℕ
  pub ranges : List (ℕ × ℕ)
  pub least : ℕ
  pub greatest : ℕ

-- nothing was done since
abbrev pub at_rest : List ℕ → Past
at_rest octets = record { settled = octets; octets = octets; ranges = []; least = length octets; greatest = length octets }

-- what an act on an area makes of its past
abbrev pub past_after : Act → Past → Past
past_after (wrote area at count octets) past = record {
  settled = past.settled;
  octets = octets;
  ranges = (at, count) ∷ past.ranges;
  least = min past.least (length octets);
  greatest = max past.greatest (max (at + count) (length octets));
}
past_after (cut area size octets) past = record {
  settled = past.settled;
  octets = octets;
  ranges = past.ranges;
  least = min past.least (min size (length octets));
  greatest = max past.greatest (length octets);
}
past_after (synced area) past = at_rest past.octets

-- an act is one on this area
abbrev pub is_on : Area → Act → Bool
is_on area (wrote other at count octets) = same_area area other
is_on area (cut other size octets) = same_area area other
is_on area (synced other) = same_area area other

-- the past of an area
abbrev pub past_in : Area → Areas → List Act → Past
past_in area start [] = at_rest (octets_of start area)
past_in area start (act ∷ acts) = if is_on area act then past_after act (past_in area start acts) else past_in area start acts

abbrev pub past_of : Story → Area → Past
past_of story area = past_in area story.start story.acts

-- what the areas read as
abbrev pub reads : Story → Areas
reads story = record { a = (past_of story A).octets; b = (past_of story B).octets; pick = (past_of story Pick).octets }

-- ---- what a stop may leave

-- a place lies in one of these ranges
abbrev pub IsAmong : List (ℕ × ℕ) → ℕ → Type 0
IsAmong [] place = ⊥
IsAmong (range ∷ ranges) place = ((range.0 ≤ place) × (place < range.0 + range.1)) ⊎ IsAmong ranges place

-- Whatever octet may stand at a place after a stop: it was written since the last good sync, or lies past the length at that sync.
abbrev pub IsDoubtful : Past → ℕ → Type 0
IsDoubtful past place = (length past.settled ≤ place) ⊎ IsAmong past.ranges place

-- Octets of a length that the area had since its last good sync, which at each place without doubt are those of that sync.
pub record IsTorn (past : Past) (octets : List ℕ) : Type 0 where
  pub no_shorter : past.least ≤ length octets
  pub no_longer : length octets ≤ past.greatest
  pub kept : (place : ℕ) → place < length octets → IsDoubtful past place ⊎ (get_or octets place 0 ≡ get_or past.settled place 0)

-- a stop may leave these octets of an area: what it reads as, or torn ones
abbrev pub MayLeave : Past → List ℕ → Type 0
MayLeave past octets = (octets ≡ past.octets) ⊎ IsTorn past octets

-- a stop now may leave these areas
abbrev pub IsImage : Story → Areas → Type 0
IsImage story image = (area : Area) → MayLeave (past_of story area) (octets_of image area)

-- the story as it was at an earlier moment
abbrev pub up_to : ℕ → Story → Story
up_to moment story = record { start = story.start; acts = drop (length story.acts - moment) story.acts }

-- a stop at some moment since an earlier one may have left these areas, in a call or between two
pub record IsImageSince (since : ℕ) (story : Story) (image : Areas) : Type 0 where
  pub moment : ℕ
  pub later : since ≤ moment
  pub reached : moment ≤ moment_of story
  pub image_then : IsImage (up_to moment story) image

-- A disk went on from one story to another, and each stop on the way leaves areas of which P holds.
pub record LeavesOnly (old new : Story) (P : Areas → Type 0) : Type 0 where
  pub acts : List Act
  pub goes_on : new ≡ record { start = old.start; acts = acts ++ old.acts }
  pub each : (image : Areas) → IsImageSince (moment_of old) new image → P image

-- ---- what the calls do

-- octets after a write that failed: whatever stands in its range, and no longer than it would have been
pub record Tears (at count : ℕ) (old new : List ℕ) : Type 0 where
  pub before : take at new ≡ take at old
  pub behind : drop (at + count) new ≡ drop (at + count) old
  pub no_shorter : length old ≤ length new
  pub no_longer : length new ≤ max (length old) (at + count)

-- octets after a cut that failed: some length between
pub record Shortens (size : ℕ) (old new : List ℕ) : Type 0 where
  pub front : new ≡ take (length new) old
  pub no_shorter : size ≤ length new

-- a write that failed is told with what it left
abbrev pub FailsToWrite : Area → ℕ → List ℕ → Story → Story → Type 0
FailsToWrite area at bytes old new =
    (octets : List ℕ) × (new ≡ tell (wrote area at (length bytes) octets) old) × Tears at (length bytes) (octets_of (reads old) area) octets

-- what a write makes of a story, by its answer: one that failed may have done nothing at all
abbrev pub Writes : Area → ℕ → List ℕ → {T : Type 0} → Result T DiskFailed → Story → Story → Type 0
Writes area at bytes (Ok done) old new = new ≡ tell (wrote area at (length bytes) (written (octets_of (reads old) area) at bytes)) old
Writes area at bytes (Err failed) old new = (new ≡ old) ⊎ FailsToWrite area at bytes old new

-- a cut that failed is told with what it left
abbrev pub FailsToCut : Area → ℕ → Story → Story → Type 0
FailsToCut area size old new = (octets : List ℕ) × (new ≡ tell (cut area size octets) old) × Shortens size (octets_of (reads old) area) octets

-- what a cut makes of it
abbrev pub Cuts : Area → ℕ → {T : Type 0} → Result T DiskFailed → Story → Story → Type 0
Cuts area size (Ok done) old new = new ≡ tell (cut area size (take size (octets_of (reads old) area))) old
Cuts area size (Err failed) old new = (new ≡ old) ⊎ FailsToCut area size old new

-- what a sync makes of it
abbrev pub Syncs : Area → {T : Type 0} → Result T DiskFailed → Story → Story → Type 0
Syncs area (Ok done) old new = new ≡ tell (synced area) old
Syncs area (Err failed) old new = new ≡ old
