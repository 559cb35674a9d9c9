-- What the command `show` prints, and what it comes to.
use Rattle.std.specs.Prelude.{◌≡◌, ◌≤◌, ℕ, List, ◌++◌, codes, decimal, map, Option, Some, None}
use Rattle.std.specs.Bool.{OnTrue}
use Rattle.kn_base.specs.Count.{Rose}
use Rattle.kn_base.specs.Course.{Course}
use Rattle.kn_base.specs.Talk.{SaysAll, SaysFront}
use Rattle.config_groups.specs.declared.settings.Settings.{Settings}
use Rattle.gate_model.specs.declared.totals.Totals.{Totals}
use Rattle.store_disk.specs.Meaning.{Meaning}
use Rattle.store_disk.specs.Disk.{Areas}
use Rattle.store_disk.specs.Story.{Story, IsImage, LeavesOnly}
use Rattle.gate_entries.specs.declared.recorded.Recorded.{Recorded}
use Rattle.gate_model.specs.Due.{HaveReports}
use Rattle.gate_model.specs.Fates.{HaveFates}
use Rattle.gate_model.specs.Fold.{recorded}
use Rattle.gate_model.specs.State.{totals_of}
use Rattle.gate_store.specs.Entries.{start, state_of}
use Rattle.gate_store.specs.Reopening.{MayStandFor}
use Rattle.route_rules.specs.declared.rules.Rules.{Rules}
use Rattle.boxes_main.specs.Failure.{ComesTo}
use Rattle.boxes_main.specs.House.{Rooms, Stock}
use Rattle.boxes_main.specs.Kept.{ReopensAsAtStart}
use Rattle.boxes_main.specs.Line.{Row, line}
use Rattle.boxes_main.specs.Opening.{IsConfigured, IsFound, IsNotOpen, anything}
use Rattle.boxes_main.specs.declared.failure.Failure.{Failure}
use Rattle.boxes_main.specs.declared.opening_fault.OpeningFault.{OpeningFault}
use Rattle.boxes_main.specs.declared.printing.OutputFault.{OutputFault}
use Rattle.boxes_main.specs.declared.printing.OutputFault.TheVariants.{Failed, Memory}

-- the line of a count: its name, a space and the number in decimal
abbrev pub row : (name : List ℕ) (count : ℕ) → List ℕ
row name count = name ++ codes " " ++ decimal count ++ codes "\n"

-- the lines of all counts
abbrev pub show_text : Totals → List ℕ
show_text totals =
    row (codes "accepted") totals.accepted
    ++ row (codes "acked") totals.acked
    ++ row (codes "rejected") totals.rejected
    ++ row (codes "waiting") totals.waiting
    ++ row (codes "awaited") totals.awaited
    ++ row (codes "unmatched") totals.unmatched
    ++ row (codes "jobs") totals.jobs
    ++ row (codes "called") totals.called
    ++ row (codes "dropped") totals.dropped
    ++ row (codes "arrived") totals.arrived
    ++ row (codes "arrivals") totals.arrivals
    ++ row (codes "entries") totals.entries

-- how the program ends where the output failed
abbrev pub output_row : OutputFault → Row
output_row Failed = (6, line (codes "boxes: connection fault"))
output_row Memory = (9, line (codes "boxes: out of memory"))

-- what printing a text does: all of it went out, or a front of it, and a count of the output rose
abbrev pub Prints : List ℕ → Option OutputFault → Course → Course → Type 0
Prints text None old new = SaysAll text old new
Prints text (Some Failed) old new = (gone : ℕ) × SaysFront text gone old new × Rose old.counts.faults new.counts.faults
Prints text (Some Memory) old new = (gone : ℕ) × SaysFront text gone old new × Rose old.counts.starved new.counts.starved

module _ {D : Type 0} (meaning : Meaning D) where
  -- What a store counts was printed, which was opened on a disk with this story, and closed. Whenever it stopped, nothing is lost, and nothing came
  -- to it. The counts are those of all its entries, whose messages and reports became what they say.
  pub record IsShown (begun : Story) (word : Option ℕ) (rules : Rules) (old new : Course) (disk : Option D) (fault : Option OutputFault) : Type 0 where
    pub birth : ℕ
    pub entries : List Recorded
    pub found : IsFound meaning.tells begun word rules birth entries
    pub prints : Prints (show_text (totals_of (state_of birth rules entries))) fault old new
    pub after : D
    pub handed_back : disk ≡ Some after
    pub stands : OnTrue meaning.tells ((image : Areas) → IsImage (meaning.story after) image → MayStandFor birth entries None image)
    pub stops : OnTrue meaning.tells (LeavesOnly begun (meaning.story after) (ReopensAsAtStart rules begun))
    pub fates : HaveFates birth (start rules) (map recorded entries)
    pub reports : HaveReports birth (start rules) entries (state_of birth rules entries)
    pub unfailed : meaning.faults after ≡ 0
    pub bounded : meaning.calls after ≤ 20

module _
    {V S O E D : Type 0} (course : O → Course) (files : S → Option (List (List ℕ × List ℕ))) (shelf_faults : S → ℕ)
    (meaning : Meaning D) where
  -- The store of the configuration stood open, on the house's disk under the name that it says, and its counts were printed.
  pub record Shows (name : Option (List ℕ)) (old new : Rooms V S O E) (stock : Stock) (disk : Option D) (fault : Option OutputFault) : Type 0 where
    pub settings : Settings
    pub configured : IsConfigured files shelf_faults name old.shelf new.shelf settings
    pub shown : IsShown meaning (stock.disks settings.core.store_file) stock.word settings.rules (course old.output) (course new.output) disk fault

  -- No store stood open, and nothing was printed.
  pub record ShowsNone (name : Option (List ℕ)) (old new : Rooms V S O E) (stock : Stock) (disk : Option D) (fault : OpeningFault) : Type 0 where
    pub unprinted : new.output ≡ old.output
    pub cause : IsNotOpen files shelf_faults meaning anything name old.shelf new.shelf stock disk fault

  -- what the command comes to
  abbrev pub ShowComesTo : (name : Option (List ℕ)) → Rooms V S O E → Rooms V S O E → Stock → Option D → Option (Failure OutputFault) → Type 0
  ShowComesTo name old new stock disk = ComesTo (ShowsNone name old new stock disk) (Shows name old new stock disk)
