-- What stands behind each command that has a store: its configuration was read, and the store that it names was opened.
use Rattle.std.specs.Prelude.{◌≡◌, ◌≢◌, ℕ, ◌≤◌, Bool, List, [], Option, None, Result, Ok, Err, IfSome, IsSomeAnd, IsErrOf, MatchOption, ⊤}
use Rattle.std.specs.Bool.{OnTrue}
use Rattle.kn_base.specs.Count.{Rose}
use Rattle.config_groups.specs.Config.{IsConfig}
use Rattle.config_groups.specs.declared.read.ConfigFault.{ConfigFault}
use Rattle.config_groups.specs.declared.read.ConfigFault.TheVariants.{NoFile}
use Rattle.config_groups.specs.declared.settings.Settings.{Settings}
use Rattle.store_journal.specs.Area.{stands, unborn}
use Rattle.store_disk.specs.Meaning.{Meaning}
use Rattle.store_disk.specs.Story.{Story, reads}
use Rattle.gate_entries.specs.declared.recorded.Recorded.{Recorded}
use Rattle.gate_store.specs.Entries.{start, AreInTurn, StandsFor}
use Rattle.route_rules.specs.declared.rules.Rules.{Rules}
use Rattle.gate_store.specs.Store.{GivesBack}
use Rattle.gate_store.specs.declared.store_fault.StoreFault.{StoreFault}
use Rattle.gate_store.specs.declared.store_fault.StoreFault.TheVariants as store_is
use Rattle.boxes_main.specs.House.{Stock, IsNewDisk, IsToldWord}
use Rattle.boxes_main.specs.declared.opening_fault.OpeningFault.{OpeningFault}
use Rattle.boxes_main.specs.declared.opening_fault.OpeningFault.TheVariants.{Usage, Configuration, NoStoreFile, Store}

module _ {S : Type 0} (files : S → Option (List (List ℕ × List ℕ))) (faults : S → ℕ) where
  -- The configuration of a name was read from a shelf, to settings or a fault: those of its files, where they are told. They stay.
  pub record Reads (name : List ℕ) (old new : S) (outcome : Result Settings ConfigFault) : Type 0 where
    pub read : IfSome (files old) (λ files. IsConfig files name (faults old) (faults new) outcome)
    pub missed : IsErrOf outcome NoFile → Rose (faults old) (faults new)
    pub kept : files new ≡ files old
    pub not_fewer : faults old ≤ faults new

  -- the configuration that the words name was read, and has these settings
  abbrev pub HasSettings : (name : Option (List ℕ)) → S → S → Settings → Type 0
  HasSettings name old new settings = IsSomeAnd name (λ name. Reads name old new (Ok settings))

  -- The configuration that the words name has these settings, and they name a store.
  pub record IsConfigured (name : Option (List ℕ)) (old new : S) (settings : Settings) : Type 0 where
    pub reads : HasSettings name old new settings
    pub store_file : settings.core.store_file ≢ []

  -- The configuration that the words name has these settings, and they name no store.
  pub record LacksStoreFile (name : Option (List ℕ)) (old new : S) (settings : Settings) : Type 0 where
    pub reads : HasSettings name old new settings
    pub no_store_file : settings.core.store_file ≡ []

module _ {D : Type 0} (meaning : Meaning D) where
  -- a disk of the house that has made no call, and whose story is the stated one where it is told
  abbrev pub IsHouseDisk : Story → D → Type 0
  IsHouseDisk begun disk = IsNewDisk meaning.tells (meaning.story disk) (meaning.calls disk) (meaning.faults disk) begun

  -- No store was opened on a disk of the house, which is handed back: why, and that nothing that it held is lost, whenever it stopped.
  pub record GivesDiskBack (begun : Story) (rules : Rules) (back : D) (fault : StoreFault) : Type 0 where
    pub disk : D
    pub new_disk : IsHouseDisk begun disk
    pub gives_back : GivesBack meaning disk rules back fault

  -- no store was opened on the house's disk, or there was no memory for a disk
  abbrev pub IsNoStore : Story → Rules → Option D → StoreFault → Type 0
  IsNoStore begun rules disk fault = MatchOption disk (fault ≡ store_is.Memory) (λ back. GivesDiskBack begun rules back fault)

-- A store that was opened, of this birth with these entries, each in its turn, is what the areas stood for that a disk read as; one that wasn't born was born with the
-- house's word.
pub record IsFound (tells : Bool) (begun : Story) (word : Option ℕ) (rules : Rules) (birth : ℕ) (entries : List Recorded) : Type 0 where
  pub in_turn : AreInTurn birth (start rules) entries
  pub stood : OnTrue tells (StandsFor (stands (reads begun)) birth entries)
  pub born : OnTrue tells (stands (reads begun) ≡ unborn → IsToldWord word birth)

-- a command that asks for nothing else in its settings
abbrev pub anything : Settings → Type 0
anything settings = ⊤

module _
    {S D : Type 0} (files : S → Option (List (List ℕ × List ℕ))) (shelf_faults : S → ℕ)
    (meaning : Meaning D) (HasAsked : Settings → Type 0) where
  -- Why no store stands open, by the fault: the words are none of the command's; the configuration was refused; or it has what the command asks for
  -- in it, but names no store; or its store wasn't opened on the house's disk under that name, or there was no memory for it.
  abbrev pub IsNotOpen : (name : Option (List ℕ)) → S → S → Stock → Option D → OpeningFault → Type 0
  IsNotOpen name old new stock disk Usage = (name ≡ None) × (new ≡ old) × (disk ≡ None)
  IsNotOpen name old new stock disk (Configuration fault) = IsSomeAnd name (λ name. Reads files shelf_faults name old new (Err fault)) × (disk ≡ None)
  IsNotOpen name old new stock disk NoStoreFile =
      (settings : Settings) × LacksStoreFile files shelf_faults name old new settings × HasAsked settings × (disk ≡ None)
  IsNotOpen name old new stock disk (Store fault) =
      (settings : Settings) × IsConfigured files shelf_faults name old new settings × HasAsked settings
      × IsNoStore meaning (stock.disks settings.core.store_file) settings.rules disk fault
