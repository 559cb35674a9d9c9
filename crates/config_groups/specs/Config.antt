-- A configuration: the settings of its lines, or the first fault in the order of reading.
use Rattle.std.specs.Prelude.{◌≡◌, ℕ, List, Option, Some, None, IfSome, Result, Ok, Err}
use Rattle.kn_base.specs.Count.{Rose}
use Rattle.kn_base.specs.Shelf.{AsksFor}
use Rattle.config_lines.specs.Files.{lines_of}
use Rattle.config_lines.specs.declared.read.LinesFault.{LinesFault}
use Rattle.config_lines.specs.declared.read.LinesFault.TheVariants as lines
use Rattle.config_lines.specs.declared.read.Read.{Read}
use Rattle.config_groups.specs.declared.fault.Place.{Place}
use Rattle.config_groups.specs.declared.group.Set.{Set}
use Rattle.config_groups.specs.declared.read.ConfigFault.{ConfigFault}
use Rattle.config_groups.specs.declared.read.ConfigFault.TheVariants as faults
use Rattle.config_groups.specs.declared.settings.Settings.{Settings}
use Rattle.config_groups.specs.Faults.{first_fault}
use Rattle.config_groups.specs.Groups.{groups_of}
use Rattle.config_groups.specs.Missing.{first_missing}
use Rattle.config_groups.specs.Settings.{settings_of}

-- the fault with which the reading of lines ended
abbrev pub ending : LinesFault → ConfigFault
ending (lines.NoLine file line) = faults.Line file line
ending lines.TooDeep = faults.TooDeep
ending lines.NoFile = faults.NoFile

abbrev pub missing_by : Option (ℕ × List ℕ) → Option ConfigFault
missing_by (Some missing) = Some (faults.Missing missing.0 missing.1)
missing_by None = None

-- what is missing, where all lines were read
abbrev pub missing_fault : List (List Set) → Option ConfigFault
missing_fault groups = missing_by (first_missing groups)

-- the fault with which the reading of lines ended, or else what is missing
abbrev pub ending_or_missing : Option LinesFault → List (List Set) → Option ConfigFault
ending_or_missing (Some fault) groups = Some (ending fault)
ending_or_missing None groups = missing_fault groups

abbrev pub fault_by : Option Place → Option LinesFault → List (List Set) → Option ConfigFault
fault_by (Some place) ended groups = Some (faults.Value place.file place.line)
fault_by None ended groups = ending_or_missing ended groups

-- the first fault: a value outside its range, then that with which the reading of lines ended, then what is missing
unfoldable pub fault_of : Option LinesFault → List (List Set) → Option ConfigFault
fault_of ended groups = fault_by (first_fault groups) ended groups

abbrev pub config_by : Option ConfigFault → List (List Set) → Result Settings ConfigFault
config_by (Some fault) groups = Err fault
config_by None groups = Ok (settings_of groups)

-- the settings of groups, or the first fault
unfoldable pub config_in : Option LinesFault → List (List Set) → Result Settings ConfigFault
config_in ended groups = config_by (fault_of ended groups) groups

-- the settings of lines, or the first fault
unfoldable pub config_of : Read → Result Settings ConfigFault
config_of read = config_in read.fault (groups_of read.lines)

-- the same of files, of which that of one number may be missing
unfoldable pub config_at : List (List ℕ × List ℕ) → (missing : Option ℕ) → List ℕ → Result Settings ConfigFault
config_at files missing name = config_of (lines_of files missing name)

-- The settings are those of the files, and a fault is their first one; but where the shelf failed, which raised its count, a file is
-- missing. Want of memory has no cause.
abbrev pub IsConfig : List (List ℕ × List ℕ) → List ℕ → (before after : ℕ) → Result Settings ConfigFault → Type 0
IsConfig files name before after (Ok settings) = config_at files None name ≡ Ok settings
IsConfig files name before after (Err faults.Memory) = Unit {0}
IsConfig files name before after (Err fault) =
    (missing : Option ℕ) × (config_at files missing name ≡ Err fault) × IfSome missing (λ number. Rose before after)

-- ---- the calls of the shelf

-- the names of a configuration's files in the order of reading, each once for each place that includes it, where that of one number can't be had
abbrev pub names_of : List (List ℕ × List ℕ) → (missing : Option ℕ) → List ℕ → List (List ℕ)
names_of files missing name = (lines_of files missing name).names

-- a fault of the shelf is counted exactly where a file could not be had
abbrev pub CountsMissing : (missing : Option ℕ) → (before after : ℕ) → Type 0
CountsMissing None before after = after ≡ before
CountsMissing (Some number) before after = Rose before after

-- The shelf was asked for the configuration's files in the order of reading and for no other, up to the first fault of its lines, and a file
-- that it couldn't give is the missing one. Want of memory may come before any call.
abbrev pub AsksFiles :
    List (List ℕ × List ℕ) → List ℕ → (before after : ℕ) → (asked asked_now : Option (List (List ℕ))) → Result Settings ConfigFault → Type 0
AsksFiles files name before after asked asked_now (Ok settings) = (after ≡ before) × AsksFor (names_of files None name) asked asked_now
AsksFiles files name before after asked asked_now (Err faults.Memory) = Unit {0}
AsksFiles files name before after asked asked_now (Err fault) =
    (missing : Option ℕ) × (config_at files missing name ≡ Err fault) × CountsMissing missing before after
    × AsksFor (names_of files missing name) asked asked_now

-- the same of a shelf, where it tells its files
abbrev pub AsksInTurn :
    {H : Type 0} → (files_of : H → Option (List (List ℕ × List ℕ))) → (asked_of : H → Option (List (List ℕ))) → (faults_of : H → ℕ)
    → (shelf shelf_now : H) → List ℕ → Result Settings ConfigFault → Type 0
AsksInTurn files_of asked_of faults_of shelf shelf_now name result =
    IfSome (files_of shelf) (λ files. AsksFiles files name (faults_of shelf) (faults_of shelf_now) (asked_of shelf) (asked_of shelf_now) result)
