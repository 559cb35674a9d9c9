-- What serves the proofs of reading files.
use Rattle.std.specs.Prelude.{◌≡◌, ◌≢◌, ◌≤◌, ◌++◌, ℕ, List, Option, Some, None, Result, IfSome, OnOk}
use Rattle.kn_base.specs.Count.{Rose}
use Rattle.kn_base.specs.declared.memory.Memory.{Memory}
use Rattle.config_lines.specs.Files.{line_into, lines_into, include_at, files_into, texts_but}
use Rattle.config_lines.specs.Line.{line_of}
use Rattle.config_lines.specs.declared.read.Read.{Read}
use Rattle.config_lines.specs.declared.read.LinesFault.{LinesFault}
use Rattle.config_lines.specs.declared.read.LinesFault.TheVariants as faults

-- no file with a number below this is missing
abbrev pub IsBehind : ℕ → Option ℕ → Type 0
IsBehind files None = Unit {0}
IsBehind files (Some number) = files ≤ number

-- that the file of a number is missing agrees with what was read
abbrev pub AgreesBy : Option LinesFault → ℕ → Option ℕ → Type 0
AgreesBy (Some faults.NoFile) files missing = missing ≡ Some files
AgreesBy (Some fault) files missing = IsBehind files missing
AgreesBy None files missing = IsBehind files missing

abbrev pub Agrees : Read → Option ℕ → Type 0
Agrees read missing = AgreesBy read.fault read.files missing

-- A line was put last, or a fault where it is none; or it includes a file, and nothing was put yet.
abbrev pub PutsLine : (List ℕ → Read → Read) → (file number : ℕ) → List ℕ → (old new : Read) → Option (List ℕ) → Type 0
PutsLine include file number octets old new None = new ≡ line_into include file number (line_of octets) old
PutsLine include file number octets old new (Some name) = (new ≡ old) × (line_into include file number (line_of octets) old ≡ include name old)

-- the lines of a text were read, whichever file could not be had
abbrev pub ReadsText : List (List ℕ × List ℕ) → (levels file number : ℕ) → List (List ℕ) → (old new : Read) → Type 0
ReadsText files levels file number texts old new =
    (missing : Option ℕ) → Agrees new missing → new ≡ lines_into (include_at (texts_but files missing) levels) file number texts old

-- a line was read
abbrev pub ReadsLine : List (List ℕ × List ℕ) → (levels file number : ℕ) → List ℕ → (old new : Read) → Type 0
ReadsLine files levels file number octets old new =
    (missing : Option ℕ) → Agrees new missing → new ≡ line_into (include_at (texts_but files missing) levels) file number (line_of octets) old

-- an included file was read
abbrev pub ReadsIncluded : List (List ℕ × List ℕ) → (levels : ℕ) → List ℕ → (old new : Read) → Type 0
ReadsIncluded files levels name old new =
    (missing : Option ℕ) → Agrees new missing → new ≡ include_at (texts_but files missing) levels name old

-- a file was read
abbrev pub ReadsFile : List (List ℕ × List ℕ) → (levels : ℕ) → List ℕ → (old new : Read) → Type 0
ReadsFile files levels name old new =
    (missing : Option ℕ) → Agrees new missing → new ≡ files_into (texts_but files missing) levels name old

-- the names that a shelf tells, if it tells any, are those of what was read, behind these
abbrev pub TellsOf : Read → (before : List (List ℕ)) → Option (List (List ℕ)) → Type 0
TellsOf read before told = IfSome told (λ asked. asked ≡ before ++ read.names)

-- How reading goes: the shelf keeps its files and is asked for those of the names that are kept, and its count of faults stands still, or rose
-- where a file could not be had. No file is unread.
pub record Goes
    {H : Type 0} (files_of : H → Option (List (List ℕ × List ℕ))) (asked_of : H → Option (List (List ℕ))) (faults_of : H → ℕ)
    (shelf shelf_now : H) (old new : Read) (result : Result (Unit {0}) Memory) : Type 0 where
  pub kept : files_of shelf_now ≡ files_of shelf
  pub asks : OnOk result ((before : List (List ℕ)) → TellsOf old before (asked_of shelf) → TellsOf new before (asked_of shelf_now))
  pub spared : OnOk result (new.fault ≢ Some faults.NoFile → faults_of shelf_now ≡ faults_of shelf)
  pub not_fewer : faults_of shelf ≤ faults_of shelf_now
  pub missed : OnOk result ((new.fault ≡ Some faults.NoFile) → Rose (faults_of shelf) (faults_of shelf_now))
  pub files : OnOk result (old.files ≤ new.files)
