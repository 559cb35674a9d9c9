-- The lines of a configuration in the order of reading: those of its file, with those of each included file in the include's place.
use Rattle.std.specs.Prelude.{◌+◌, ℕ, zero, suc, Bool, false, ◌==◌, nat_lt, List, [], ◌∷◌, ◌++◌, Option, Some, None, if◌then◌else◌, codes}
use Rattle.std.specs.Str.{bytes_eq}
use Rattle.std.specs.Str.Lines.{lines}
use Rattle.kn_base.specs.Shelf.{text_of}
use Rattle.config_lines.specs.Line.{line_of}
use Rattle.config_lines.specs.declared.line.Line.{Line}
use Rattle.config_lines.specs.declared.line.Line.TheVariants as says
use Rattle.config_lines.specs.declared.read.Read.{Read}
use Rattle.config_lines.specs.declared.read.PlacedLine.{PlacedLine}
use Rattle.config_lines.specs.declared.read.LinesFault.{LinesFault}
use Rattle.config_lines.specs.declared.read.LinesFault.TheVariants as faults

-- how many files may be read
abbrev pub most_files : ℕ
most_files = 1000

-- at how many levels below the first file an include is followed
abbrev pub most_levels : ℕ
most_levels = 8

-- nothing was read
abbrev pub none_read : Read
none_read = record { lines = []; names = []; files = 0; fault = None }

-- the reading ends
abbrev pub ended : LinesFault → Read → Read
ended fault read = record read { fault = Some fault }

-- what is read further, unless the reading ended
abbrev pub going_on : Option LinesFault → (Read → Read) → Read → Read
going_on None further read = further read
going_on (Some fault) further read = read

-- the file that a line includes, if it does
abbrev pub included_by : Line → Option (List ℕ)
included_by (says.Variable name value) = if bytes_eq name (codes "include") then Some value else None
included_by line = None

-- a line is read: one that includes a file stands for that file's lines
abbrev pub placed_into : (List ℕ → Read → Read) → PlacedLine → Option (List ℕ) → Read → Read
placed_into include line (Some name) read = include name read
placed_into include line None read = record read { lines = read.lines ++ line ∷ [] }

-- the octets of a line are read, where they are one
abbrev pub line_into : (List ℕ → Read → Read) → (file number : ℕ) → Option Line → Read → Read
line_into include file number None read = ended (faults.NoLine file number) read
line_into include file number (Some line) read =
    placed_into include (record { file = file; line = number; says = line }) (included_by line) read

-- lines are read, one after the other, from this number on
unfoldable pub lines_into : (List ℕ → Read → Read) → (file number : ℕ) → List (List ℕ) → Read → Read
lines_into include file number [] read = read
lines_into include file number (first ∷ rest) read =
    let read_first = line_into include file number (line_of first) read in
    going_on read_first.fault (lines_into include file (number + 1) rest) read_first

-- a file's text is read, where there is one
abbrev pub text_into : (List ℕ → Read → Read) → Option (List ℕ) → Read → Read
text_into include None read = ended faults.NoFile read
text_into include (Some text) read = lines_into include read.files 1 (lines text) (record read { files = read.files + 1 })

-- a file is asked for
abbrev pub asking : List ℕ → Read → Read
asking name read = record read { names = read.names ++ name ∷ [] }

-- a file is read, unless too many were
abbrev pub file_into : (ℕ → List ℕ → Option (List ℕ)) → (List ℕ → Read → Read) → List ℕ → Read → Read
file_into texts include name read =
    if nat_lt read.files most_files then text_into include (texts read.files name) (asking name read) else ended faults.TooDeep read

-- what an include stands for, where it is followed at so many levels
unfoldable pub include_at : (ℕ → List ℕ → Option (List ℕ)) → (levels : ℕ) → List ℕ → Read → Read
include_at texts zero name = ended faults.TooDeep
include_at texts (suc levels) name = file_into texts (include_at texts levels) name

-- a file is read, and includes are followed at so many levels below it
abbrev pub files_into : (ℕ → List ℕ → Option (List ℕ)) → (levels : ℕ) → List ℕ → Read → Read
files_into texts levels = file_into texts (include_at texts levels)

-- Whether a number is the one that was told.
abbrev pub is_number : Option ℕ → ℕ → Bool
is_number None number = false
is_number (Some told) number = told == number

-- the texts of files by their numbers in the order of reading and their names, where the file of one number can't be had
abbrev pub texts_but : List (List ℕ × List ℕ) → Option ℕ → ℕ → List ℕ → Option (List ℕ)
texts_but files missing number name = if is_number missing number then None else text_of name files

-- the number of the file that could not be had, by what was read
abbrev pub missing_by : Option LinesFault → ℕ → Option ℕ
missing_by (Some faults.NoFile) files = Some files
missing_by fault files = None

-- the lines of the file of a name, up to the first fault
abbrev pub lines_of : List (List ℕ × List ℕ) → (missing : Option ℕ) → List ℕ → Read
lines_of files missing name = files_into (texts_but files missing) most_levels name none_read
