-- What a shelf in memory tells.
use Rattle.std.specs.Prelude.{ℕ, List, Option, Some}
use Rattle.kn_base.specs.Calls.{Calls}
use Rattle.kn_base.specs.declared.mem_shelf.MemShelf.{MemShelf}

-- all its files
abbrev pub files_of : MemShelf → Option (List (List ℕ × List ℕ))
files_of s = Some s.files.items

-- the names that it was asked for, while there was memory to note them
abbrev pub asked_of : MemShelf → Option (List (List ℕ))
asked_of s = s.asked

-- its calls, and which of them are to fail
abbrev pub calls_of : MemShelf → Calls
calls_of s = s.calls

-- how often it failed
abbrev pub faults_of : MemShelf → ℕ
faults_of s = s.faults
