-- No entry begins another, and none is empty.
use Rattle.std.proofs.Common.{◌≡◌, ◌∙◌, ℕ, List, [], ◌∷◌, ◌++◌, sym}
use Rattle.exact_octets.proofs.Fronts.{one_first}
use Rattle.gate_entries.specs.declared.recorded.Recorded.{Recorded}
use Rattle.gate_entries.specs.Entry.{IsEntry, entry_octets}
use Rattle.gate_entries.specs.EntryReading.{entry_code, kind_of_entry, fields_of}
use Rattle.gate_entries.proofs.Entries.{entry_reads, octets_by_kind}

-- octets that begin with two entries begin with one
pub one_entry : (a b : Recorded) (x y : List ℕ) → IsEntry a → IsEntry b → entry_octets a ++ x ≡ entry_octets b ++ y → (a ≡ b) × (x ≡ y)
one_entry = one_first entry_reads

-- an entry has octets
pub some_octets : (e : Recorded) → entry_octets e ≡ [] → ⊥
some_octets e none = let never : entry_code (kind_of_entry e) ∷ fields_of e ≡ [] = sym (octets_by_kind e) ∙ none in cc
