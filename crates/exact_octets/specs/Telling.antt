-- What is told of reading to those who have all of the octets.
use Rattle.std.specs.Prelude.{ℕ, ◌-◌, ◌≤◌, List, [], ◌∷◌, length, Result, Ok, Err}
use Rattle.std.specs.Borrow.{Bor}
use Rattle.exact_octets.specs.declared.read_fault.ReadFault.{ReadFault}
use Rattle.exact_octets.specs.declared.read_fault.ReadFault.TheVariants as faults
use Rattle.exact_octets.specs.declared.record_fault.RecordFault.{RecordFault}
use Rattle.exact_octets.specs.declared.record_fault.RecordFault.TheVariants as told

-- a fault that has its place among so many octets
abbrev pub IsPlaced : ℕ → ReadFault → Type 0
IsPlaced len faults.Short = Unit {0}
IsPlaced len (faults.Malformed left) = left ≤ len
IsPlaced len faults.Memory = Unit {0}

-- what was read lies within so many octets
abbrev pub IsWithin : {A : Type 0} → ℕ → Result (A × Bor (List ℕ)) ReadFault → Type 0
IsWithin len (Ok x) = length x.1.now ≤ len
IsWithin len (Err fault) = IsPlaced len fault

-- a fault by how many octets stand before it
abbrev pub told_of : ℕ → ReadFault → RecordFault
told_of len faults.Short = told.Short
told_of len (faults.Malformed left) = told.Malformed (len - left)
told_of len faults.Memory = told.Memory

-- a value at the front and how many octets it takes, or the fault
abbrev pub first_told : {A : Type 0} → ℕ → Result (A × Bor (List ℕ)) ReadFault → Result (A × ℕ) RecordFault
first_told len (Ok x) = Ok (x.0, len - length x.1.now)
first_told len (Err fault) = Err (told_of len fault)

-- a value behind which so many octets are left, or the fault: an octet behind it is one
abbrev pub behind_told : {A : Type 0} → ℕ → A → List ℕ → Result A RecordFault
behind_told len value [] = Ok value
behind_told len value (octet ∷ rest) = Err (told.Malformed (len - length (octet ∷ rest)))

-- a value of all the octets, or the fault
abbrev pub all_told : {A : Type 0} → ℕ → Result (A × Bor (List ℕ)) ReadFault → Result A RecordFault
all_told len (Ok x) = behind_told len x.0 x.1.now
all_told len (Err fault) = Err (told_of len fault)
