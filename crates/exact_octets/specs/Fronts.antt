-- What a reader that is exact answers: which octets begin a spelling, and where they cease to. G says which octets are a spelling.
use Rattle.std.specs.Prelude.{◌≡◌, ◌≢◌, ℕ, ◌+◌, ◌<◌, ⊤, List, [], ◌++◌, length, take, Result, Ok, Err, IfOk, IfErr}
use Rattle.exact_octets.specs.declared.record_fault.RecordFault.{RecordFault}
use Rattle.exact_octets.specs.declared.record_fault.RecordFault.TheVariants.{Short, Malformed, Memory}

-- the octets begin a spelling: with more behind them, or none, they are one
pub record Begins (G : List ℕ → Type 0) (octets : List ℕ) : Type 0 where
  pub more : List ℕ
  pub whole : G (octets ++ more)

-- the octets are a proper front of a spelling: with something behind them they are one
pub record IsProperFront (G : List ℕ → Type 0) (octets : List ℕ) : Type 0 where
  pub more : List ℕ
  pub some : more ≢ []
  pub whole : G (octets ++ more)

-- where octets may stand behind a spelling: the first `at` octets are a proper front of one, and the first `at + 1` begin none
pub record BreaksOffAt (G : List ℕ → Type 0) (octets : List ℕ) (at : ℕ) : Type 0 where
  pub there : at < length octets
  pub begins : IsProperFront G (take at octets)
  pub ends : ¬ Begins G (take (at + 1) octets)

-- where none may: the first `at` octets begin a spelling, or are one, and the first `at + 1` begin none
pub record GoesWrongAt (G : List ℕ → Type 0) (octets : List ℕ) (at : ℕ) : Type 0 where
  pub there : at < length octets
  pub begins : Begins G (take at octets)
  pub ends : ¬ Begins G (take (at + 1) octets)

-- what each fault says of octets that no spelling stands first in
abbrev pub ExplainsNoFirst : (List ℕ → Type 0) → List ℕ → RecordFault → Type 0
ExplainsNoFirst G octets Short = IsProperFront G octets
ExplainsNoFirst G octets (Malformed at) = BreaksOffAt G octets at
ExplainsNoFirst G octets Memory = ⊤

-- what each fault says of octets that are no spelling
abbrev pub ExplainsNone : (List ℕ → Type 0) → List ℕ → RecordFault → Type 0
ExplainsNone G octets Short = IsProperFront G octets
ExplainsNone G octets (Malformed at) = GoesWrongAt G octets at
ExplainsNone G octets Memory = ⊤

-- this fault is answered, unless memory ran out
abbrev pub FailsSo : {X : Type 0} → Result X RecordFault → RecordFault → Type 0
FailsSo (Ok x) fault = ⊥
FailsSo (Err Short) fault = Short ≡ fault
FailsSo (Err (Malformed at)) fault = Malformed at ≡ fault
FailsSo (Err Memory) fault = ⊤

-- this value is answered, unless memory ran out
abbrev pub ReadsSo : {X : Type 0} → Result X RecordFault → X → Type 0
ReadsSo (Ok x) value = x ≡ value
ReadsSo (Err Short) value = ⊥
ReadsSo (Err (Malformed at)) value = ⊥
ReadsSo (Err Memory) value = ⊤

-- octets that are the spelling of a good value
abbrev pub IsSpelled : {A : Type 0} → (A → Type 0) → (A → List ℕ) → List ℕ → Type 0
IsSpelled {A = A} Good spelled octets = (a : A) × Good a × (octets ≡ spelled a)

-- ---- the contract of a reader, by the good values and how they are spelled

-- of one that reads a value at the front, and says how many octets it takes
pub record ReadsFirst {A : Type 0} (Good : A → Type 0) (spelled : A → List ℕ) (octets : List ℕ) (result : Result (A × ℕ) RecordFault) : Type 0 where
  -- what is read is good, and its spelling stands first
  pub found : IfOk result (λ read. Good read.0 × (read.1 ≡ length (spelled read.0)) × (take read.1 octets ≡ spelled read.0))
  -- a good value whose spelling stands first is read, whatever follows it
  pub only : (a : A) (rest : List ℕ) → Good a → octets ≡ spelled a ++ rest → ReadsSo result (a, length (spelled a))
  -- each fault says what the octets are
  pub fault : IfErr result (ExplainsNoFirst (IsSpelled Good spelled) octets)
  pub short : IsProperFront (IsSpelled Good spelled) octets → FailsSo result Short
  pub malformed : (at : ℕ) → BreaksOffAt (IsSpelled Good spelled) octets at → FailsSo result (Malformed at)

-- of one that reads a value of all the octets
pub record ReadsAll {A : Type 0} (Good : A → Type 0) (spelled : A → List ℕ) (octets : List ℕ) (result : Result A RecordFault) : Type 0 where
  -- what is read is good, and the octets are its spelling
  pub found : IfOk result (λ a. Good a × (octets ≡ spelled a))
  -- a good value whose spelling the octets are is read
  pub only : (a : A) → Good a → octets ≡ spelled a → ReadsSo result a
  -- each fault says what the octets are
  pub fault : IfErr result (ExplainsNone (IsSpelled Good spelled) octets)
  pub short : IsProperFront (IsSpelled Good spelled) octets → FailsSo result Short
  pub malformed : (at : ℕ) → GoesWrongAt (IsSpelled Good spelled) octets at → FailsSo result (Malformed at)
