-- Reading from left to right: a value and the octets behind it, or the first fault that is met.
use Rattle.std.specs.Prelude.{◌≡◌, ℕ, zero, suc, ◌+◌, ◌*◌, ◌-◌, Bool, List, [], ◌∷◌, length, Option, Some, None, Result, Ok, Err, ◌==◌, if◌then◌else◌}
use Rattle.std.specs.List.{find}
use Rattle.exact_octets.specs.declared.alphabet.Alphabet.{Alphabet}
use Rattle.exact_octets.specs.declared.alphabet.Alphabet.TheVariants.{Any}
use Rattle.exact_octets.specs.declared.number.Numbers.{Numbers}
use Rattle.exact_octets.specs.declared.read_fault.ReadFault.{ReadFault}
use Rattle.exact_octets.specs.declared.read_fault.ReadFault.TheVariants as faults
use Rattle.exact_octets.specs.Alphabet.{within, is_in}
use Rattle.exact_octets.specs.Numbers.{is_among, high_of}

-- a reader: octets to a value and what stands behind it
abbrev pub Reader : Type 0 → Type 0
Reader A = List ℕ → Result (A × List ℕ) ReadFault

infixl 10 ◌>>=◌
-- the first fault ends it
abbrev pub ◌>>=◌ : {A B : Type 0} → Result A ReadFault → (A → Result B ReadFault) → Result B ReadFault
(Ok x) >>= f = f x
(Err e) >>= f = Err e

-- that reading failed so, unless memory ran out
abbrev pub Fails : {Y : Type 0} → ReadFault → Result Y ReadFault → Type 0
Fails faults.Memory read = Unit {0}
Fails faults.Short read = read ≡ Err faults.Short
Fails (faults.Malformed left) read = read ≡ Err (faults.Malformed left)

-- the fault is of the octets, and no want of memory
abbrev pub IsOfOctets : ReadFault → Type 0
IsOfOctets faults.Short = Unit {0}
IsOfOctets (faults.Malformed left) = Unit {0}
IsOfOctets faults.Memory = ⊥

-- what a function returned, seen by view, is what reading gives, unless memory ran out
abbrev pub Gives : {X Y : Type 0} → (X → Y) → Result X ReadFault → Result Y ReadFault → Type 0
Gives view (Ok x) read = read ≡ Ok (view x)
Gives view (Err e) read = Fails e read

-- ---- values made of values

-- a value, and a second one behind it that may hang on the first
abbrev pub both : {A B : Type 0} → Reader A → (A → Reader B) → Reader (A × B)
both first second octets = first octets >>= λ x. second x.0 x.1 >>= λ y. Ok ((x.0, y.0), y.1)

-- a value made of what is read
abbrev pub made : {A B : Type 0} → (A → B) → Reader A → Reader B
made f read octets = read octets >>= λ x. Ok (f x.0, x.1)

-- what stands behind the value alone
abbrev pub behind : {A : Type 0} → Result (A × List ℕ) ReadFault → Result (List ℕ) ReadFault
behind read = read >>= λ x. Ok x.1

-- a value that takes no octets
abbrev pub given : {A : Type 0} → A → Reader A
given value octets = Ok (value, octets)

-- so many values, one after the other
unfoldable pub repeated : {A : Type 0} → Reader A → ℕ → Reader (List A)
repeated read zero = given []
repeated read (suc n) = made (λ x. x.0 ∷ x.1) (both read (λ x. repeated read n))

-- values that fill so many octets, where each is read by how many are left for it and those behind it; there are no more of them than steps
unfoldable pub filled_within : {A : Type 0} → (ℕ → Reader A) → (A → List ℕ) → ℕ → ℕ → Reader (List A)
filled_within read spelled zero left = given []
filled_within read spelled (suc steps) zero = given []
filled_within read spelled (suc steps) (suc left) =
    made (λ x. x.0 ∷ x.1) (both (read (suc left)) (λ a. filled_within read spelled steps (suc left - length (spelled a))))

abbrev pub filled_at : {A : Type 0} → (ℕ → Reader A) → (A → List ℕ) → ℕ → Reader (List A)
filled_at read spelled left = filled_within read spelled left left

-- ---- fields

-- one octet that is allowed
abbrev pub octet_at : (ℕ → Bool) → Reader ℕ
octet_at allowed [] = Err faults.Short
octet_at allowed (octet ∷ rest) = if allowed octet then Ok (octet, rest) else Err (faults.Malformed (suc (length rest)))

-- a number of so many octets: the number in all of them but the last, and an octet with which it is among those that may stand here
unfoldable pub number_at : ℕ → Numbers → Reader ℕ
number_at zero numbers = given 0
number_at (suc width) numbers =
    made (λ x. x.0 * 256 + x.1) (both (number_at width (high_of numbers)) (λ high. octet_at (λ low. is_among numbers (high * 256 + low))))

-- so many octets of an alphabet
abbrev pub octets_at : Alphabet → ℕ → Reader (List ℕ)
octets_at alphabet = repeated (octet_at (is_in alphabet))

-- octets behind one octet that says how many they are
unfoldable pub short_at : ℕ → ℕ → Alphabet → Reader (List ℕ)
short_at least most alphabet = made (λ x. x.1) (both (octet_at (within least most)) (octets_at alphabet))

-- octets behind a number of so many octets that says how many they are
unfoldable pub counted_at : ℕ → Numbers → Alphabet → Reader (List ℕ)
counted_at width numbers alphabet = made (λ x. x.1) (both (number_at width numbers) (octets_at alphabet))

-- ---- an octet that names something

-- the value of a table whose code is this octet
abbrev pub value_of : {A : Type 0} → (A → ℕ) → List A → ℕ → Option A
value_of code values octet = find (λ value. code value == octet) values

-- what the octet before the others named
abbrev pub named : {A : Type 0} → Option A → List ℕ → Result (A × List ℕ) ReadFault
named None rest = Err (faults.Malformed (suc (length rest)))
named (Some value) rest = Ok (value, rest)

-- a value of a table by its code
abbrev pub code_at : {A : Type 0} → (A → ℕ) → List A → Reader A
code_at code values octets = octet_at (is_in Any) octets >>= λ x. named (value_of code values x.0) x.1

-- a value of one of several kinds, each read its own way behind the octet that names it
abbrev pub kind_at : {A : Type 0} → (ℕ → Bool) → (ℕ → Reader A) → Reader A
kind_at allowed read = made (λ x. x.1) (both (octet_at allowed) read)

-- ---- as many as there are

-- a value that was read and those behind it, or no value
abbrev pub with_more : {A : Type 0} → Result (A × List ℕ) ReadFault → (List ℕ → List A × List ℕ) → List ℕ → List A × List ℕ
with_more (Ok x) more octets = (x.0 ∷ (more x.1).0, (more x.1).1)
with_more (Err fault) more octets = ([], octets)

-- the values that stand one after the other from the front, at most so many, and what stands behind them
unfoldable pub many_within : {A : Type 0} → Reader A → ℕ → List ℕ → List A × List ℕ
many_within read zero octets = ([], octets)
many_within read (suc most) octets = with_more (read octets) (many_within read most) octets

-- all of them
unfoldable pub many : {A : Type 0} → Reader A → List ℕ → List A × List ℕ
many read octets = many_within read (length octets) octets
