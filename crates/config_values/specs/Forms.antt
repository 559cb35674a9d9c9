-- The forms of a configuration's values, as facts (docs/FORMATS.md, 'Values of a configuration'). Bounds are counted in.
use Rattle.std.specs.Prelude.{◌≡◌, ◌≢◌, ℕ, ◌≤◌, true, List, [], ◌∷◌, length, All, IsUtf8}
use Rattle.sms_record.specs.declared.address.Address.{Address}
use Rattle.sms_record.specs.Record.{IsAddress, IsDigit}
use Rattle.config_values.specs.Values.{is_sendable, characters}

-- at least so much, and at most so much
abbrev pub IsWithin : (least most number : ℕ) → Type 0
IsWithin least most number = (least ≤ number) × (number ≤ most)

-- one to so many octets of printable ASCII
abbrev pub IsPrintable : (most : ℕ) → List ℕ → Type 0
IsPrintable most value = IsWithin 1 most (length value) × All (IsWithin 32 126) value

-- one to so many decimal digits
abbrev pub IsDigits : (most : ℕ) → List ℕ → Type 0
IsDigits most value = IsWithin 1 most (length value) × All IsDigit value

-- neither a space nor a TAB
abbrev pub IsNoBlank : ℕ → Type 0
IsNoBlank octet = (octet ≢ 32) × (octet ≢ 9)

-- one to so many octets without a blank
abbrev pub IsWord : (most : ℕ) → List ℕ → Type 0
IsWord most value = IsWithin 1 most (length value) × All IsNoBlank value

-- a slash, and any octets behind it
abbrev pub IsPath : List ℕ → Type 0
IsPath [] = ⊥
IsPath (first ∷ rest) = first ≡ 47

-- an entry of a list: 1 to 64 octets, any
abbrev pub IsEntry : List ℕ → Type 0
IsEntry entry = IsWithin 1 64 (length entry)

-- the entries of a list: at most 1,000
abbrev pub AreEntries : List (List ℕ) → Type 0
AreEntries entries = (length entries ≤ 1000) × All IsEntry entries

-- an address that a message can come from, which a record can keep
abbrev pub IsSender : Address → Type 0
IsSender address = (is_sendable address ≡ true) × IsAddress address

-- UTF-8 of at most so many characters
abbrev pub IsText : (most : ℕ) → List ℕ → Type 0
IsText most value = IsUtf8 value × (characters value ≤ most)
