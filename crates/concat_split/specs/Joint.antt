-- What a user data header says of concatenation (GSM 03.40 9.2.3.24.1).
use Rattle.std.specs.Prelude.{◌≡◌, ◌≢◌, ◌⊎◌, ℕ, ◌≤◌, ◌==◌, List, [], ◌∷◌, ◌++◌, length, take, Option, Some, None, if◌then◌else◌}
use Rattle.std.specs.Option.{option_or}
use Rattle.sms_record.specs.Header.{Element, header, IsHeader}
use Rattle.concat_split.specs.declared.joint.Joint.{Joint}
use Rattle.concat_split.specs.declared.header_fault.HeaderFault.{HeaderFault}
use Rattle.concat_split.specs.declared.header_fault.HeaderFault.TheVariants.{Malformed}

-- the value of an element for concatenated short messages: reference, total, part (GSM 03.40 9.2.3.24.1)
abbrev pub joint_value : List ℕ → Option Joint
joint_value (reference ∷ total ∷ part ∷ []) = Some (record { reference = reference; total = total; part = part })
joint_value _ = None

-- what an element says, where its identifier is 00 and its value has three octets
abbrev pub joint_of : Element → Option Joint
joint_of e = if e.id == 0 then joint_value e.value else None

-- what the first such element says
abbrev pub first_joint : List Element → Option Joint
first_joint [] = None
first_joint (e ∷ es) = option_or (joint_of e) (first_joint es)

-- what a header says of concatenation; none says nothing
abbrev pub Says : List ℕ → Option Joint → Type 0
Says udh joint = ((udh ≡ []) × (joint ≡ None)) ⊎ ((es : List Element) × (udh ≡ header es) × (joint ≡ first_joint es))

-- ---- octets that are no header

-- a well-formed header begins with it
abbrev pub BeginsHeader : List ℕ → Type 0
BeginsHeader front = (rest : List ℕ) × IsHeader (front ++ rest)

-- these octets are neither empty nor a header, and their longest front that begins one has so many
pub record IsMalformedAt (udh : List ℕ) (at : ℕ) : Type 0 where
  pub not_empty : udh ≢ []
  pub no_header : IsHeader udh → ⊥
  pub within : at ≤ length udh
  pub begins : BeginsHeader (take at udh)
  pub longest : (n : ℕ) → n ≤ length udh → BeginsHeader (take n udh) → n ≤ at

-- the fault is at that place
abbrev pub IsFaultOf : List ℕ → HeaderFault → Type 0
IsFaultOf udh (Malformed at) = IsMalformedAt udh at
