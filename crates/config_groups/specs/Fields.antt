-- One field of the settings, by the first variable of a name in its group, and by what stands for it where there is none.
use Rattle.std.specs.Prelude.{ℕ, ◌-◌, ◌^◌, min, Bool, List, [], Option, Some, None, option_map}
use Rattle.sms_record.specs.declared.address.Address.{Address}
use Rattle.config_values.specs.Values.{number_of, truth_of, entries, sender_of}
use Rattle.config_groups.specs.declared.group.Set.{Set}
use Rattle.config_groups.specs.Roles.{first}

abbrev pub value_by : (unset : List ℕ) → Option Set → List ℕ
value_by unset (Some set) = set.value
value_by unset None = unset

-- the value of a name
unfoldable pub value : (name unset : List ℕ) → List Set → List ℕ
value name unset group = value_by unset (first name group)

-- the same, empty where there is none
abbrev pub octets : (name : List ℕ) → List Set → List ℕ
octets name group = value name [] group

-- the same, where there is one
unfoldable pub optional : (name : List ℕ) → List Set → Option (List ℕ)
optional name group = option_map (λ set. set.value) (first name group)

abbrev pub number_by : (unset : ℕ) → Option Set → ℕ
number_by unset (Some set) = number_of set.value
number_by unset None = unset

-- the number of a name
unfoldable pub number : (name : List ℕ) → (unset : ℕ) → List Set → ℕ
number name unset group = number_by unset (first name group)

-- the same as a number of 32 bits: the table allows no greater one
unfoldable pub small : (name : List ℕ) → (unset : ℕ) → List Set → ℕ
small name unset group = min (number name unset group) (2 ^ 32 - 1)

-- the same as a port: the table allows no greater one
unfoldable pub port : (name : List ℕ) → (unset : ℕ) → List Set → ℕ
port name unset group = min (number name unset group) 65535

abbrev pub told : (unset : Bool) → Option Bool → Bool
told unset (Some truth) = truth
told unset None = unset

abbrev pub truth_by : (unset : Bool) → Option Set → Bool
truth_by unset (Some set) = told unset (truth_of set.value)
truth_by unset None = unset

-- the truth of a name
unfoldable pub truth : (name : List ℕ) → (unset : Bool) → List Set → Bool
truth name unset group = truth_by unset (first name group)

-- the entries of a name's list, none where there is no such variable
unfoldable pub list : (name : List ℕ) → List Set → List (List ℕ)
list name group = entries (octets name group)

-- the address of a name, none where there is no such variable
unfoldable pub sender : (name : List ℕ) → List Set → Option Address
sender name group = sender_of (octets name group)
