-- The data coding scheme of a message (GSM 03.38, section 4).
use Rattle.std.specs.Prelude.{ℕ, ◌+◌, ◌/◌, ◌%◌, ◌==◌, nat_lt, Option, Some, None, if◌then◌else◌}
use Rattle.sms_record.specs.declared.coding.Coding.{Coding}
use Rattle.sms_record.specs.declared.coding.Coding.TheVariants.{Seven, Eight, Ucs2}

-- the coding of bits 3 and 2; the reserved value is read as octets
abbrev pub coding_bits : ℕ → Coding
coding_bits bits = if bits == 0 then Seven else if bits == 2 then Ucs2 else Eight

-- below C0 the groups of general data coding, those that are reserved among them; then the groups of waiting messages, discarded or stored
-- in septets, and stored in UCS-2; at last that of coding and class
abbrev pub coding_in : ℕ → Coding
coding_in dcs =
    if nat_lt dcs 192 then coding_bits (dcs / 4 % 4) else
    if nat_lt dcs 224 then Seven else
    if nat_lt dcs 240 then Ucs2 else
    if dcs / 4 % 2 == 1 then Eight else Seven

-- the class of bits 1 and 0, where bit 4 says that they mean one, and always in the last group
abbrev pub class_in : ℕ → Option ℕ
class_in dcs =
    if nat_lt dcs 192 then (if dcs / 16 % 2 == 1 then Some (dcs % 4) else None) else
    if nat_lt dcs 240 then None else Some (dcs % 4)

-- how a message is sent: its coding, and its class where it has one
abbrev pub coding_code : Coding → ℕ
coding_code Seven = 0
coding_code Eight = 4
coding_code Ucs2 = 8

abbrev pub class_code : Option ℕ → ℕ
class_code None = 0
class_code (Some class) = 16 + class

abbrev pub dcs_of : Coding → Option ℕ → ℕ
dcs_of coding class = coding_code coding + class_code class
