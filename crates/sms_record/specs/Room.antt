-- How much of a body fits beside a header in one short message, whose user data has at most 140 octets (GSM 03.40 9.2.3.16).
use Rattle.std.specs.Prelude.{ℕ, ◌+◌, ◌-◌, ◌*◌, ◌/◌, nat_lt, ◌==◌, if◌then◌else◌}
use Rattle.sms_record.specs.declared.coding.Coding.{Coding}
use Rattle.sms_record.specs.declared.coding.Coding.TheVariants.{Seven, Eight, Ucs2}

-- how many units of a body fit beside a header of so many octets: septets, octets, or UCS-2 units
abbrev pub cap : Coding → ℕ → ℕ
cap Seven header = (140 - header) * 8 / 7
cap Eight header = 140 - header
cap Ucs2 header = (140 - header) / 2

-- how many octets the header that goes out has, from those of the requester's own and the number of parts:
-- with more than one part an element of 5 octets joins them, behind a first octet where there is no other (GSM 03.40 9.2.3.24.1)
abbrev pub header_len : ℕ → ℕ → ℕ
header_len own total = if nat_lt 1 total then (if own == 0 then 6 else own + 5) else own
