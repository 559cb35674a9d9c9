-- How many octets an entry has.
use Rattle.std.specs.Prelude.{ℕ, ◌+◌, ◌*◌, ◌-◌, ◌^◌, min}
use Rattle.sms_record.specs.Limits.{most_address_text, most_header, most_body, most_name, most_url}
pub use Rattle.gate_entries.specs.Entry.{parts_of}

-- a number, or the greatest of 64 bits where it is more
abbrev pub capped : ℕ → ℕ
capped n = min n (2 ^ 64 - 1)

-- how many octets a record has at most: two addresses, a header, a body, three names and a URL, and 34 besides
abbrev pub most_record : ℕ
most_record = 34 + 2 * most_address_text + most_header + most_body + 3 * most_name + most_url

-- how many octets an entry has at most beside the messages that it hands in: a text and a record, as one that arrived
abbrev pub most_alone : ℕ
most_alone = 2051 + most_record
