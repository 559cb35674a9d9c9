-- The limits of an entry's fields (docs/FORMATS.md, "Entries").
use Rattle.std.specs.Prelude.{ℕ}

-- messages of one entry
abbrev pub most_messages : ℕ
most_messages = 5000

-- arrivals that one entry answers
abbrev pub most_arrivals : ℕ
most_arrivals = 255

-- octets of an SMSC id, a foreign id and a report's text
abbrev pub most_text : ℕ
most_text = 2048
