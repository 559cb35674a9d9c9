-- The optional parameters of a receipt (SMPP 3.4, 5.3.2).
use Rattle.std.specs.Prelude.{ℕ}

-- receipted_message_id (SMPP 3.4, 5.3.2.12)
abbrev pub receipted_message_id : ℕ
receipted_message_id = 0x001E

-- message_state (SMPP 3.4, 5.3.2.35)
abbrev pub message_state : ℕ
message_state = 0x0427

-- octets of an id that are kept (docs/FORMATS.md)
abbrev pub most_id : ℕ
most_id = 256
