-- The text of an internal id.
use Rattle.std.specs.Prelude.{ℕ, ◌+◌, ◌*◌, ◌^◌, List}
use Rattle.std.specs.Int.{w128, to_be_bytes}
use Rattle.uuid.specs.Text.{hyphenated_text, lower}

-- the birth of the store and a number of its messages, as a UUID in lower case (RFC 9562 4)
abbrev pub id_text : (birth number : ℕ) → List ℕ
id_text birth number = hyphenated_text lower (to_be_bytes w128 (birth * 2 ^ 64 + number))
