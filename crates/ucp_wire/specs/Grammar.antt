-- The grammar of frames (EMI/UCP 4.0): which operations and results there are, and the octets of each.
use Rattle.std.specs.Prelude.{◌≢◌, ℕ, ◌+◌, ◌≤◌, Bool, true, false, if◌then◌else◌, List, [], ◌∷◌, ◌++◌, length, All}
use Rattle.exact_octets.specs.Fronts.{IsSpelled}
use Rattle.exact_text.specs.Text.{decimal, hex_octet, checksum}
use Rattle.ucp_wire.specs.declared.pdu.Pdu.{Pdu}

-- an operation or a result: its number (TRN), which of both it is (O or R), its operation (OT), the text of its fields
pub record Command : Type 0 where
  pub trn : ℕ
  pub result : Bool
  pub operation : ℕ
  pub fields : List ℕ

-- the command that a PDU says
abbrev pub command_of : Pdu → Command
command_of pdu = record { trn = pdu.trn; result = pdu.result; operation = pdu.operation; fields = pdu.fields.now }

-- ---- what stands in a frame

-- STX (02) begins a frame, ETX (03) ends one
abbrev pub stx : ℕ
stx = 2

abbrev pub etx : ℕ
etx = 3

-- a slash ends a field
abbrev pub slash : ℕ
slash = 47

-- a character of a field: neither STX nor ETX
abbrev pub IsCharacter : ℕ → Type 0
IsCharacter octet = (octet ≢ 2) × (octet ≢ 3)

-- O for an operation, R for a result
abbrev pub kind_code : Bool → ℕ
kind_code result = if result then 82 else 79

abbrev pub kinds : List Bool
kinds = false ∷ true ∷ []

-- ---- the frames

-- LEN: how many characters stand between STX and ETX, 17 beside the fields
abbrev pub length_of : Command → ℕ
length_of c = 17 + length c.fields

-- TRN and OT have two digits, and LEN is at most 2046
pub record IsCommand (c : Command) : Type 0 where
  pub trn : c.trn ≤ 99
  pub operation : c.operation ≤ 99
  pub fields : All IsCharacter c.fields
  pub len : length_of c ≤ 2046

-- a field with the slash behind it
abbrev pub ended : List ℕ → List ℕ
ended field = field ++ slash ∷ []

-- what is summed: all characters behind STX up to and with the last slash
abbrev pub summed : Command → List ℕ
summed c = ended (decimal 2 c.trn) ++ (ended (decimal 5 (length_of c)) ++ (ended (kind_code c.result ∷ []) ++ (ended (decimal 2 c.operation) ++ ended c.fields)))

-- what stands before the checksum
abbrev pub head : Command → List ℕ
head c = stx ∷ summed c

-- the frame: behind the head the low eight bits of the sum in two hex digits, and ETX
abbrev pub frame : Command → List ℕ
frame c = head c ++ (hex_octet (checksum (summed c)) ++ etx ∷ [])

-- the head in two: up to LEN, and from O or R on
abbrev pub begin : Command → List ℕ
begin c = stx ∷ (ended (decimal 2 c.trn) ++ ended (decimal 5 (length_of c)))

abbrev pub behind_length : Command → List ℕ
behind_length c = ended (kind_code c.result ∷ []) ++ (ended (decimal 2 c.operation) ++ ended c.fields)

-- octets that are a frame
abbrev pub IsFrame : List ℕ → Type 0
IsFrame octets = IsSpelled IsCommand frame octets
