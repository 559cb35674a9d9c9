-- What reading a frame answers: one stands at the front, one may still come, or none can.
use Rattle.std.specs.Prelude.{◌≡◌, ◌⊎◌, ℕ, ◌+◌, ◌-◌, ◌<◌, Bool, true, ◌&&◌, ◌||◌, List, ◌++◌, length, take, get_or, nat_lt, if◌then◌else◌}
use Rattle.exact_octets.specs.Alphabet.{within}
use Rattle.exact_octets.specs.Fronts.{IsProperFront, BreaksOffAt}
use Rattle.ucp_wire.specs.declared.frame.Frame.{Frame}
use Rattle.ucp_wire.specs.declared.frame.Frame.TheVariants as answer
use Rattle.ucp_wire.specs.Grammar.{Command, command_of, IsCommand, head, frame, IsFrame}

-- 0 to 9, A to F
abbrev pub is_hex_digit : ℕ → Bool
is_hex_digit octet = within 48 57 octet || within 65 70 octet

-- how octets are refused that cease to begin a frame behind so many, at this octet, and whose checksum stands behind so many
abbrev pub refused : ℕ → ℕ → ℕ → Frame
refused at seen octet = if nat_lt (seen - at) 2 && is_hex_digit octet then answer.Bad at 1 else answer.Bad seen 2

-- the octets cease to begin a frame at a hex digit of the checksum, whose first digit stands behind so many
pub record HasWrongDigit (octets : List ℕ) (seen at : ℕ) : Type 0 where
  pub command : Command
  pub rest : List ℕ
  pub good : IsCommand command
  pub parts : octets ≡ head command ++ rest
  pub there : at ≡ length (head command)
  pub near : seen < at + 2
  pub digit : is_hex_digit (get_or octets seen 0) ≡ true

-- how octets are refused that cease to begin a frame behind so many: a wrong digit of the checksum has code 1 (7, error 01), and the
-- place of its first digit; all else has code 2 (7, error 02), and its own place
abbrev pub IsRefusal : List ℕ → ℕ → Frame → Type 0
IsRefusal octets seen (answer.Whole pdu len) = ⊥
IsRefusal octets seen answer.NeedMore = ⊥
IsRefusal octets seen (answer.Bad at code) =
    ((code ≡ 1) × HasWrongDigit octets seen at) ⊎ ((code ≡ 2) × (at ≡ seen) × ((n : ℕ) → HasWrongDigit octets seen n → ⊥))

-- the answer is this command and the length of its frame
abbrev pub IsWhole : Command → Frame → Type 0
IsWhole command (answer.Whole pdu len) = (command_of pdu ≡ command) × (len ≡ length (frame command))
IsWhole command answer.NeedMore = ⊥
IsWhole command (answer.Bad at code) = ⊥

-- what an answer says of the octets
abbrev pub Tells : List ℕ → Frame → Type 0
Tells octets (answer.Whole pdu len) = IsCommand (command_of pdu) × (len ≡ length (frame (command_of pdu))) × (take len octets ≡ frame (command_of pdu))
Tells octets answer.NeedMore = IsProperFront IsFrame octets
Tells octets (answer.Bad at code) = (seen : ℕ) × BreaksOffAt IsFrame octets seen × IsRefusal octets seen (answer.Bad at code)

-- octets are read as this answer
pub record IsReadAs (octets : List ℕ) (result : Frame) : Type 0 where
  -- the answer is right
  pub told : Tells octets result
  -- Whole: wherever a frame stands first, whatever follows it
  pub whole : (command : Command) (rest : List ℕ) → IsCommand command → octets ≡ frame command ++ rest → IsWhole command result
  -- NeedMore: wherever something lacks of a frame
  pub need_more : IsProperFront IsFrame octets → result ≡ answer.NeedMore
  -- Bad: wherever the octets cease to begin a frame
  pub bad : (seen : ℕ) → BreaksOffAt IsFrame octets seen → IsRefusal octets seen result
