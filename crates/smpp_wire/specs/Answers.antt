-- What reading a frame answers: one stands at the front, one may still come, or none can.
use Rattle.std.specs.Prelude.{◌≡◌, ℕ, List, ◌++◌, length, take, nat_lt, if◌then◌else◌}
use Rattle.exact_octets.specs.Fronts.{IsProperFront, BreaksOffAt}
use Rattle.smpp_wire.specs.declared.frame.Frame.{Frame}
use Rattle.smpp_wire.specs.declared.frame.Frame.TheVariants as answer
use Rattle.smpp_wire.specs.Limits.{bad_body, bad_length}
use Rattle.smpp_wire.specs.Command.{Command, command_of}
use Rattle.smpp_wire.specs.Grammar.{IsCommand, frame, IsFrame}

-- the answer is this command and the length of its frame
abbrev pub IsWhole : Command → Frame → Type 0
IsWhole command (answer.Whole pdu len) = (command_of pdu ≡ command) × (len ≡ length (frame command))
IsWhole command answer.NeedMore = ⊥
IsWhole command (answer.Bad at code) = ⊥

-- how octets are refused whose longest front that begins a frame has so many octets: within command_length, the length is
-- refused as a whole
abbrev pub refused : ℕ → Frame
refused at = if nat_lt at 4 then answer.Bad 0 bad_length else answer.Bad at bad_body

-- what an answer says of the octets
abbrev pub Tells : List ℕ → Frame → Type 0
Tells octets (answer.Whole pdu len) = IsCommand (command_of pdu) × (len ≡ length (frame (command_of pdu))) × (take len octets ≡ frame (command_of pdu))
Tells octets answer.NeedMore = IsProperFront IsFrame octets
Tells octets (answer.Bad at code) = (seen : ℕ) × BreaksOffAt IsFrame octets seen × (answer.Bad at code ≡ refused seen)

-- octets are read as this answer
pub record IsReadAs (octets : List ℕ) (result : Frame) : Type 0 where
  -- the answer is right
  pub told : Tells octets result
  -- Whole: wherever a frame stands first, whatever follows it
  pub whole : (command : Command) (rest : List ℕ) → IsCommand command → octets ≡ frame command ++ rest → IsWhole command result
  -- NeedMore: wherever something lacks of a frame
  pub need_more : IsProperFront IsFrame octets → result ≡ answer.NeedMore
  -- Bad: wherever the octets cease to begin a frame, at the first octet with which they do
  pub bad : (seen : ℕ) → BreaksOffAt IsFrame octets seen → result ≡ refused seen
