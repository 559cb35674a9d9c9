-- What is replied to an entry that was recorded.
use Rattle.std.specs.Prelude.{◌+◌, Bool, true, false, ◌==◌, is_some, List, [], ◌∷◌, length}
use Rattle.sms_record.specs.declared.sms.Sms.{Sms}
use Rattle.route_rules.specs.declared.rules.Rules.{Rules}
use Rattle.route_rules.specs.Routes.{pool}
use Rattle.dlr_table.specs.Reports.{oldest}
use Rattle.gate_entries.specs.declared.recorded.Recorded.{Recorded}
use Rattle.gate_entries.specs.declared.recorded.Recorded.TheVariants as entry
use Rattle.gate_model.specs.declared.reply.Reply.{Reply}
use Rattle.gate_model.specs.declared.reply.Reply.TheVariants.{Accepted, Noted}
use Rattle.gate_model.specs.State.{State}

-- there is a first message, and no link that is up suits it
abbrev pub is_queued : Rules → State → List Sms → Bool
is_queued rules state [] = false
is_queued rules state (first ∷ rest) = length (pool rules state.up first) == 0

-- messages were accepted under the next numbers
abbrev pub accepted : Rules → State → List Sms → Reply
accepted rules state parts = Accepted (state.last_message + 1) (length parts) (is_queued rules state parts)

-- the reply to an entry that is recorded in a state
abbrev pub reply_to : Rules → State → Recorded → Reply
reply_to rules state (entry.Accept accept) = accepted rules state accept.parts
reply_to rules state (entry.Answered answered) = accepted rules state answered.parts
reply_to rules state (entry.Reported reported) = Noted (is_some (oldest (state.awaited reported.smsc reported.foreign)))
reply_to rules state other = Noted true
