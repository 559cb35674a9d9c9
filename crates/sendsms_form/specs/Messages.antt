-- The messages that a form asks for: the parts of its text, to each receiver.
use Rattle.std.specs.Prelude.{ℕ, List, length, map, Result, Ok, Err}
use Rattle.std.specs.List.{flat_map}
use Rattle.concat_split.specs.declared.limits.Limits.{Limits}
use Rattle.concat_split.specs.declared.part.Part.{Part}
use Rattle.concat_split.specs.declared.split_fault.SplitFault.{SplitFault}
use Rattle.concat_split.specs.Parts.{parts_of}
use Rattle.config_groups.specs.declared.settings.user.User.{User}
use Rattle.http_text.specs.declared.answer.Answer.{Answer}
use Rattle.http_text.specs.declared.answer.Answer.TheVariants.{BadRequest}
use Rattle.http_text.specs.declared.answer.spot.Spot.TheVariants as spot_is
use Rattle.kn_base.specs.declared.charset.Charset.TheVariants.{Utf8}
use Rattle.sendsms_form.specs.declared.form.Form.{Form}
use Rattle.sendsms_form.specs.Variables.{body_in}
use Rattle.sms_record.specs.declared.address.Address.{Address}
use Rattle.sms_record.specs.declared.coding.Coding.{Coding}
use Rattle.sms_record.specs.declared.sms.Sms.{Sms}

-- how a user's messages of a coding may be split: the settings' texts, which are UTF-8, are brought into that coding
abbrev pub limits_of : User → Coding → Limits
limits_of user coding = record {
  parts = user.max_messages;
  concatenate = user.concatenation;
  split_chars = body_in coding Utf8 user.split_chars;
  suffix = body_in coding Utf8 user.split_suffix;
  header = body_in coding Utf8 user.header;
  footer = body_in coding Utf8 user.footer;
}

-- one part of a form to one receiver, at a reading of the clock
abbrev pub message : Form → ℕ → Address → Part → Sms
message form now receiver part =
    record (form.model) { receiver = receiver; body = part.body; total = part.total; part = part.part; time = now }

-- the parts to the first receiver in their order, then those to the second, and so on
abbrev pub to_each : Form → ℕ → List Address → List Part → List Sms
to_each form now receivers parts = flat_map (λ receiver. map (message form now receiver) parts) receivers

-- a text that has no room in a part is no text that the variable may hold
abbrev pub messages_by : Form → ℕ → Result (List Part) SplitFault → Result (List Sms) Answer
messages_by form now (Ok parts) = Ok (to_each form now form.receivers parts)
messages_by form now (Err fault) = Err (BadRequest spot_is.Text)

-- the parts of a user's form
abbrev pub parts_in : User → Form → Result (List Part) SplitFault
parts_in user form =
    parts_of form.model.coding form.body (length form.model.udh) (limits_of user form.model.coding)

-- the messages that a user's form asks for, or the answer that refuses it
unfoldable pub messages_of : User → Form → ℕ → Result (List Sms) Answer
messages_of user form now = messages_by form now (parts_in user form)
