-- What a form that was read lies within, to be read beside the table of docs/FORMATS.md. Bounds are counted in.
use Rattle.std.specs.Prelude.{◌≤◌, length, All}
use Rattle.sms_record.specs.declared.address.Address.{Address}
use Rattle.sms_record.specs.declared.address.Address.TheVariants.{Number, Text}
use Rattle.sms_record.specs.declared.sms.Sms.{Sms}
use Rattle.sms_record.specs.Record.{IsAddress, IsOfCoding, IsSms}
use Rattle.config_values.specs.Forms.{IsWithin, IsSender}
use Rattle.sendsms_form.specs.Variables.{most_receivers, most_udh}
use Rattle.sendsms_form.specs.declared.form.Form.{Form}

-- a receiver is a number
abbrev pub IsReceiver : Address → Type 0
IsReceiver (Number plus digits) = IsAddress (Number plus digits)
IsReceiver (Text octets) = ⊥

-- What the messages of a form have in common: each field is one that a record keeps, a message can come from the sender, and the header is
-- no longer than a request's may be.
pub record IsModel (model : Sms) : Type 0 where
  pub sms : IsSms model
  pub sender : IsSender model.sender
  pub udh_len : length model.udh ≤ most_udh

pub record IsForm (form : Form) : Type 0 where
  pub many : IsWithin 1 most_receivers (length form.receivers)
  pub receivers : All IsReceiver form.receivers
  pub model : IsModel form.model
  pub body : IsOfCoding form.model.coding form.body
