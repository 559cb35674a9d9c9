-- What a request asks: the parts of a message, or the answer that refuses it.
use Rattle.std.specs.Prelude.{ℕ, not, if◌then◌else◌, bytes_eq, List, Option, Some, None, Result, Ok, Err}
use Rattle.config_groups.specs.declared.settings.Settings.{Settings}
use Rattle.config_groups.specs.declared.settings.user.User.{User}
use Rattle.sms_record.specs.declared.sms.Sms.{Sms}
use Rattle.http_text.specs.declared.answer.Answer.{Answer}
use Rattle.http_text.specs.declared.answer.Answer.TheVariants.{BadRequest, UnknownPath, Unauthorized}
use Rattle.http_text.specs.declared.answer.spot.Spot.TheVariants.{Head, Method, Body}
use Rattle.http_text.specs.declared.head.Head as heads
use Rattle.sendsms_form.specs.declared.form.Form.{Form}
use Rattle.sendsms_form.specs.declared.pairs.Pair.{Pair}
use Rattle.sendsms_form.specs.Form.{form_of}
use Rattle.sendsms_form.specs.Pairs.{pairs}
use Rattle.sendsms_form.specs.Messages.{messages_of}
use Rattle.sms_record.specs.declared.address.Address.{Address}
use Rattle.sendsms_http.specs.Target.{is_path, path_of, query_of}
use Rattle.sendsms_http.specs.Users.{user_of}

-- the messages of a form, or the answer that refuses it
abbrev pub parts : User → ℕ → Result Form Answer → Result (List Sms) Answer
parts user now (Ok form) = messages_of user form now
parts user now (Err answer) = Err answer

-- what a form asks, by whose it is; this is the sender of messages that name none
abbrev pub asked_by : Option User → (common : Option Address) → ℕ → List Pair → Result (List Sms) Answer
asked_by None common now given = Err Unauthorized
asked_by (Some user) common now given = parts user now (form_of user common given)

-- what the form of a query asks under these settings
abbrev pub asked_of : Settings → ℕ → List Pair → Result (List Sms) Answer
asked_of settings now given = asked_by (user_of settings.users given) settings.smsbox.global_sender now given

-- What a request asks at a reading of the clock, or the first that is wrong with it: its target, its method, a body, its path, its
-- user, its form.
unfoldable pub asked : Settings → heads.Head → ℕ → Result (List Sms) Answer
asked settings head now =
    if not (is_path head.target) then Err (BadRequest Head) else
    if not head.get then Err (BadRequest Method) else
    if head.body then Err (BadRequest Body) else
    if not (bytes_eq (path_of head.target) settings.smsbox.sendsms_url) then Err UnknownPath else
    asked_of settings now (pairs (query_of head.target))
