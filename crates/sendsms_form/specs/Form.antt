-- The form of a request: a row a variable, in the order of docs/FORMATS.md, 'A request of sendsms', with its name, what an answer calls it,
-- and what it may hold. The first variable that is wrong is answered.
use Rattle.std.specs.Prelude.{ℕ, List, [], ◌∷◌, Option, None, Result, Ok}
use Rattle.config_groups.specs.declared.settings.user.User.{User}
use Rattle.http_text.specs.declared.answer.Answer.{Answer}
use Rattle.http_text.specs.declared.answer.spot.Spot.TheVariants as spot_is
use Rattle.kn_base.specs.declared.charset.Charset.{Charset}
use Rattle.kn_base.specs.declared.charset.Charset.TheVariants.{Utf8}
use Rattle.sms_record.specs.Limits.{last_class, most_mask, most_minutes, most_name, most_url}
use Rattle.sms_record.specs.declared.address.Address.{Address}
use Rattle.sms_record.specs.declared.address.Address.TheVariants.{Text}
use Rattle.sms_record.specs.declared.coding.Coding.{Coding}
use Rattle.sms_record.specs.declared.coding.Coding.TheVariants.{Seven}
use Rattle.sms_record.specs.declared.sms.Sms.{Sms}
use Rattle.sendsms_form.specs.declared.form.Form.{Form}
use Rattle.sendsms_form.specs.declared.pairs.Pair.{Pair}
use Rattle.sendsms_form.specs.Variables.{right, behind, value_of, number_given, number, octets, addresses_in, sender_by, coding_by, charset_of, header_in, first_of, mask_by, body_of}

-- ---- to, from

abbrev pub receivers_of : List Pair → Result (List Address) Answer
receivers_of given = right spot_is.To (addresses_in (value_of spot_is.To given))

abbrev pub sender_of : User → (common : Option Address) → List Pair → Result Address Answer
sender_of user common given = right spot_is.From (sender_by user.faked_sender (value_of spot_is.From given) user.default_sender common)

-- ---- coding, mclass, charset, udh

abbrev pub coding_of : List Pair → Result (Option ℕ) Answer
coding_of given = number_given spot_is.Coding 0 2 given

abbrev pub class_of : List Pair → Result (Option ℕ) Answer
class_of given = number_given spot_is.Mclass 0 last_class given

abbrev pub charset_for : Coding → List Pair → Result Charset Answer
charset_for coding given = right spot_is.Charset (charset_of coding (value_of spot_is.Charset given))

abbrev pub udh_of : List Pair → Result (List ℕ) Answer
udh_of given = right spot_is.Udh (header_in (value_of spot_is.Udh given))

unfoldable pub manner_of : List Pair → Sms → Result Sms Answer
manner_of given sms =
    behind (coding_of given) (λ number.
    behind (class_of given) (λ class.
    let coding = coding_by number (value_of spot_is.Udh given) in
    behind (charset_for coding given) (λ charset.
    behind (udh_of given) (λ udh.
    Ok (record sms { coding = coding; class = class; charset = charset; udh = udh })))))

-- ---- smsc, validity, deferred

-- the user's forced SMSC id, or else what is given, or else the user's own
abbrev pub smsc_by : (forced : List ℕ) → User → List Pair → Result (List ℕ) Answer
smsc_by (octet ∷ octets) user given = Ok (octet ∷ octets)
smsc_by [] user given = behind (octets spot_is.Smsc most_name given) (λ smsc. Ok (first_of smsc user.default_smsc))

abbrev pub smsc_of : User → List Pair → Result (List ℕ) Answer
smsc_of user given = smsc_by user.forced_smsc user given

unfoldable pub delivery_of : User → List Pair → Sms → Result Sms Answer
delivery_of user given sms =
    behind (smsc_of user given) (λ smsc.
    behind (number spot_is.Validity 1 most_minutes given) (λ validity.
    behind (number spot_is.Deferred 0 most_minutes given) (λ deferred.
    Ok (record sms { smsc = smsc; validity = validity; deferred = deferred }))))

-- ---- dlr-mask, dlr-url, account

unfoldable pub reports_of : List Pair → Sms → Result Sms Answer
reports_of given sms =
    behind (number spot_is.DlrMask 0 most_mask given) (λ mask.
    behind (octets spot_is.DlrUrl most_url given) (λ url.
    behind (octets spot_is.Account most_name given) (λ account.
    Ok (record sms { mask = mask_by mask url; url = url; account = account }))))

-- ---- text, and all together

-- a message of a service of which nothing but its sender is known
abbrev pub blank : (sender : Address) → (service : List ℕ) → Sms
blank sender service = record {
  sender = sender;
  receiver = Text [];
  coding = Seven;
  class = None;
  udh = [];
  body = [];
  total = 1;
  part = 1;
  smsc = [];
  validity = 0;
  deferred = 0;
  mask = 0;
  url = [];
  account = [];
  service = service;
  charset = Utf8;
  time = 0;
}

-- what the messages of a form have in common
unfoldable pub model_of : User → (common : Option Address) → List Pair → Result Sms Answer
model_of user common given =
    behind (sender_of user common given) (λ sender.
    behind (manner_of given (blank sender user.name)) (λ sms.
    behind (delivery_of user given sms) (λ sms.
    reports_of given sms)))

abbrev pub text_of : Sms → List Pair → Result (List ℕ) Answer
text_of model given = right spot_is.Text (body_of model.coding model.charset (value_of spot_is.Text given))

-- the form of a user's request, where this is the sender of messages that name none, or the answer that refuses it
unfoldable pub form_of : User → (common : Option Address) → List Pair → Result Form Answer
form_of user common given =
    behind (receivers_of given) (λ receivers.
    behind (model_of user common given) (λ model.
    behind (text_of model given) (λ body.
    Ok (record { receivers = receivers; model = model; body = body }))))
