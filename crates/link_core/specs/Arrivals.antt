-- A message as a frame says it, whatever the protocol (docs/FORMATS.md, 'Messages that are heard').
use Rattle.std.specs.Prelude.{ℕ, ◌%◌, ◌-◌, ◌||◌, Bool, List, [], length, map, take, Option, if◌then◌else◌}
use Rattle.kn_base.specs.declared.charset.Charset.{Charset}
use Rattle.kn_base.specs.declared.charset.Charset.TheVariants.{Utf8, Utf16Be}
use Rattle.sms_record.specs.declared.address.Address.{Address}
use Rattle.sms_record.specs.declared.address.Address.TheVariants.{Number, Text}
use Rattle.sms_record.specs.declared.coding.Coding.{Coding}
use Rattle.sms_record.specs.declared.coding.Coding.TheVariants.{Seven, Eight, Ucs2}
use Rattle.sms_record.specs.Limits.{most_body, most_digits, most_address_text}
use Rattle.sms_record.specs.declared.sms.Sms.{Sms}
use Rattle.config_values.specs.Values.{is_digits, has_plus, behind_plus}

-- the charset of what is told of a message
abbrev pub charset_of : Coding → Charset
charset_of Seven = Utf8
charset_of Eight = Utf8
charset_of Ucs2 = Utf16Be

-- a message of which nothing else is known: whole, for nobody's account, without reports, limits, a time or an SMSC id
abbrev pub arrival_of : (sender receiver : Address) → Coding → (class : Option ℕ) → (udh body : List ℕ) → Sms
arrival_of sender receiver coding class udh body = record {
  sender = sender;
  receiver = receiver;
  coding = coding;
  class = class;
  udh = udh;
  body = body;
  total = 1;
  part = 1;
  smsc = [];
  validity = 0;
  deferred = 0;
  mask = 0;
  url = [];
  account = [];
  service = [];
  charset = charset_of coding;
  time = 0;
}

-- an address: a number is an optional + and 1 to 15 decimal digits, and has a + where its frame says that it is international; all else is a text
abbrev pub address_of : (international : Bool) → List ℕ → Address
address_of international text =
    if is_digits most_digits (behind_plus text) then Number (international || has_plus text) (behind_plus text) else Text (take most_address_text text)

-- a body of a coding: septets lose their top bits, units of two octets an octet that is left over, and all what passes the most octets of a body
abbrev pub body_of : Coding → List ℕ → List ℕ
body_of Seven octets = map (λ octet. octet % 128) (take most_body octets)
body_of Eight octets = take most_body octets
body_of Ucs2 octets = let kept = take most_body octets in take (length kept - length kept % 2) kept
