-- How a record is read.
use Rattle.std.specs.Prelude.{ℕ, zero, suc, true, false, List, Option, nat_lt, if◌then◌else◌}
use Rattle.kn_base.specs.declared.charset.Charset.{Charset}
use Rattle.exact_octets.specs.declared.alphabet.Alphabet.{Alphabet}
use Rattle.exact_octets.specs.declared.alphabet.Alphabet.TheVariants.{Any, Septet, Digit}
use Rattle.exact_octets.specs.declared.number.Numbers.{Numbers}
use Rattle.exact_octets.specs.Alphabet.{within}
use Rattle.exact_octets.specs.Numbers.{from_to, even_up_to}
use Rattle.exact_octets.specs.Reading.{Reader, both, made, octet_at, number_at, short_at, counted_at, code_at, kind_at}
use Rattle.sms_record.specs.declared.address.Address.{Address}
use Rattle.sms_record.specs.declared.address.Address.TheVariants.{Number, Text}
use Rattle.sms_record.specs.declared.coding.Coding.{Coding}
use Rattle.sms_record.specs.declared.coding.Coding.TheVariants.{Seven, Eight, Ucs2}
use Rattle.sms_record.specs.declared.sms.Sms.{Sms}
use Rattle.sms_record.specs.Limits.{most_digits, most_address_text, most_parts, most_mask, most_minutes, last_time, most_body, most_name, most_url}
use Rattle.sms_record.specs.declared.record.marks.Marks.{Marks}
use Rattle.sms_record.specs.declared.record.times.Times.{Times}
use Rattle.sms_record.specs.declared.record.heading.Heading.{Heading}
use Rattle.sms_record.specs.declared.record.names.Names.{Names}
use Rattle.sms_record.specs.declared.record.contents.Contents.{Contents}
use Rattle.sms_record.specs.Codes.{codings, coding_code, classes, class_code, charsets, charset_code}
use Rattle.sms_record.specs.HeaderReading.{udh_at}

-- ---- addresses

-- the digits of a number, or a text, by the kind
abbrev pub address_text_at : ℕ → Reader (List ℕ)
address_text_at kind = if nat_lt kind 2 then short_at 1 most_digits Digit else short_at 0 most_address_text Any

abbrev pub address_of : ℕ → List ℕ → Address
address_of zero text = Number false text
address_of (suc zero) text = Number true text
address_of (suc (suc kind)) text = Text text

unfoldable pub address_at : Reader Address
address_at = kind_at (within 0 2) (λ kind. made (address_of kind) (address_text_at kind))

-- ---- marks

unfoldable pub coding_at : Reader Coding
coding_at = code_at coding_code codings

unfoldable pub class_at : Reader (Option ℕ)
class_at = code_at class_code classes

unfoldable pub charset_at : Reader Charset
charset_at = code_at charset_code charsets

abbrev pub marks_of : Coding × (Option ℕ × (Charset × (ℕ × (ℕ × ℕ)))) → Marks
marks_of x = record { coding = x.0; class = x.1.0; charset = x.1.1.0; total = x.1.1.1.0; part = x.1.1.1.1.0; mask = x.1.1.1.1.1 }

unfoldable pub marks_at : Reader Marks
marks_at =
    made marks_of
    (both coding_at (λ coding. both class_at (λ class. both charset_at (λ charset.
    both (octet_at (within 1 most_parts)) (λ total. both (octet_at (within 1 total)) (λ part. octet_at (within 0 most_mask)))))))

-- ---- times

abbrev pub times_of : ℕ × (ℕ × ℕ) → Times
times_of x = record { validity = x.0; deferred = x.1.0; time = x.1.1 }

unfoldable pub times_at : Reader Times
times_at =
    made times_of
    (both (number_at 4 (from_to 0 most_minutes)) (λ validity. both (number_at 4 (from_to 0 most_minutes)) (λ deferred. number_at 8 (from_to 0 last_time))))

-- ---- the heading

abbrev pub heading_of : Address × (Address × (Marks × Times)) → Heading
heading_of x = record { sender = x.0; receiver = x.1.0; marks = x.1.1.0; times = x.1.1.1 }

unfoldable pub heading_at : Reader Heading
heading_at =
    made heading_of
    (both address_at (λ sender. both address_at (λ receiver. both marks_at (λ marks. times_at))))

-- ---- the body and the names

-- the octets of a body
abbrev pub alphabet_of : Coding → Alphabet
alphabet_of Seven = Septet
alphabet_of Eight = Any
alphabet_of Ucs2 = Any

-- how many octets a body may have
abbrev pub body_lens : Coding → Numbers
body_lens Seven = from_to 0 most_body
body_lens Eight = from_to 0 most_body
body_lens Ucs2 = even_up_to most_body

abbrev pub body_at : Coding → Reader (List ℕ)
body_at coding = counted_at 2 (body_lens coding) (alphabet_of coding)

abbrev pub names_of : List ℕ × (List ℕ × (List ℕ × List ℕ)) → Names
names_of x = record { smsc = x.0; url = x.1.0; account = x.1.1.0; service = x.1.1.1 }

unfoldable pub names_at : Reader Names
names_at =
    made names_of
    (both (short_at 0 most_name Any) (λ smsc. both (counted_at 2 (from_to 0 most_url) Any) (λ url. both (short_at 0 most_name Any) (λ account. short_at 0 most_name Any))))

abbrev pub contents_of : List ℕ × (List ℕ × Names) → Contents
contents_of x = record { udh = x.0; body = x.1.0; names = x.1.1 }

unfoldable pub contents_at : Coding → Reader Contents
contents_at coding =
    made contents_of
    (both udh_at (λ udh. both (body_at coding) (λ body. names_at)))

-- ---- the message

abbrev pub sms_of : Heading → Contents → Sms
sms_of heading contents = record {
  sender = heading.sender;
  receiver = heading.receiver;
  coding = heading.marks.coding;
  class = heading.marks.class;
  udh = contents.udh;
  body = contents.body;
  total = heading.marks.total;
  part = heading.marks.part;
  smsc = contents.names.smsc;
  validity = heading.times.validity;
  deferred = heading.times.deferred;
  mask = heading.marks.mask;
  url = contents.names.url;
  account = contents.names.account;
  service = contents.names.service;
  charset = heading.marks.charset;
  time = heading.times.time;
}

unfoldable pub sms_at : Reader Sms
sms_at = made (λ x. sms_of x.0 x.1) (both heading_at (λ heading. contents_at heading.marks.coding))

-- the parts that a message is made of
abbrev pub heading_in : Sms → Heading
heading_in sms = record {
  sender = sms.sender;
  receiver = sms.receiver;
  marks = record { coding = sms.coding; class = sms.class; charset = sms.charset; total = sms.total; part = sms.part; mask = sms.mask };
  times = record { validity = sms.validity; deferred = sms.deferred; time = sms.time };
}

abbrev pub names_in : Sms → Names
names_in sms = record { smsc = sms.smsc; url = sms.url; account = sms.account; service = sms.service }

abbrev pub contents_in : Sms → Contents
contents_in sms = record { udh = sms.udh; body = sms.body; names = names_in sms }
