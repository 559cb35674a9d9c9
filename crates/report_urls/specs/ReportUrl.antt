-- The URL that is called for a report: that of the message's own request, with its escapes filled.
use Rattle.std.specs.Prelude.{ℕ, Bool, ◌&&◌, ◌||◌, not, ◌==◌, List, codes, Option, Some, None, if◌then◌else◌}
use Rattle.std.specs.Int.RustNames.{bit_and}
use Rattle.kn_base.specs.declared.charset.Charset.{Charset}
use Rattle.kn_base.specs.declared.charset.Charset.TheVariants.{Utf8, Latin1, Utf16Be}
use Rattle.sms_record.specs.Codes.{coding_code}
use Rattle.sms_record.specs.declared.kind.Kind.{Kind}
use Rattle.sms_record.specs.declared.kind.Kind.TheVariants.{Delivered, Undelivered, Buffered}
use Rattle.sms_record.specs.declared.sms.Sms.{Sms}
use Rattle.route_rules.specs.Routes.{written}
use Rattle.gate_entries.specs.Entry.{kind_value}
use Rattle.url_escapes.specs.Expansion.{expanded}
use Rattle.url_escapes.specs.Identity.{id_text}
use Rattle.url_escapes.specs.Value.{first_word}
use Rattle.url_escapes.specs.Words.{words, is_filled}
use Rattle.url_escapes.specs.declared.facts.Facts.{Facts}
use Rattle.url_escapes.specs.declared.style.Style.TheVariants.{Url}
use Rattle.report_urls.specs.declared.report.Report.{Report}

-- the name of a charset
abbrev pub charset_name : Charset → List ℕ
charset_name Utf8 = codes "UTF-8"
charset_name Latin1 = codes "ISO-8859-1"
charset_name Utf16Be = codes "UTF-16BE"

-- What escapes stand for in a report on the message of a number, in the store of this birth. The parties, the name, the coding, the class, the
-- charset, the header and the account are the request's; the words are those of the report, which says the link, the id and the time too.
abbrev pub report_facts : (birth : ℕ) → Report → (number : ℕ) → Sms → Facts
report_facts birth report number sms = record {
  keyword = first_word (words report.text);
  words = words report.text;
  message = report.text;
  time = report.time;
  sender = written sms.sender;
  receiver = written sms.receiver;
  smsc = report.smsc;
  internal = id_text birth number;
  value = kind_value report.kind;
  answer = report.answer;
  foreign = report.foreign;
  name = sms.service;
  coding = coding_code sms.coding;
  class = sms.class;
  charset = charset_name sms.charset;
  udh = sms.udh;
  account = sms.account;
}

-- a message's mask has the bit of a kind of reports
abbrev pub asks_for : Kind → Sms → Bool
asks_for kind sms = not (bit_and sms.mask (kind_value kind) == 0)

-- a centre is still to report on a message that it took: that it is delivered, or isn't, or is buffered
abbrev pub asks_centre : Sms → Bool
asks_centre sms = asks_for Delivered sms || asks_for Undelivered sms || asks_for Buffered sms

-- the URL for a report on the message of a number: where the mask asks for that kind, and there is a URL, that one with its escapes filled
abbrev pub report_url : (birth : ℕ) → Report → (number : ℕ) → Sms → Option (List ℕ)
report_url birth report number sms =
    if asks_for report.kind sms && is_filled sms.url then Some (expanded sms.url (report_facts birth report number sms) Url) else None
