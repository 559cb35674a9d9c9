-- What a centre said of a message, by the entry that records it.
use Rattle.std.specs.Prelude.{ℕ, List, [], decimal}
use Rattle.sms_record.specs.declared.kind.Kind.TheVariants.{Sent, Refused}
use Rattle.gate_entries.specs.declared.acked.Acked.{Acked}
use Rattle.gate_entries.specs.declared.cause.Cause.{Cause}
use Rattle.gate_entries.specs.declared.cause.Cause.TheVariants.{Centre, Expired}
use Rattle.gate_entries.specs.declared.rejected.Rejected.{Rejected}
use Rattle.gate_entries.specs.declared.reported.Reported.{Reported}
use Rattle.report_urls.specs.declared.report.Report.{Report}

-- the centre took the message, and said nothing besides its id
abbrev pub acked_report : Acked → Report
acked_report acked = record { kind = Sent; smsc = acked.smsc; foreign = acked.foreign; text = []; answer = []; time = acked.time }

-- why a message was given up: the centre's code in decimal, where it was the centre
abbrev pub cause_text : Cause → List ℕ
cause_text (Centre code) = decimal code
cause_text Expired = []

-- the message was given up, so no centre has an id for it
abbrev pub rejected_report : Rejected → Report
rejected_report rejected =
    record { kind = Refused; smsc = rejected.smsc; foreign = []; text = []; answer = cause_text rejected.cause; time = rejected.time }

-- the centre reported, in a text
abbrev pub reported_report : Reported → Report
reported_report reported =
    record { kind = reported.kind; smsc = reported.smsc; foreign = reported.foreign; text = reported.text; answer = reported.text; time = reported.time }
