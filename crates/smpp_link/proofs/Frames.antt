-- What is said is a command of SMPP.
use Rattle.std.proofs.Common.{◌≡◌, ◌≢◌, ℕ, ◌+◌, ◌/◌, ◌%◌, ◌<◌, ◌≤◌, ◌^◌, Bool, true, false, not, List, [], ◌∷◌, ◌++◌, length, All, Result, Ok, Err, IfOk, refl, sym, ap, subst, ◌∙◌, arith, length-append, inl, inr, leb-true}
use Rattle.std.specs.Prelude.{codes, ◌==◌, nat_le}
use Rattle.std.specs.List.{list_all}
use Rattle.std.proofs.lemmas.Bool.{cases_Bool, and_parts, eqb-false, not-true, false≢true}
use Rattle.std.proofs.lemmas.List.Elements.{All-nil, All-cons, All-append, All-head, All-tail, filter_passes}
use Rattle.kn_base.specs.declared.memory.Memory.{Memory}
use Rattle.sms_record.specs.declared.address.Address.{Address}
use Rattle.sms_record.specs.declared.address.Address.TheVariants.{Number, Text}
use Rattle.sms_record.specs.declared.coding.Coding.{Coding}
use Rattle.sms_record.specs.declared.coding.Coding.TheVariants.{Seven, Eight, Ucs2}
use Rattle.sms_record.specs.declared.sms.Sms.{Sms}
use Rattle.sms_record.specs.Record.{IsAddress, IsDigit, address_text}
use Rattle.sms_record.specs.Room.{cap}
use Rattle.config_values.specs.Values.{is_within, is_text_octet, is_sendable}
use Rattle.config_values.specs.Forms.{IsWithin, IsPrintable}
use Rattle.config_groups.specs.Ranges.{IsLogin}
use Rattle.route_rules.specs.declared.link_kind.LinkKind.TheVariants as kinds
use Rattle.route_rules.specs.Carriage.{is_number, outgoing_len, units}
use Rattle.concat_split.proofs.Headers.{length-header_of}
use Rattle.smpp_wire.specs.Command.{BindFields, MessageFields, Fields, Bind, BindReply, Message, SubmitReply, DeliverReply, Nothing, Any}
use Rattle.smpp_wire.specs.Grammar.{IsText, IsTime, ended, IsBind, bind, IsMessage, message, IsOf, body, IsCommand, frame, row_of}
use Rattle.link_core.specs.declared.out.Out.{Out}
use Rattle.link_core.specs.declared.out.Out.TheVariants as out
use Rattle.link_core.specs.Saying.{out_tag, IsSubmit, MaySay, IsFrameWith}
use Rattle.smpp_link.specs.Hearing.{heard_of, Hears}
use Rattle.smpp_link.specs.Saying.{speakable, bind_with, two_digits, period_of, validity_of, class_of, submit_with, header_in, submit_of, command_with, command_of}
use Rattle.smpp_link.proofs.Commands.{tag_of}

-- ---- texts without the octet 00

abbrev NoNul : List ℕ → Type 0
NoNul = All (λ octet. octet ≢ 0)

from_each : (P : ℕ → Type 0) → ((x : ℕ) → P x → x ≢ 0) → (xs : List ℕ) → All P xs → NoNul xs
from_each P tells [] all = All-nil (λ octet. octet ≢ 0)
from_each P tells (x ∷ xs) all =
    All-cons (λ octet. octet ≢ 0) x xs (tells x (All-head P x xs all)) (from_each P tells xs (All-tail P x xs all))

from_test : (test : ℕ → Bool) → test 0 ≡ false → (xs : List ℕ) → list_all test xs ≡ true → NoNul xs
from_test test none [] all = All-nil (λ octet. octet ≢ 0)
from_test test none (x ∷ xs) all =
    let parts = and_parts (test x) (list_all test xs) all in
    All-cons (λ octet. octet ≢ 0) x xs (λ e. false≢true (sym none ∙ ap test (sym e) ∙ parts.0)) (from_test test none xs parts.1)

digits_no_nul : (digits : List ℕ) → All IsDigit digits → NoNul digits
digits_no_nul digits all = from_each IsDigit (λ x digit e. omega (arith, digit.0, e)) digits all

-- ---- the login

speakable_no_nul : (octets : List ℕ) → NoNul (speakable octets)
speakable_no_nul octets =
    from_each (λ x. not (x == 0) ≡ true) (λ x passes. eqb-false x 0 (not-true (x == 0) passes)) (speakable octets) (filter_passes (λ x. not (x == 0)) octets)

speakable_short : (octets : List ℕ) → length (speakable octets) ≤ length octets
speakable_short [] = omega arith
speakable_short (x ∷ octets) =
    let rest = speakable_short octets in
    elim (cases_Bool (not (x == 0))) [ inl is ↦ rw is (omega (arith, rest)) | inr other ↦ rw other (omega (arith, rest)) ]

printable_no_nul : (most : ℕ) (text : List ℕ) → IsPrintable most text → NoNul text
printable_no_nul most text is = from_each (IsWithin 32 126) (λ x within e. omega (arith, within.0, e)) text is.1

pub bind_good : (username password system_type : List ℕ) → IsLogin kinds.Smpp username password → length system_type ≤ 12 → IsBind (bind_with username password (speakable system_type))
bind_good username password system_type login short = record {
  system_id = (printable_no_nul 15 username login.0, omega (arith, login.0.0.1));
  password = (printable_no_nul 8 password login.1, omega (arith, login.1.0.1));
  system_type = (speakable_no_nul system_type, omega (arith, speakable_short system_type, short));
  interface_version = refl;
  address_range = (All-nil (λ octet. octet ≢ 0), omega arith);
}

-- the same of octets that are these
pub bind_as : (id key type username password system_type : List ℕ) → id ≡ username → key ≡ password → type ≡ speakable system_type → IsLogin kinds.Smpp username password → length system_type ≤ 12 → IsBind (bind_with id key type)
bind_as id key type username password system_type a b c login short = rw a (rw b (rw c (bind_good username password system_type login short)))

length-ended : (text : List ℕ) → length (ended text) ≡ length text + 1
length-ended text = length-append text (0 ∷ [])

bind_short : (b : BindFields) → IsBind b → length (bind b) ≤ 82
bind_short b good =
    let range = ended b.address_range in
    let version = b.interface_version ∷ b.addr_ton ∷ b.addr_npi ∷ [] in
    omega (
      arith,
      length-append (ended b.system_id) (ended b.password ++ (ended b.system_type ++ (version ++ range))),
      length-append (ended b.password) (ended b.system_type ++ (version ++ range)),
      length-append (ended b.system_type) (version ++ range),
      length-append version range,
      length-ended b.system_id,
      length-ended b.password,
      length-ended b.system_type,
      length-ended b.address_range,
      good.system_id.1,
      good.password.1,
      good.system_type.1,
      good.address_range.1,
    )

-- ---- a message

digit_pair : (n : ℕ) → NoNul (two_digits n)
digit_pair n =
    All-cons (λ octet. octet ≢ 0) (48 + n / 10) ((48 + n % 10) ∷ []) (λ e. omega (arith, e))
    (All-cons (λ octet. octet ≢ 0) (48 + n % 10) [] (λ e. omega (arith, e)) (All-nil (λ octet. octet ≢ 0)))

period_no_nul : (minutes : ℕ) → NoNul (period_of minutes)
period_no_nul minutes =
    let days = two_digits (minutes / 1440) in
    let hours = two_digits (minutes % 1440 / 60) in
    let rest = two_digits (minutes % 60) in
    let P : ℕ → Type 0 = λ octet. octet ≢ 0 in
    let not_nul : ℕ → Bool = λ octet. not (octet == 0) in
    All-append P (codes "0000") (days ++ (hours ++ (rest ++ codes "00000R"))) (from_test not_nul refl (codes "0000") refl)
    (All-append P days (hours ++ (rest ++ codes "00000R")) (digit_pair (minutes / 1440))
    (All-append P hours (rest ++ codes "00000R") (digit_pair (minutes % 1440 / 60))
    (All-append P rest (codes "00000R") (digit_pair (minutes % 60)) (from_test not_nul refl (codes "00000R") refl))))

validity_good : (time validity now : ℕ) → IsTime (validity_of time validity now)
validity_good time validity now =
    elim (cases_Bool (validity == 0)) [
      | inl is ↦ rw is (All-nil (λ octet. octet ≢ 0), inl refl)
      | inr other ↦ rw other (period_no_nul _, inr refl)
    ]

sender_good : (address : Address) → IsAddress address → is_sendable address ≡ true → IsText 21 (address_text address)
sender_good (Number plus digits) is sendable = (digits_no_nul digits is.2, omega (arith, is.1))
sender_good (Text text) is sendable =
    let parts = and_parts (is_within 1 11 (length text)) (list_all is_text_octet text) sendable in
    let most : length text ≤ 11 = leb-true (length text) 11 (and_parts (nat_le 1 (length text)) (nat_le (length text) 11) parts.0).1 in
    (from_test is_text_octet refl text parts.1, omega (arith, most))

receiver_good : (address : Address) → IsAddress address → is_number address ≡ true → IsText 21 (address_text address)
receiver_good (Number plus digits) is number = (digits_no_nul digits is.2, omega (arith, is.1))
receiver_good (Text text) is number = absurd (false≢true number)

-- a body beside its header
room : (coding : Coding) (header : ℕ) (body : List ℕ) → header ≤ 140 → units coding body ≤ cap coding header → header + length body ≤ 254
room Seven header body short fit = omega (arith, short, fit)
room Eight header body short fit = omega (arith, short, fit)
room Ucs2 header body short fit = omega (arith, short, fit)

submit_good : (number : ℕ) (sms : Sms) (now : ℕ) → IsSubmit kinds.Smpp number sms now → IsMessage (submit_of number sms now)
submit_good number sms now may =
    let carried = and_parts _ _ may.carried in
    let from = and_parts _ _ carried.1 in
    let fit = and_parts _ _ (and_parts _ _ from.1).0 in
    let header = header_in number sms in
    let len : length header ≡ outgoing_len sms = length-header_of sms.udh sms.total sms.part number in
    let all : outgoing_len sms + length sms.body ≤ 254 =
    room sms.coding (outgoing_len sms) sms.body (leb-true (outgoing_len sms) 140 fit.0) (leb-true (units sms.coding sms.body) (cap sms.coding (outgoing_len sms)) fit.1) in
    record {
      service_type = (All-nil (λ octet. octet ≢ 0), omega arith);
      source = sender_good sms.sender may.recorded.sender from.0;
      destination = receiver_good sms.receiver may.recorded.receiver carried.0;
      schedule_delivery_time = (All-nil (λ octet. octet ≢ 0), inl refl);
      validity_period = validity_good sms.time sms.validity now;
      short_message = omega (arith, len, all, length-append header sms.body);
      tlvs = ([], tt, refl);
    }

time_short : (text : List ℕ) → IsTime text → length text ≤ 16
time_short text is = elim is.1 [ inl none ↦ omega (arith, none) | inr all ↦ omega (arith, all) ]

message_short : (m : MessageFields) → IsMessage m → m.tlvs ≡ [] → length (message m) ≤ 1000
message_short m good none =
    let a = time_short m.schedule_delivery_time good.schedule_delivery_time in
    let b = time_short m.validity_period good.validity_period in
    let tlvs : length m.tlvs ≡ 0 = ap length none in
    let c = good.service_type.1 in
    let d = good.source.1 in
    let e = good.destination.1 in
    let f = good.short_message in
    simp length-append (omega (arith, a, b, tlvs, c, d, e, f))

-- ---- all commands

small : (id status tag : ℕ) (fields : Fields) → id < 2 ^ 32 → status < 2 ^ 32 → tag < 2 ^ 32 → IsOf (row_of id) fields → length (body fields) ≤ 1000 → IsCommand (command_with id status tag fields)
small id status tag fields id_fits status_fits tag_fits is short =
    record { id = id_fits; status = status_fits; sequence = tag_fits; fields = is; len = omega (arith, short) }

bound : (login : Fields) (tag : ℕ) → IsOf (row_of 9) login → tag < 2 ^ 32 → IsCommand (command_of login (out.Login tag))
bound (Bind b) tag is held = small 9 0 tag (Bind b) (omega arith) (omega arith) held is (omega (arith, bind_short b is))
bound (BindReply system_id tlvs) tag is held = absurd is
bound (Message m) tag is held = absurd is
bound (SubmitReply message_id) tag is held = absurd is
bound DeliverReply tag is held = absurd is
bound Nothing tag is held = absurd is
bound (Any octets) tag is held = absurd is

pub submit_sayable : (tag number : ℕ) (sms : Sms) (now : ℕ) → IsSubmit kinds.Smpp number sms now → tag < 2 ^ 32 → IsCommand (command_with 4 0 tag (Message (submit_of number sms now)))
submit_sayable tag number sms now may held =
    let good = submit_good number sms now may in
    small 4 0 tag (Message (submit_of number sms now)) (omega arith) (omega arith) held good (message_short (submit_of number sms now) good refl)

-- the same of fields that are made of these parts
pub submit_as : (tag number : ℕ) (sms : Sms) (now esm_class : ℕ) (text period : List ℕ) (fields : Fields) → esm_class ≡ class_of (header_in number sms) → text ≡ header_in number sms ++ sms.body → period ≡ validity_of sms.time sms.validity now → fields ≡ Message (submit_with esm_class text period sms) → IsSubmit kinds.Smpp number sms now → tag < 2 ^ 32 → IsCommand (command_with 4 0 tag fields)
submit_as tag number sms now esm_class text period fields a b p f may held = rw f (rw a (rw b (rw p (submit_sayable tag number sms now may held))))

pub sayable : (login : Fields) (sayings : Out) → IsOf (row_of 9) login → MaySay kinds.Smpp Hears sayings → out_tag sayings < 2 ^ 32 → IsCommand (command_of login sayings)
sayable login (out.Login tag) is may held = bound login tag is held
sayable login (out.Submit tag number sms now) is may held = submit_sayable tag number sms now may held
sayable login (out.ReportReply tag) is may held = small 0x80000005 0 tag DeliverReply (omega arith) (omega arith) held tt (omega arith)
sayable login (out.MessageReply tag true) is may held = small 0x80000005 0 tag DeliverReply (omega arith) (omega arith) held tt (omega arith)
sayable login (out.MessageReply tag false) is may held = small 0x80000005 0x14 tag DeliverReply (omega arith) (omega arith) held tt (omega arith)
sayable login (out.Keep tag) is may held = small 0x15 0 tag Nothing (omega arith) (omega arith) held tt (omega arith)
sayable login (out.KeepReply tag) is may held = small 0x80000015 0 tag Nothing (omega arith) (omega arith) held tt (omega arith)
sayable login (out.ByeReply tag) is may held = small 0x80000006 0 tag Nothing (omega arith) (omega arith) held tt (omega arith)
sayable login (out.Nack tag id) is may held = small 0x80000000 3 tag Nothing (omega arith) (omega arith) held tt (omega arith)

said_tag : (login : Fields) (sayings : Out) → (command_of login sayings).sequence ≡ out_tag sayings
said_tag login (out.Login tag) = refl
said_tag login (out.Submit tag number sms now) = refl
said_tag login (out.ReportReply tag) = refl
said_tag login (out.MessageReply tag true) = refl
said_tag login (out.MessageReply tag false) = refl
said_tag login (out.Keep tag) = refl
said_tag login (out.KeepReply tag) = refl
said_tag login (out.ByeReply tag) = refl
said_tag login (out.Nack tag id) = refl

-- what is said is one frame with its tag
pub said_is_frame : (login : Fields) (sayings : Out) → IsOf (row_of 9) login → MaySay kinds.Smpp Hears sayings → out_tag sayings < 2 ^ 32 → IsFrameWith Hears (out_tag sayings) (frame (command_of login sayings))
said_is_frame login sayings is may held =
    let c = command_of login sayings in
    record {
      heard = heard_of c;
      frame = record { command = c; good = sayable login sayings is may held; frame_is = refl; heard_is = refl };
      tagged = tag_of c ∙ said_tag login sayings;
    }

-- the same of what a function answers that may lack memory
pub frame_written : (login : Fields) (sayings : Out) (r : Result (List ℕ) Memory) → IsOf (row_of 9) login → MaySay kinds.Smpp Hears sayings → out_tag sayings < 2 ^ 32 → IfOk r (λ octets. octets ≡ frame (command_of login sayings)) → IfOk r (IsFrameWith Hears (out_tag sayings))
frame_written login sayings (Ok octets) is may held e = subst (IsFrameWith Hears (out_tag sayings)) (sym e) (said_is_frame login sayings is may held)
frame_written login sayings (Err failed) is may held e = tt
