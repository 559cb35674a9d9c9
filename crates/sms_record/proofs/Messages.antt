-- A message is read exactly: its parts, and the whole.
use Rattle.std.proofs.Common.{◌≡◌, ℕ, zero, suc, ◌^◌, ◌<◌, ◌≤◌, List, [], ◌∷◌, ◌++◌, length, Option, Some, None, refl, arith}
use Rattle.std.specs.Prelude.{⊤, IfSome}
use Rattle.std.specs.Int.{w32, w64, to_be_bytes}
use Rattle.kn_base.specs.declared.charset.Charset.{Charset}
use Rattle.kn_base.specs.declared.charset.Charset.TheVariants.{Utf8, Latin1, Utf16Be}
use Rattle.exact_octets.specs.declared.alphabet.Alphabet.TheVariants.{Any, Septet}
use Rattle.exact_octets.specs.Numbers.{from_to, even_up_to}
use Rattle.exact_octets.specs.Reading.{value_of}
use Rattle.exact_octets.specs.Spelling.{short, long}
use Rattle.exact_octets.proofs.Readers.{IsReader, then_reads, ◌&◌, made_reads, reworded_reads}
use Rattle.exact_octets.proofs.Digits.{up_to_reads}
use Rattle.exact_octets.proofs.Fields.{between_reads, counted_reads, octets_reads, counted_octets_reads}
use Rattle.exact_octets.proofs.Choices.{code_reads}
use Rattle.sms_record.specs.declared.coding.Coding.{Coding}
use Rattle.sms_record.specs.declared.coding.Coding.TheVariants.{Seven, Eight, Ucs2}
use Rattle.sms_record.specs.Limits.{most_parts, last_class, most_mask, most_minutes, last_time, most_body, most_name, most_url}
use Rattle.sms_record.specs.declared.sms.Sms.{Sms}
use Rattle.sms_record.specs.declared.record.marks.Marks.{Marks}
use Rattle.sms_record.specs.declared.record.times.Times.{Times}
use Rattle.sms_record.specs.declared.record.heading.Heading.{Heading}
use Rattle.sms_record.specs.declared.record.names.Names.{Names}
use Rattle.sms_record.specs.declared.record.contents.Contents.{Contents}
use Rattle.sms_record.specs.Codes.{codings, coding_code, classes, class_code, charsets, charset_code}
use Rattle.sms_record.specs.Record.{IsAddress, address, IsOfCoding, IsSms, sms_octets}
use Rattle.sms_record.specs.RecordReading.{coding_at, charset_at, class_at, marks_of, marks_at, times_of, times_at, heading_of, heading_at, body_at, names_of, names_at, contents_of, contents_at, sms_of, sms_at, heading_in, contents_in}
use Rattle.sms_record.proofs.Addresses.{address_reads}
use Rattle.sms_record.proofs.Udh.{IsUdh, udh_reads}

-- ---- marks

coding_again : (coding : Coding) → value_of coding_code codings (coding_code coding) ≡ Some coding
coding_again Seven = refl
coding_again Eight = refl
coding_again Ucs2 = refl

coding_reads : IsReader (λ coding. ⊤) (λ coding. coding_code coding ∷ []) coding_at
unfolding coding_at
coding_reads = code_reads coding_code codings (λ coding. ⊤) (tt, (tt, (tt, tt))) (λ coding good. coding_again coding) (Seven, tt)

charset_again : (charset : Charset) → value_of charset_code charsets (charset_code charset) ≡ Some charset
charset_again Utf8 = refl
charset_again Latin1 = refl
charset_again Utf16Be = refl

charset_reads : IsReader (λ charset. ⊤) (λ charset. charset_code charset ∷ []) charset_at
unfolding charset_at
charset_reads = code_reads charset_code charsets (λ charset. ⊤) (tt, (tt, (tt, tt))) (λ charset good. charset_again charset) (Utf8, tt)

abbrev IsClass : Option ℕ → Type 0
IsClass o = IfSome o (λ class. class ≤ last_class)

class_again : (class : Option ℕ) → IsClass class → value_of class_code classes (class_code class) ≡ Some class
class_again None good = refl
class_again (Some zero) good = refl
class_again (Some (suc zero)) good = refl
class_again (Some (suc (suc zero))) good = refl
class_again (Some (suc (suc (suc zero)))) good = refl
class_again (Some (suc (suc (suc (suc class))))) good = absurd (omega arith)

class_reads : IsReader IsClass (λ class. class_code class ∷ []) class_at
unfolding class_at
class_reads = code_reads class_code classes IsClass (tt, (omega arith, (omega arith, (omega arith, (omega arith, tt))))) class_again (None, tt)

abbrev IsMarks : Marks → Type 0
IsMarks m = IsClass m.class × (m.total ≤ most_parts) × (1 ≤ m.part) × (m.part ≤ m.total) × (m.mask ≤ most_mask)

abbrev marks_octets : Marks → List ℕ
marks_octets m = coding_code m.coding ∷ class_code m.class ∷ charset_code m.charset ∷ m.total ∷ m.part ∷ m.mask ∷ []

marks_reads : IsReader IsMarks marks_octets marks_at
unfolding marks_at
marks_reads =
    made_reads marks_of
    (coding_reads & class_reads & charset_reads & then_reads (between_reads 1 most_parts (omega arith)) (λ total good. between_reads 1 total good.0 & between_reads 0 most_mask (omega arith)))
    (record {
      there = λ p good. ((good.1.0, good.1.1.1.0.1, good.1.1.1.1.0.0, good.1.1.1.1.0.1, good.1.1.1.1.1.1), refl);
      back = λ m good. ((m.coding, (m.class, (m.charset, (m.total, (m.part, m.mask))))), (tt, (good.0, (tt, ((omega (arith, good.2, good.3), good.1), ((good.2, good.3), (omega arith, good.4)))))), refl, refl);
    })

-- ---- times

abbrev IsTimes : Times → Type 0
IsTimes t = (t.validity ≤ most_minutes) × (t.deferred ≤ most_minutes) × (t.time < 2 ^ 37)

abbrev times_octets : Times → List ℕ
times_octets t = to_be_bytes w32 t.validity ++ (to_be_bytes w32 t.deferred ++ to_be_bytes w64 t.time)

times_reads : IsReader IsTimes times_octets times_at
unfolding times_at
times_reads =
    made_reads times_of
    (up_to_reads 4 most_minutes (omega arith) & up_to_reads 4 most_minutes (omega arith) & up_to_reads 8 last_time (omega arith))
    (record {
      there = λ p good. ((good.0, good.1.0, omega (arith, good.1.1)), refl);
      back = λ t good. ((t.validity, (t.deferred, t.time)), (good.0, (good.1, omega (arith, good.2))), refl, refl);
    })

-- ---- the heading

abbrev IsHeading : Heading → Type 0
IsHeading h = IsAddress h.sender × IsAddress h.receiver × IsMarks h.marks × IsTimes h.times

abbrev heading_octets : Heading → List ℕ
heading_octets h = address h.sender ++ (address h.receiver ++ (marks_octets h.marks ++ times_octets h.times))

heading_reads : IsReader IsHeading heading_octets heading_at
unfolding heading_at
heading_reads =
    made_reads heading_of (address_reads & address_reads & marks_reads & times_reads)
    (record {
      there = λ p good. ((good.0, good.1.0, good.1.1.0, good.1.1.1), refl);
      back = λ h good. ((h.sender, (h.receiver, (h.marks, h.times))), (good.0, (good.1, (good.2, good.3))), refl, refl);
    })

-- ---- the contents

abbrev IsBody : Coding → List ℕ → Type 0
IsBody coding body = (length body ≤ most_body) × IsOfCoding coding body

body_reads : (coding : Coding) → IsReader (IsBody coding) long (body_at coding)
body_reads Seven =
    reworded_reads (counted_reads 2 (from_to 0 most_body) Septet (record { some = omega arith; short = omega arith; even = λ e. cc })) (λ xs good. (good.0.1, good.1)) (λ xs good. ((omega arith, good.0, λ e. cc), good.1))
body_reads Eight = reworded_reads (counted_octets_reads 2 most_body (omega arith)) (λ xs good. (good, tt)) (λ xs good. good.0)
body_reads Ucs2 =
    reworded_reads (counted_reads 2 (even_up_to most_body) Any (record { some = omega arith; short = omega arith; even = λ e. refl })) (λ xs good. (good.0.1, good.0.2 refl)) (λ xs good. ((omega arith, good.0, λ e. good.1), λ k d lt. tt))

abbrev AreNames : Names → Type 0
AreNames n = (length n.smsc ≤ most_name) × (length n.url ≤ most_url) × (length n.account ≤ most_name) × (length n.service ≤ most_name)

abbrev names_octets : Names → List ℕ
names_octets n = short n.smsc ++ (long n.url ++ (short n.account ++ short n.service))

names_reads : IsReader AreNames names_octets names_at
unfolding names_at
names_reads =
    made_reads names_of (octets_reads most_name & counted_octets_reads 2 most_url (omega arith) & octets_reads most_name & octets_reads most_name)
    (record {
      there = λ p good. ((good.0, good.1.0, good.1.1.0, good.1.1.1), refl);
      back = λ n good. ((n.smsc, (n.url, (n.account, n.service))), (good.0, (good.1, (good.2, good.3))), refl, refl);
    })

abbrev IsContents : Coding → Contents → Type 0
IsContents coding c = IsUdh c.udh × IsBody coding c.body × AreNames c.names

abbrev contents_octets : Contents → List ℕ
contents_octets c = short c.udh ++ (long c.body ++ names_octets c.names)

contents_reads : (coding : Coding) → IsReader (IsContents coding) contents_octets (contents_at coding)
unfolding contents_at
contents_reads coding =
    made_reads contents_of (udh_reads & body_reads coding & names_reads)
    (record {
      there = λ p good. ((good.0, good.1.0, good.1.1), refl);
      back = λ c good. ((c.udh, (c.body, c.names)), (good.0, (good.1, good.2)), refl, refl);
    })

-- ---- the message

sms_there : (p : Heading × Contents) → IsHeading p.0 × IsContents p.0.marks.coding p.1 → IsSms (sms_of p.0 p.1) × (sms_octets (sms_of p.0 p.1) ≡ heading_octets p.0 ++ contents_octets p.1)
sms_there p good = (
  record {
    sender = good.0.0;
    receiver = good.0.1;
    class = good.0.2.0;
    total = good.0.2.1;
    part = (good.0.2.2, good.0.2.3);
    mask = good.0.2.4;
    validity = good.0.3.0;
    deferred = good.0.3.1;
    time = good.0.3.2;
    udh_len = good.1.0.0;
    udh = good.1.0.1;
    body_len = good.1.1.0;
    body = good.1.1.1;
    smsc = good.1.2.0;
    url = good.1.2.1;
    account = good.1.2.2;
    service = good.1.2.3;
  },
  refl,
)

sms_back : (sms : Sms) → IsSms sms → (p : Heading × Contents) × (IsHeading p.0 × IsContents p.0.marks.coding p.1) × (sms_of p.0 p.1 ≡ sms) × (heading_octets p.0 ++ contents_octets p.1 ≡ sms_octets sms)
sms_back sms good = (
  (heading_in sms, contents_in sms),
  (
    (good.sender, good.receiver, (good.class, good.total, good.part.0, good.part.1, good.mask), (good.validity, good.deferred, good.time)),
    ((good.udh_len, good.udh), (good.body_len, good.body), (good.smsc, good.url, good.account, good.service)),
  ),
  refl,
  refl,
)

-- a message is read exactly
pub sms_reads : IsReader IsSms sms_octets sms_at
unfolding sms_at
sms_reads = made_reads (λ (x : Heading × Contents). sms_of x.0 x.1) (then_reads heading_reads (λ h good. contents_reads h.marks.coding)) (record { there = sms_there; back = sms_back })
