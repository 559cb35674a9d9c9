-- Sums that stay at the end of their type, and how many octets an entry can have.
use Rattle.std.proofs.Common.{◌≡◌, ℕ, ◌+◌, ◌*◌, ◌<◌, ◌≤◌, List, ◌∷◌, [], ◌++◌, length, take, get_or, All, ap, sym, ◌∙◌, length-append, arith}
use Rattle.std.specs.List.{flat_map, AllByRecursion}
use Rattle.std.proofs.lemmas.List.{take_more, flat_map_more}
use Rattle.std.proofs.lemmas.List.Elements.{recursion_from_All}
use Rattle.exact_octets.specs.Numbers.{number}
use Rattle.exact_octets.specs.Spelling.{short, long}
use Rattle.sms_record.specs.declared.address.Address.{Address}
use Rattle.sms_record.specs.declared.address.Address.TheVariants.{Number, Text}
use Rattle.sms_record.specs.declared.sms.Sms.{Sms}
use Rattle.sms_record.specs.Limits.{most_address_text}
use Rattle.sms_record.specs.Record.{IsAddress, IsSms, address_text, address, marks, times, heading, names, contents, sms_octets}
use Rattle.gate_entries.specs.Limits.{most_messages}
use Rattle.gate_entries.specs.declared.answered.Answered.{Answered}
use Rattle.gate_entries.specs.declared.cause.Cause.{Cause}
use Rattle.gate_entries.specs.declared.cause.Cause.TheVariants.{Centre, Expired}
use Rattle.gate_entries.specs.declared.recorded.Recorded.{Recorded}
use Rattle.gate_entries.specs.declared.recorded.Recorded.TheVariants as entry
use Rattle.gate_entries.specs.Entry.{ids, messages, cause_octets, kind_value, IsEntry, entry_octets}
use Rattle.gate_entries.specs.Size.{capped, parts_of, most_record, most_alone}

-- ---- sums

-- one item more of a list whose items are counted one after the other
pub counted_more : {X : Type 0} (f : X → List ℕ) (sum before after : ℕ) (xs : List X) (i : ℕ) (x : X) → i < length xs → x ≡ get_or xs i x → before ≡ capped (sum + length (flat_map f (take i xs))) → after ≡ capped (before + length (f x))
    → after ≡ capped (sum + length (flat_map f (take (i + 1) xs)))
counted_more f sum before after xs i x lt is e g =
    let more : take (i + 1) xs ≡ take i xs ++ x ∷ [] = take_more xs i x lt ∙ ap (λ y. take i xs ++ y ∷ []) (sym is) in
    let whole : flat_map f (take i xs) ++ f x ≡ flat_map f (take i xs ++ x ∷ []) = flat_map_more f [] (take i xs) x in
    let len : length (flat_map f (take (i + 1) xs)) ≡ length (flat_map f (take i xs)) + length (f x) = ap (λ ys. length (flat_map f ys)) more ∙ ap length (sym whole) ∙ length-append (flat_map f (take i xs)) (f x) in
    omega (arith, len, e, g)

-- each number takes eight octets
pub length-numbers : (ns : List ℕ) → length (flat_map (number 8) ns) ≡ 8 * length ns
length-numbers [] = omega arith
length-numbers (n ∷ ns) = omega (arith, length-append (number 8 n) (flat_map (number 8) ns), length-numbers ns)

-- the size of an Answered, from the sizes of its lists
pub answered_size : (a : Answered) (count front result : ℕ) (parts : List Sms) → count ≡ length a.arrivals → parts ≡ a.parts → front ≡ capped (13 + 8 * count) → result ≡ capped (front + length (flat_map sms_octets parts)) → result ≡ capped (length (entry_octets (entry.Answered a)))
answered_size a count front result parts is same e g =
    let len : length (flat_map sms_octets parts) ≡ length (flat_map sms_octets a.parts) = ap (λ (xs : List Sms). length (flat_map sms_octets xs)) same in
    omega (arith, length-append (flat_map (number 8) a.arrivals) (number 8 a.time ++ messages a.parts), length-numbers a.arrivals, is, len, e, g)

-- ---- bounds

address_bound : (a : Address) → IsAddress a → length (address_text a) ≤ most_address_text
address_bound (Number plus digits) good = omega (arith, good.1)
address_bound (Text text) good = omega (arith, good)

pub record_bound : (sms : Sms) → IsSms sms → length (sms_octets sms) ≤ most_record
record_bound sms good =
    omega (
      arith,
      length-append (heading sms) (contents sms),
      length-append (address_text sms.sender) (address sms.receiver ++ (marks sms ++ times sms)),
      length-append (address_text sms.receiver) (marks sms ++ times sms),
      length-append sms.udh (long sms.body ++ names sms),
      length-append sms.body (names sms),
      length-append sms.smsc (long sms.url ++ (short sms.account ++ short sms.service)),
      length-append sms.url (short sms.account ++ short sms.service),
      length-append sms.account (short sms.service),
      address_bound sms.sender good.sender,
      address_bound sms.receiver good.receiver,
      good.udh_len,
      good.body_len,
      good.smsc,
      good.url,
      good.account,
      good.service,
    )

records_by : (parts : List Sms) → AllByRecursion IsSms parts → length (flat_map sms_octets parts) ≤ most_record * length parts
records_by [] good = omega arith
records_by (sms ∷ parts) good = omega (arith, length-append (sms_octets sms) (flat_map sms_octets parts), record_bound sms good.0, records_by parts good.1)

pub records_bound : (parts : List Sms) → All IsSms parts → length (flat_map sms_octets parts) ≤ most_record * length parts
records_bound parts good = records_by parts (recursion_from_All IsSms parts good)

cause_bound : (cause : Cause) → length (cause_octets cause) ≤ 5
cause_bound (Centre code) = omega arith
cause_bound Expired = omega arith

-- how many octets an entry has, by the messages that it hands in
pub entry_bound : (e : Recorded) → IsEntry e → length (entry_octets e) ≤ most_alone + most_record * length (parts_of e)
entry_bound (entry.Accept a) good = omega (arith, records_bound a.parts good.each)
entry_bound (entry.Acked a) good = omega (arith, length-append (ids a.smsc a.foreign) (number 8 a.time), length-append a.smsc (long a.foreign), good.smsc, good.foreign)
entry_bound (entry.Rejected a) good = omega (arith, length-append a.smsc (cause_octets a.cause ++ number 8 a.time), length-append (cause_octets a.cause) (number 8 a.time), good.smsc, cause_bound a.cause)
entry_bound (entry.Reported a) good = omega (arith, length-append (ids a.smsc a.foreign) ((kind_value a.kind ∷ []) ++ (long a.text ++ number 8 a.time)), length-append a.smsc (long a.foreign), length-append a.text (number 8 a.time), good.smsc, good.foreign, good.text)
entry_bound (entry.Arrived a) good = omega (arith, length-append a.smsc (sms_octets a.sms), good.smsc, record_bound a.sms good.sms)
entry_bound (entry.Answered a) good = omega (arith, length-append (flat_map (number 8) a.arrivals) (number 8 a.time ++ messages a.parts), good.few_arrivals, length-numbers a.arrivals, records_bound a.parts good.each)
entry_bound other good = omega arith

parts_bound : (e : Recorded) → IsEntry e → length (parts_of e) ≤ most_messages
parts_bound (entry.Accept a) good = good.few
parts_bound (entry.Answered a) good = good.few
parts_bound other good = omega arith

-- an entry's size is a number of 64 bits
pub capped_size : (e : Recorded) → IsEntry e → capped (length (entry_octets e)) ≡ length (entry_octets e)
capped_size e good = omega (arith, entry_bound e good, parts_bound e good)
