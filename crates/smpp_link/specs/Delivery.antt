-- What a deliver_sm (SMPP 3.4, 4.6.1) is heard as.
use Rattle.std.specs.Prelude.{ℕ, ◌/◌, ◌%◌, Bool, ◌==◌, ◌||◌, nat_le, List, [], length, Result, Ok, Err, if◌then◌else◌}
use Rattle.std.specs.List.{flat_map}
use Rattle.exact_octets.specs.declared.read_fault.ReadFault.{ReadFault}
use Rattle.sms_record.specs.declared.coding.Coding.{Coding}
use Rattle.sms_record.specs.declared.coding.Coding.TheVariants.{Eight}
use Rattle.sms_record.specs.Limits.{most_header}
use Rattle.sms_record.specs.declared.sms.Sms.{Sms}
use Rattle.sms_record.specs.Header.{Element, header}
use Rattle.sms_record.specs.HeaderReading.{header_at}
use Rattle.gsm_alphabet.specs.Alphabet.{septets_of}
use Rattle.smpp_wire.specs.Ids.{deliver_sm}
use Rattle.smpp_wire.specs.Command.{MessageFields, Fields, Message}
use Rattle.link_core.specs.declared.heard.Heard.{Heard}
use Rattle.link_core.specs.declared.heard.Heard.TheVariants as heard
use Rattle.link_core.specs.Arrivals.{arrival_of, address_of, body_of}
use Rattle.link_core.specs.Dcs.{coding_in, class_in}
use Rattle.smpp_link.specs.Receipts.{reported}

-- ---- esm_class (5.2.12)

-- bits 5 to 2: a delivery receipt of the centre
abbrev pub is_report : (esm_class : ℕ) → Bool
is_report esm_class = esm_class / 4 % 16 == 1

-- bit 6: a user data header stands before the text
abbrev pub says_header : (esm_class : ℕ) → Bool
says_header esm_class = esm_class / 64 % 2 == 1

-- ---- the header

-- a header that was read, of at most 140 octets, and what stands behind it; else nothing, and all the octets
abbrev pub parted : List ℕ → Result (List Element × List ℕ) ReadFault → List ℕ × List ℕ
parted octets (Ok x) = if nat_le (length (header x.0)) most_header then (header x.0, x.1) else ([], octets)
parted octets (Err fault) = ([], octets)

-- the header at the front (GSM 03.40 9.2.3.24) and what stands behind it, where one does that a message may have; else nothing, and all the octets
unfoldable pub part_header : List ℕ → List ℕ × List ℕ
part_header octets = parted octets (header_at octets)

abbrev pub header_and_text : (esm_class : ℕ) → List ℕ → List ℕ × List ℕ
header_and_text esm_class octets = if says_header esm_class then part_header octets else ([], octets)

-- ---- data_coding (5.2.19): of the values of SMPP's own, 1 (IA5) and 3 are read as ISO-8859-1, 2 is octets, and each other one is a data coding scheme of GSM 03.38

abbrev pub is_latin : (data_coding : ℕ) → Bool
is_latin data_coding = data_coding == 1 || data_coding == 3

abbrev pub coding_of : (data_coding : ℕ) → Coding
coding_of data_coding = if data_coding == 2 then Eight else coding_in data_coding

-- the septets of characters, which are the numbers of their octets in ISO-8859-1; any other text as it stands
abbrev pub text_of : (data_coding : ℕ) → List ℕ → List ℕ
text_of data_coding octets = if is_latin data_coding then flat_map septets_of octets else octets

-- ---- the message

-- type of number 1 is international (5.2.5)
abbrev pub is_international : (ton : ℕ) → Bool
is_international ton = ton == 1

-- a message whose header and text are these
abbrev pub sms_with : MessageFields → List ℕ × List ℕ → Sms
sms_with m parts =
    arrival_of (address_of (is_international m.source_ton) m.source) (address_of (is_international m.destination_ton) m.destination)
    (coding_of m.data_coding) (class_in m.data_coding) parts.0 (body_of (coding_of m.data_coding) (text_of m.data_coding parts.1))

abbrev pub sms_of : MessageFields → Sms
sms_of m = sms_with m (header_and_text m.esm_class m.short_message)

-- a report of the centre, or a message
abbrev pub delivered : (tag : ℕ) → Fields → Heard
delivered tag (Message m) = if is_report m.esm_class then reported tag m.short_message m.tlvs else heard.Message tag (sms_of m)
delivered tag fields = heard.Strange tag deliver_sm
