-- What a report of the centre says: a deliver_sm that is a delivery receipt (SMPP 3.4, 4.6.1 and appendix B).
use Rattle.std.specs.Prelude.{ℕ, ◌-◌, Bool, ◌==◌, ◌||◌, List, [], ◌∷◌, length, take, drop, Option, Some, None, option_map, Result, Ok, Err, slice_index, codes, bytes_eq, if◌then◌else◌}
use Rattle.std.specs.List.{find, slice_split, starts_with}
use Rattle.exact_octets.specs.declared.read_fault.ReadFault.{ReadFault}
use Rattle.exact_octets.specs.Reading.{filled_at}
use Rattle.sms_record.specs.declared.kind.Kind.{Kind}
use Rattle.sms_record.specs.declared.kind.Kind.TheVariants.{Delivered, Undelivered, Buffered}
use Rattle.smpp_wire.specs.Grammar.{Tlv, tlv}
use Rattle.smpp_wire.specs.Reading.{tlv_at}
use Rattle.smpp_wire.specs.Tlvs.{first_value}
use Rattle.link_core.specs.declared.heard.Heard.{Heard}
use Rattle.link_core.specs.declared.heard.Heard.TheVariants as heard
use Rattle.smpp_link.specs.TlvTags.{receipted_message_id, message_state, most_id}

-- ---- optional parameters (3.2.4.1)

abbrev pub found : Result (List Tlv × List ℕ) ReadFault → List Tlv
found (Ok x) = x.0
found (Err fault) = []

-- the value of the first parameter with a tag, in octets that are whole parameters
unfoldable pub value_in : (tag : ℕ) → List ℕ → Option (List ℕ)
value_in tag octets = first_value tag (found (filled_at tlv_at tlv (length octets) octets))

-- ---- the words of a text

-- a space, TAB, CR or LF
abbrev pub is_blank : ℕ → Bool
is_blank octet = octet == 32 || octet == 9 || octet == 13 || octet == 10

-- the first word of a text that begins with a name
abbrev pub word_with : (name text : List ℕ) → Option (List ℕ)
word_with name text = find (λ word. starts_with ◌==◌ word name) (slice_split is_blank text)

-- what stands behind the name in it
abbrev pub word_behind : (name text : List ℕ) → Option (List ℕ)
word_behind name text = option_map (drop (length name)) (word_with name text)

-- ---- the centre's id of the message: receipted_message_id (5.3.2.12), else what the text says

-- a text without the 00 that ends it
abbrev pub without_end : List ℕ → List ℕ
without_end text = if slice_index text (length text - 1) == 0 then take (length text - 1) text else text

abbrev pub id_of : (parameter word : Option (List ℕ)) → List ℕ
id_of (Some id) word = without_end id
id_of None (Some word) = word
id_of None None = []

-- ---- what became of it: message_state (5.3.2.35), else what the text says

-- 2 is DELIVERED, 1 ENROUTE, 6 ACCEPTED and 7 UNKNOWN (5.2.28)
abbrev pub kind_of_number : ℕ → Kind
kind_of_number state = if state == 2 then Delivered else if state == 1 || state == 6 || state == 7 then Buffered else Undelivered

abbrev pub kind_of_state : List ℕ → Kind
kind_of_state (state ∷ []) = kind_of_number state
kind_of_state octets = Undelivered

abbrev pub kind_of_word : List ℕ → Kind
kind_of_word word =
    if bytes_eq word (codes "DELIVRD") then Delivered else
    if bytes_eq word (codes "ACCEPTD") || bytes_eq word (codes "UNKNOWN") then Buffered else Undelivered

-- where nothing is said of it, nothing is settled
abbrev pub kind_of : (parameter word : Option (List ℕ)) → Kind
kind_of (Some state) word = kind_of_state state
kind_of None (Some word) = kind_of_word word
kind_of None None = Buffered

-- ---- the report

abbrev pub reported : (tag : ℕ) → (text tlvs : List ℕ) → Heard
reported tag text tlvs =
    heard.Report tag (take most_id (id_of (value_in receipted_message_id tlvs) (word_behind (codes "id:") text)))
    (kind_of (value_in message_state tlvs) (word_behind (codes "stat:") text)) text
