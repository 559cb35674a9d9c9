-- A header is parted from its text exactly where one stands first that a message may have.
use Rattle.std.proofs.Common.{◌≡◌, ℕ, ◌+◌, ◌<◌, ◌≤◌, true, List, [], ◌++◌, length, take, drop, get_or, suc, Result, Ok, Err, refl, sym, ap, ◌∙◌, arith, inl, inr, ◌⊎◌, leb-true, length-append, take-append-drop}
use Rattle.std.specs.Prelude.{nat_le}
use Rattle.std.proofs.lemmas.Bool.{cases_Bool, le-leb}
use Rattle.std.proofs.lemmas.List.{take_at, length-take-le}
use Rattle.exact_octets.specs.declared.read_fault.ReadFault.{ReadFault}
use Rattle.exact_octets.proofs.Readers.{AreOctets, Answers}
use Rattle.sms_record.specs.Limits.{most_header}
use Rattle.sms_record.specs.Header.{Element, elements, header, IsHeaderOrNone}
use Rattle.sms_record.specs.HeaderReading.{header_at}
use Rattle.sms_record.proofs.Headers.{header_reads}
use Rattle.smpp_link.specs.Delivery.{parted, part_header}

abbrev Read : Type 0
Read = Result (List Element × List ℕ) ReadFault

-- what is parted off may be the header of a message
parted_good : (octets : List ℕ) (read : Read) → (length (parted octets read).0 ≤ most_header) × IsHeaderOrNone (parted octets read).0
parted_good octets (Ok x) =
    elim (cases_Bool (nat_le (length (header x.0)) most_header)) [
      | inl is ↦ rw is (leb-true (length (header x.0)) most_header is, inr (x.0, refl))
      | inr other ↦ rw other (omega arith, inl refl)
    ]
parted_good octets (Err fault) = (omega arith, inl refl)

pub header_good : (octets : List ℕ) → (length (part_header octets).0 ≤ most_header) × IsHeaderOrNone (part_header octets).0
unfolding part_header
header_good octets = parted_good octets (header_at octets)

-- a header that stands first is parted off
pub header_parted : (es : List Element) (rest : List ℕ) → length (header es) ≤ most_header → (header es, rest) ≡ part_header (header es ++ rest)
unfolding part_header
header_parted es rest short =
    let read : header_at (header es ++ rest) ≡ Ok (es, rest) = header_reads.again es rest (omega (arith, short)) in
    let is : nat_le (length (header es)) most_header ≡ true = le-leb (length (header es)) most_header short in
    rw read (rw is refl)

no_header_read : (octets : List ℕ) (read : Read) → Answers (λ es. length (elements es) < 256) header octets read → ((es : List Element) (rest : List ℕ) → octets ≡ header es ++ rest → length (header es) ≤ most_header → ⊥) → ([], octets) ≡ parted octets read
no_header_read octets (Ok x) answers none =
    elim (cases_Bool (nat_le (length (header x.0)) most_header)) [
      | inl is ↦ absurd (none x.0 x.1 answers.1 (leb-true (length (header x.0)) most_header is))
      | inr other ↦ rw other refl
    ]
no_header_read octets (Err fault) answers none = refl

-- where none stands first nothing is
pub no_header_parted : (octets : List ℕ) → AreOctets octets → ((es : List Element) (rest : List ℕ) → octets ≡ header es ++ rest → length (header es) ≤ most_header → ⊥) → ([], octets) ≡ part_header octets
unfolding part_header
no_header_parted octets fits none = no_header_read octets (header_at octets) (header_reads.answers octets fits) none

-- ---- for the function that finds its length

-- nothing is no header
pub no_octets_parted : (octets : List ℕ) → AreOctets octets → length octets < 1 → ([], octets) ≡ part_header octets
no_octets_parted octets fits none = no_header_parted octets fits (λ es rest e short. omega (arith, none, ap length e))

-- the first octet says too many
pub no_header_by : (octets : List ℕ) → AreOctets octets → (most_header < get_or octets 0 0 + 1) ⊎ (length octets < get_or octets 0 0 + 1) → ([], octets) ≡ part_header octets
no_header_by octets fits many =
    no_header_parted octets fits (λ es rest e short.
    let count : get_or octets 0 0 ≡ length (elements es) = ap (λ (t : List ℕ). get_or t 0 0) e in
    let len : length octets ≡ suc (length (elements es) + length rest) = ap length e ∙ ap (λ (n : ℕ). suc n) (length-append (elements es) rest) in
    elim many [ inl over ↦ omega (arith, over, count, short) | inr past ↦ omega (arith, past, count, len) ])

-- as many octets as the first one says are no header
pub no_header_at : (octets : List ℕ) (len : ℕ) → AreOctets octets → len ≡ get_or octets 0 0 + 1 → ((es : List Element) → take len octets ≡ header es → ⊥) → ([], octets) ≡ part_header octets
no_header_at octets len fits said none =
    no_header_parted octets fits (λ es rest e short.
    let count : get_or octets 0 0 ≡ length (elements es) = ap (λ (t : List ℕ). get_or t 0 0) e in
    none es (ap (take len) e ∙ take_at (header es) rest len (omega (arith, said, count))))

abbrev fronted : List ℕ → List ℕ → List ℕ × List ℕ
fronted front text = (front, text)

-- they are one
pub header_there : (octets : List ℕ) (len : ℕ) → len ≡ get_or octets 0 0 + 1 → len ≤ length octets → len ≤ most_header → IsHeaderOrNone (take len octets) → (take len octets, drop len octets) ≡ part_header octets
header_there octets len said within short is =
    let there : length (take len octets) ≡ len = length-take-le len octets within in
    elim is [
      | inl none ↦ absurd (omega (arith, said, there, ap length none))
      | inr one ↦
          let whole : header one.0 ++ drop len octets ≡ octets = ap (λ (t : List ℕ). t ++ drop len octets) (sym one.1) ∙ take-append-drop len octets in
          let parts = header_parted one.0 (drop len octets) (omega (arith, short, there, ap length one.1)) in
          ap (λ (front : List ℕ). fronted front (drop len octets)) one.1 ∙ parts ∙ ap part_header whole
    ]
