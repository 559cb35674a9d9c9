-- The first value with a tag, in octets that are whole parameters.
use Rattle.std.proofs.Common.{◌≡◌, ℕ, ◌<◌, ◌≤◌, List, [], ◌++◌, length, Result, Ok, refl, sym, ap, subst, ◌∙◌, ◌⊎◌, arith, inl, inr}
use Rattle.std.specs.List.{flat_map, AllByRecursion}
use Rattle.std.proofs.lemmas.List.{append-nil}
use Rattle.exact_octets.specs.declared.read_fault.ReadFault.{ReadFault}
use Rattle.exact_octets.specs.Reading.{filled_at}
use Rattle.exact_octets.proofs.Readers.{IsReader}
use Rattle.exact_octets.proofs.Filled.{Fill, filled_reads}
use Rattle.smpp_wire.specs.Grammar.{Tlv, IsTlv, tlv}
use Rattle.smpp_wire.specs.Reading.{tlv_at}
use Rattle.smpp_wire.specs.Tlvs.{first_value}
use Rattle.smpp_wire.proofs.Tlvs.{tlv_len, tlv_reads, tlvs_can}
use Rattle.smpp_link.specs.Receipts.{value_in}

-- parameters are none, or four octets at least
abbrev CanFill : ℕ → Type 0
CanFill left = (left ≡ 0) ⊎ (4 ≤ left)

some_left : (left : ℕ) → 0 < left → CanFill left → 4 ≤ left
some_left left some f = elim f [ inl none ↦ absurd (omega (arith, none)) | inr le ↦ le ]

all_read : (left : ℕ) → CanFill left → IsReader (Fill IsTlv tlv tlv_at CanFill left) (flat_map tlv) (filled_at tlv_at tlv left)
all_read = filled_reads IsTlv tlv tlv_at CanFill (λ left some f. tlv_reads left (some_left left some f)) (λ t good. omega (arith, tlv_len t)) tlvs_can

abbrev read_to_end : List Tlv → Result (List Tlv × List ℕ) ReadFault
read_to_end ts = Ok (ts, [])

-- parameters have the values that are found in their octets
pub value_is : (tag : ℕ) (octets : List ℕ) (ts : List Tlv) → AllByRecursion IsTlv ts → flat_map tlv ts ≡ octets → first_value tag ts ≡ value_in tag octets
unfolding value_in
value_is tag octets ts good e =
    let fits : CanFill (length octets) = subst (λ (xs : List ℕ). CanFill (length xs)) e (tlvs_can ts good) in
    let read : filled_at tlv_at tlv (length octets) octets ≡ read_to_end ts =
    ap (filled_at tlv_at tlv (length octets)) (sym e ∙ sym (append-nil (flat_map tlv ts))) ∙ (all_read (length octets) fits).again ts [] (good, ap length e) in
    rw read refl
