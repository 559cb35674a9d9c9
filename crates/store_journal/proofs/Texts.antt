-- The text of an area is read as its payloads, and an append to it is the text of one more.
use Rattle.std.proofs.Common.{◌≡◌, ℕ, ◌+◌, ◌-◌, ◌≤◌, ◌^◌, Bool, true, false, not, cond, eqb, List, [], ◌∷◌, ◌++◌, length, drop, Ok, refl, sym, ◌∙◌, ap, subst, arith, length-append, append_assoc, Some, None}
use Rattle.std.specs.Prelude.{All}
use Rattle.std.specs.Bool.{OnTrue}
use Rattle.std.proofs.lemmas.Bool.{not-true}
use Rattle.std.proofs.lemmas.List.{drop_at}
use Rattle.std.proofs.lemmas.List.Elements.{All-from_recursion, recursion_from_All}
use Rattle.exact_octets.specs.Reading.{Fails, many}
use Rattle.exact_octets.specs.Telling.{IsPlaced}
use Rattle.exact_octets.specs.declared.read_fault.ReadFault.{ReadFault}
use Rattle.exact_octets.specs.declared.read_fault.ReadFault.TheVariants as faults
use Rattle.exact_octets.proofs.Readers.{AreOctets, AreOctets-rest, Answers}
use Rattle.exact_octets.proofs.Streams.{many_again, many_reads}
use Rattle.store_disk.specs.Disk.{Areas, octets_of}
use Rattle.store_journal.specs.Area.{unborn, born, foreign, header, header_at, unit, unit_at, units, area_text, gate_place, reading, reading_of, stands, standing, picked, begins_closed, behind_units, payloads_in, IsPayload, IsText}
use Rattle.store_disk.specs.declared.area.Area.{Area}
use Rattle.store_disk.specs.declared.area.Area.TheVariants.{A, B, Pick}
use Rattle.store_journal.specs.Journal.{IsCause, OpensAs}
use Rattle.store_journal.specs.Opening.{IsMisfit, IsMisfitOf, IsRead}
use Rattle.store_journal.specs.declared.fault.OpenFault.{OpenFault}
use Rattle.store_journal.specs.declared.fault.OpenFault.TheVariants.{Foreign, Disk, Memory}
use Rattle.store_journal.proofs.Readers.{header_reads, unit_reads}
use Rattle.store_journal.proofs.Units.{some_octets, closed_none}

-- the text of an area, apart
text_apart : (birth : ℕ) (payloads : List (List ℕ)) (gate : ℕ) (behind : List ℕ) → area_text birth payloads gate ++ behind ≡ header birth ++ (units payloads ++ gate ∷ behind)
text_apart birth payloads gate behind =
    append_assoc (header birth ++ units payloads) (gate ∷ []) behind ∙ append_assoc (header birth) (units payloads) (gate ∷ behind)

-- a text is read as its birth and payloads
pub reading_is : (area : Area) (octets : List ℕ) (birth : ℕ) (payloads : List (List ℕ)) → IsText octets birth payloads → reading area octets ≡ born birth area payloads
reading_is area octets birth payloads is =
    let rest = units payloads ++ is.gate ∷ is.behind in
    let apart : octets ≡ header birth ++ rest = is.text ∙ text_apart birth payloads is.gate is.behind in
    let front : header_at octets ≡ Ok (birth, rest) = ap header_at apart ∙ header_reads.again birth rest (omega (arith, is.small)) in
    let read : many unit_at rest ≡ (payloads, is.gate ∷ is.behind) =
    many_again IsPayload unit unit_at unit_reads some_octets payloads (is.gate ∷ is.behind) (recursion_from_All IsPayload payloads is.sizes) (closed_none is.gate is.behind is.closed) in
    ap (reading_of area octets) front
    ∙ ap (λ (found : List (List ℕ) × List ℕ). cond (begins_closed found.1) (born birth area found.0) (foreign area (length octets - length found.1))) read
    ∙ ap (λ b. cond b (born birth area payloads) (foreign area (length octets - length (is.gate ∷ is.behind)))) (ap not is.closed)

-- how long the front of a text is
pub length-front : (birth : ℕ) (payloads : List (List ℕ)) → length (header birth ++ units payloads) ≡ gate_place payloads
length-front birth payloads = length-append (header birth) (units payloads)

-- the closed gate's place lies within the text
pub place_within : (octets : List ℕ) (birth : ℕ) (payloads : List (List ℕ)) → IsText octets birth payloads → gate_place payloads ≤ length octets
place_within octets birth payloads is =
    omega (arith, ap length is.text, length-append (area_text birth payloads is.gate) is.behind, length-append (header birth ++ units payloads) (is.gate ∷ []), length-front birth payloads)

pub never_pick : (b : Bool) → Some (cond b B A) ≡ Some Pick → ⊥
never_pick true is = cc
never_pick false is = cc

-- what is read of octets that begin with a header
pub header_read : (octets : List ℕ) (birth : ℕ) (rest : List ℕ) → AreOctets octets → header_at octets ≡ Ok (birth, rest) → IsRead octets birth rest
header_read octets birth rest fits read =
    let header_is = subst (Answers (λ (birth : ℕ). birth ≤ 2 ^ 64 - 1) header octets) read (header_reads.answers octets fits) in
    let units_are = many_reads IsPayload unit unit_at unit_reads some_octets rest (AreOctets-rest (header birth) rest (subst AreOctets header_is.1 fits)) in
    record {
      read = read;
      small = omega (arith, header_is.0);
      sizes = All-from_recursion IsPayload (payloads_in rest) units_are.good;
      behind_header = ap (drop 16) header_is.1 ∙ drop_at (header birth) rest 16 refl;
      spelled = header_is.1 ∙ ap (λ l. header birth ++ l) units_are.spells;
    }

-- a fault in reading it has its place among the octets
pub fault_placed : (octets : List ℕ) (fault : ReadFault) → AreOctets octets → Fails fault (header_at octets) → IsPlaced (length octets) fault
fault_placed octets faults.Short fits read = tt
fault_placed octets faults.Memory fits read = tt
fault_placed octets (faults.Malformed place) fits read =
    let wrong = subst (Answers (λ (birth : ℕ). birth ≤ 2 ^ 64 - 1) header octets) read (header_reads.answers octets fits) in
    omega (arith, wrong.at, ap length wrong.parts, length-append wrong.front (wrong.octet ∷ wrong.rest))

-- and the area is foreign there
pub misfit_is : (area : Area) (octets : List ℕ) (fault : ReadFault) (told : OpenFault) → Fails fault (header_at octets) → IsMisfitOf area octets fault told → IsMisfit area octets told
misfit_is area octets faults.Memory told read is = subst (IsMisfit area octets) (sym is) tt
misfit_is area octets faults.Short told read is = subst (IsMisfit area octets) (sym is) (ap (reading_of area octets) read)
misfit_is area octets (faults.Malformed place) told read is = subst (IsMisfit area octets) (sym is) (ap (reading_of area octets) read)

-- where no closed gate stands behind the units, it is foreign at their end
pub gate_misfits : (area : Area) (octets : List ℕ) (birth : ℕ) (rest : List ℕ) → IsRead octets birth rest → begins_closed (behind_units rest) ≡ false → reading area octets ≡ foreign area (length octets - length (behind_units rest))
gate_misfits area octets birth rest read other =
    ap (reading_of area octets) read.read ∙ ap (λ b. cond b (born birth area (payloads_in rest)) (foreign area (length octets - length (behind_units rest)))) other

opened_by : (octets : List ℕ) → begins_closed octets ≡ true → (gate : ℕ) × (behind : List ℕ) × (octets ≡ gate ∷ behind) × (eqb gate 1 ≡ false)
opened_by [] closed = absurd (cc)
opened_by (gate ∷ behind) closed = (gate, behind, refl, not-true (eqb gate 1) closed)

-- and else they are a text
pub text_read : (octets : List ℕ) (birth : ℕ) (rest : List ℕ) → IsRead octets birth rest → begins_closed (behind_units rest) ≡ true → IsText octets birth (payloads_in rest)
text_read octets birth rest read closed =
    let gate = opened_by (behind_units rest) closed in
    record {
      gate = gate.0;
      behind = gate.1;
      closed = gate.3;
      small = read.small;
      sizes = read.sizes;
      text = read.spelled ∙ ap (λ l. header birth ++ (units (payloads_in rest) ++ l)) gate.2 ∙ sym (text_apart birth (payloads_in rest) gate.0 gate.1);
    }

-- the units lie within the octets, and this is their end
pub end_read : (octets : List ℕ) (birth : ℕ) (rest : List ℕ) → IsRead octets birth rest → length octets ≡ gate_place (payloads_in rest) + length (behind_units rest)
end_read octets birth rest read =
    omega (arith, ap length read.spelled, length-append (header birth) (units (payloads_in rest) ++ behind_units rest), length-append (units (payloads_in rest)) (behind_units rest))

-- where the picked area is no text, it is foreign
pub foreign_read : (tells : Bool) (areas : Areas) (area : Area) (octets : List ℕ) (fault : OpenFault) → IsMisfit area octets fault → OnTrue tells (picked areas.pick ≡ Some area) → OnTrue tells (octets ≡ octets_of areas area)
    → OnTrue tells (IsCause areas fault)
foreign_read true areas area octets (Foreign other at) is picks read = ap (standing areas) picks ∙ ap (reading area) (sym read) ∙ is
foreign_read true areas area octets Disk is picks read = tt
foreign_read true areas area octets Memory is picks read = tt
foreign_read false areas area octets fault is picks read = tt

picks_none : (pick : List ℕ) → picked pick ≡ None → pick ≡ []
picks_none [] is = refl
picks_none (first ∷ rest) is = cc

-- an opening finds no payloads in a store that is not born
pub opens_unborn : (tells : Bool) (areas : Areas) (birth : ℕ) → OnTrue tells (stands areas ≡ unborn) → OnTrue tells (OpensAs (stands areas) birth birth A [])
opens_unborn true areas birth is = subst (λ s. OpensAs s birth birth A []) (sym is) (refl, refl, refl)
opens_unborn false areas birth is = tt

-- no payloads are payloads
pub stored_none : (payloads : List (List ℕ)) → payloads ≡ [] → All IsPayload payloads
stored_none [] none = λ k d below. absurd (omega arith)
stored_none (payload ∷ payloads) none = absurd (cc)
