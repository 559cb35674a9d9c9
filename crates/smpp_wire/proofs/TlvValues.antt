-- Looking up a value: among the parameters that are left, the first with the tag is the same.
use Rattle.std.proofs.Common.{◌≡◌, ◌≢◌, ℕ, ◌-◌, ◌<◌, ◌≤◌, true, false, eqb, List, [], ◌∷◌, ◌++◌, length, Some, None, Result, Ok, refl, sym, ap, subst, ◌∙◌, length-append, arith}
use Rattle.std.specs.List.{flat_map, AllByRecursion}
use Rattle.std.proofs.lemmas.Bool.{eq-eqb, ne_eqb}
use Rattle.exact_octets.specs.declared.read_fault.ReadFault.{ReadFault}
use Rattle.exact_octets.specs.declared.read_fault.ReadFault.TheVariants as faults
use Rattle.exact_octets.specs.Reading.{Fails, IsOfOctets}
use Rattle.exact_octets.proofs.Readers.{AreOctets, AreOctets-rest, Answers, ok_is}
use Rattle.smpp_wire.specs.declared.room.Room.TheVariants.{Tlvs}
use Rattle.smpp_wire.specs.Grammar.{Tlv, IsTlv, tlv}
use Rattle.smpp_wire.specs.Reading.{tlv_at}
use Rattle.smpp_wire.specs.Tlvs.{first_value}
use Rattle.smpp_wire.proofs.Rooms.{Fits}
use Rattle.smpp_wire.proofs.Parts.{Leaves}
use Rattle.smpp_wire.proofs.Tlvs.{tlv_len, tlv_reads, tlvs_can}

-- whatever parameters the octets are of, those of the rest have the same first value with the tag
abbrev pub Remains : ℕ → List ℕ → List ℕ → Type 0
Remains tag octets rest =
    (ts : List Tlv) → AllByRecursion IsTlv ts → flat_map tlv ts ≡ octets → (us : List Tlv) × AllByRecursion IsTlv us × (flat_map tlv us ≡ rest) × (first_value tag ts ≡ first_value tag us)

pub remains_all : (tag : ℕ) (octets : List ℕ) → Remains tag octets octets
remains_all tag octets ts good e = (ts, good, e, refl)

abbrev done : Tlv → List ℕ → Result (Tlv × List ℕ) ReadFault
done t behind = Ok (t, behind)

-- the first of the parameters that are left is read
first_read : (t : Tlv) (ts : List Tlv) (rest : List ℕ) → 4 ≤ length rest → AllByRecursion IsTlv (t ∷ ts) → flat_map tlv (t ∷ ts) ≡ rest → tlv_at (length rest) rest ≡ done t (flat_map tlv ts)
first_read t ts rest le good e =
    let len : length (tlv t ++ flat_map tlv ts) ≡ length rest = ap length e in
    let app = length-append (tlv t) (flat_map tlv ts) in
    let left : length (flat_map tlv ts) ≡ length rest - length (tlv t) = omega arith in
    ap (tlv_at (length rest)) (sym e) ∙ (tlv_reads (length rest) le).again t (flat_map tlv ts) (good.0, omega arith, subst (Fits Tlvs) left (tlvs_can ts good.1))

pub remains_more : (tag : ℕ) (octets rest : List ℕ) (t : Tlv) (behind : List ℕ) → 4 ≤ length rest → tlv_at (length rest) rest ≡ done t behind → t.tag ≢ tag → Remains tag octets rest → Remains tag octets behind
remains_more tag octets rest t behind le read other r ts good e = more (r ts good e)
  where
    more : (w : (us : List Tlv) × AllByRecursion IsTlv us × (flat_map tlv us ≡ rest) × (first_value tag ts ≡ first_value tag us)) → (us : List Tlv) × AllByRecursion IsTlv us × (flat_map tlv us ≡ behind) × (first_value tag ts ≡ first_value tag us)
    more w = go w.0 w.1 w.2 w.3
      where
        go : (us : List Tlv) → AllByRecursion IsTlv us → flat_map tlv us ≡ rest → first_value tag ts ≡ first_value tag us → (vs : List Tlv) × AllByRecursion IsTlv vs × (flat_map tlv vs ≡ behind) × (first_value tag ts ≡ first_value tag vs)
        go [] all spells same = absurd (omega (arith, le, ap length spells))
        go (u ∷ us) all spells same =
            let pair = ok_is (u, flat_map tlv us) (t, behind) (sym (first_read u us rest le all spells) ∙ read) in
            let is : u ≡ t = ap (λ (p : Tlv × List ℕ). p.0) pair in
            let no : eqb u.tag tag ≡ false = ne_eqb u.tag tag (λ e. other (ap (λ (v : Tlv). v.tag) (sym is) ∙ e)) in
            (us, all.1, ap (λ (p : Tlv × List ℕ). p.1) pair, same ∙ rw no refl)

pub remains_found : (tag : ℕ) (octets rest : List ℕ) (t : Tlv) (behind : List ℕ) → 4 ≤ length rest → tlv_at (length rest) rest ≡ done t behind → t.tag ≡ tag → Remains tag octets rest
    → (ts : List Tlv) → AllByRecursion IsTlv ts → flat_map tlv ts ≡ octets → first_value tag ts ≡ Some t.value
remains_found tag octets rest t behind le read same_tag r ts good e = let w = r ts good e in go w.0 w.1 w.2 w.3
  where
    go : (us : List Tlv) → AllByRecursion IsTlv us → flat_map tlv us ≡ rest → first_value tag ts ≡ first_value tag us → first_value tag ts ≡ Some t.value
    go [] all spells same = absurd (omega (arith, le, ap length spells))
    go (u ∷ us) all spells same =
        let pair = ok_is (u, flat_map tlv us) (t, behind) (sym (first_read u us rest le all spells) ∙ read) in
        let is : u ≡ t = ap (λ (p : Tlv × List ℕ). p.0) pair in
        let yes : eqb u.tag tag ≡ true = eq-eqb u.tag tag (ap (λ (v : Tlv). v.tag) is ∙ same_tag) in
        same ∙ rw yes (ap (λ (v : Tlv). Some v.value) is)

fails_not : (fault : ReadFault) (t : Tlv) (behind : List ℕ) (r : Result (Tlv × List ℕ) ReadFault) → IsOfOctets fault → Fails fault r → r ≡ done t behind → ⊥
fails_not faults.Short t behind r of h e = cc (h, e)
fails_not (faults.Malformed left) t behind r of h e = cc (h, e)
fails_not faults.Memory t behind r of h e = of

pub remains_failed : (tag : ℕ) (octets rest : List ℕ) (fault : ReadFault) → 4 ≤ length rest → IsOfOctets fault → Fails fault (tlv_at (length rest) rest) → Remains tag octets rest
    → (ts : List Tlv) → AllByRecursion IsTlv ts → flat_map tlv ts ≡ octets → first_value tag ts ≡ None
remains_failed tag octets rest fault le of h r ts good e = let w = r ts good e in go w.0 w.1 w.2 w.3
  where
    go : (us : List Tlv) → AllByRecursion IsTlv us → flat_map tlv us ≡ rest → first_value tag ts ≡ first_value tag us → first_value tag ts ≡ None
    go [] all spells same = absurd (omega (arith, le, ap length spells))
    go (u ∷ us) all spells same = absurd (fails_not fault u (flat_map tlv us) (tlv_at (length rest) rest) of h (first_read u us rest le all spells))

pub remains_none : (tag : ℕ) (octets rest : List ℕ) → length rest < 4 → Remains tag octets rest → (ts : List Tlv) → AllByRecursion IsTlv ts → flat_map tlv ts ≡ octets → first_value tag ts ≡ None
remains_none tag octets rest lt r ts good e = let w = r ts good e in go w.0 w.1 w.2 w.3
  where
    go : (us : List Tlv) → AllByRecursion IsTlv us → flat_map tlv us ≡ rest → first_value tag ts ≡ first_value tag us → first_value tag ts ≡ None
    go [] all spells same = same
    go (u ∷ us) all spells same = absurd (omega (arith, lt, ap length spells, tlv_len u, length-append (tlv u) (flat_map tlv us)))

-- what stands behind a parameter is shorter, and octets
pub behind_shorter : (rest : List ℕ) (t : Tlv) (behind : List ℕ) → 4 ≤ length rest → AreOctets rest → tlv_at (length rest) rest ≡ done t behind → (length behind < length rest) × AreOctets behind
behind_shorter rest t behind le are read =
    let answer : Answers (Leaves IsTlv tlv (Fits Tlvs) (length rest)) tlv rest (done t behind) = subst (Answers (Leaves IsTlv tlv (Fits Tlvs) (length rest)) tlv rest) read ((tlv_reads (length rest) le).answers rest are) in
    (omega (arith, ap length answer.1, length-append (tlv t) behind, tlv_len t), AreOctets-rest (tlv t) behind (subst AreOctets answer.1 are))
