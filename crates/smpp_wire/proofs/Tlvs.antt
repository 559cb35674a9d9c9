-- Optional parameters, and a message behind its length, are read exactly.
use Rattle.std.proofs.Common.{◌≡◌, ℕ, suc, ◌+◌, ◌-◌, ◌*◌, ◌/◌, ◌%◌, ◌<◌, ◌≤◌, true, leb, eqb, List, [], ◌∷◌, ◌++◌, length, take, drop, Result, Ok, Err, refl, sym, ap, subst, ◌∙◌, append_assoc, length-append, arith, inl, inr, ◌⊎◌}
use Rattle.std.specs.Prelude.{◌&&◌}
use Rattle.std.specs.List.{flat_map, AllByRecursion}
use Rattle.std.proofs.lemmas.Bool.{leb-true, le-leb, eqb-true, eq-eqb, and_parts, and_from, or_cases, or_left, or_right, cases_lt}
use Rattle.exact_octets.specs.declared.alphabet.Alphabet.TheVariants.{Any as AnyOctet}
use Rattle.exact_octets.specs.Numbers.{number}
use Rattle.exact_octets.specs.Spelling.{short}
use Rattle.std.proofs.lemmas.List.{append-nil, take_at, drop_at}
use Rattle.exact_octets.specs.declared.read_fault.ReadFault.{ReadFault}
use Rattle.exact_octets.specs.declared.read_fault.ReadFault.TheVariants as faults
use Rattle.exact_octets.specs.Reading.{◌>>=◌, Fails, behind, octet_at, filled_at}
use Rattle.exact_octets.proofs.Readers.{AreOctets, Answers, IsReader, then_reads, made_reads, octet_reads}
use Rattle.exact_octets.proofs.Digits.{up_to_reads}
use Rattle.exact_octets.proofs.Fields.{text_reads}
use Rattle.exact_octets.proofs.Filled.{Fill, filled_reads}
use Rattle.smpp_wire.specs.declared.room.Room.TheVariants.{From, Tlvs}
use Rattle.smpp_wire.specs.Grammar.{tlv_of, Tlv, IsTlv, tlv, AreTlvs}
use Rattle.smpp_wire.specs.Room.{fits}
use Rattle.smpp_wire.specs.Reading.{is_high_len, is_value_len, value_len_at, tlv_at, tlvs_at, is_message_len, short_message_at}
use Rattle.smpp_wire.proofs.Rooms.{Fits, fits_means, fits_tests}
use Rattle.smpp_wire.proofs.Parts.{Leaves, IsPart, IsNone, Fills, part_of}

-- ---- the length of a value

abbrev IsHighLen : ℕ → ℕ → Type 0
IsHighLen left high = (high < 256) × (high * 256 + 4 ≤ left)

high_reads : (left : ℕ) → 4 ≤ left → IsReader (IsHighLen left) (λ x. x ∷ []) (octet_at (is_high_len left))
high_reads left le =
    octet_reads (is_high_len left) (IsHighLen left)
    (λ x below e. (below, leb-true (x * 256 + 4) left e)) (λ x good. le-leb (x * 256 + 4) left good.1) (0, (omega arith, omega (arith, le)))

-- behind the value stand no octets, or at least four
abbrev IsValueLen : ℕ → ℕ → Type 0
IsValueLen left len = (len + 4 ≡ left) ⊎ (len + 8 ≤ left)

value_len_means : (left len : ℕ) → is_value_len left len ≡ true → IsValueLen left len
value_len_means left len e = elim (or_cases (eqb (len + 4) left) (leb (len + 8) left) e) [ inl last ↦ inl (eqb-true (len + 4) left last) | inr more ↦ inr (leb-true (len + 8) left more) ]

value_len_tests : (left len : ℕ) → IsValueLen left len → is_value_len left len ≡ true
value_len_tests left len good = elim good [ inl last ↦ or_left (eqb (len + 4) left) (leb (len + 8) left) (eq-eqb (len + 4) left last) | inr more ↦ or_right (eqb (len + 4) left) (leb (len + 8) left) (le-leb (len + 8) left more) ]

abbrev IsLowLen : ℕ → ℕ → ℕ → Type 0
IsLowLen left high low = (low < 256) × IsValueLen left (high * 256 + low)

low_example : (left high : ℕ) → IsHighLen left high → (low : ℕ) × IsLowLen left high low
low_example left high good =
    elim (cases_lt left (high * 256 + 8)) [
      | inl lt ↦ (left - (high * 256 + 4), (omega (arith, good.1, lt), inl (omega (arith, good.1, lt))))
      | inr le ↦ (0, (omega arith, inr (omega (arith, le))))
    ]

low_reads : (left high : ℕ) → IsHighLen left high → IsReader (IsLowLen left high) (λ x. x ∷ []) (octet_at (λ low. is_value_len left (high * 256 + low)))
low_reads left high good =
    octet_reads (λ low. is_value_len left (high * 256 + low)) (IsLowLen left high)
    (λ x below e. (below, value_len_means left (high * 256 + x) e)) (λ x good. value_len_tests left (high * 256 + x) good.1) (low_example left high good)

abbrev IsLen : ℕ → ℕ → Type 0
IsLen left len = (len < 65536) × IsValueLen left len

two_octets : (high low : ℕ) → high < 256 → low < 256 → number 2 (high * 256 + low) ≡ high ∷ low ∷ []
two_octets high low p q =
    let h : (high * 256 + low) / 256 % 256 ≡ high = omega (arith, p, q) in
    let l : (high * 256 + low) % 256 ≡ low = omega (arith, q) in
    ap (λ (o : ℕ). o ∷ (high * 256 + low) % 256 ∷ []) h ∙ ap (λ (o : ℕ). high ∷ o ∷ []) l

pub value_len_reads : (left : ℕ) → 4 ≤ left → IsReader (IsLen left) (number 2) (value_len_at left)
unfolding value_len_at
value_len_reads left le =
    made_reads (λ (x : ℕ × ℕ). x.0 * 256 + x.1) (then_reads (high_reads left le) (low_reads left))
    (record {
      there = λ p good. ((omega (arith, good.0.0, good.1.0), good.1.1), two_octets p.0 p.1 good.0.0 good.1.0);
      back = λ len good.
          let whole : len / 256 * 256 + len % 256 ≡ len = omega arith in
          let high : len / 256 < 256 = omega (arith, good.0) in
          let low : len % 256 < 256 = omega arith in
          let le : len / 256 * 256 + 4 ≤ left = elim good.1 [ inl last ↦ omega (arith, last) | inr more ↦ omega (arith, more) ] in
          ((len / 256, len % 256), ((high, le), (low, subst (IsValueLen left) (sym whole) good.1)), whole, sym (two_octets (len / 256) (len % 256) high low) ∙ ap (number 2) whole);
    })

-- ---- a parameter, where so many octets are left for it and those behind it

pub tlv_len : (t : Tlv) → length (tlv t) ≡ length t.value + 4
tlv_len t = omega arith

tlv_there : (left tag len : ℕ) (value : List ℕ) → 4 ≤ left → tag ≤ 65535 → IsLen left len → length value ≡ len → Leaves IsTlv tlv (Fits Tlvs) left (tlv_of tag value)
tlv_there left tag len value le tag-le good is =
    let l = tlv_len (tlv_of tag value) in
    elim good.1 [
      | inl last ↦ ((omega (arith, tag-le), omega (arith, is, good.0)), omega (arith, l, is, last), inl (omega (arith, l, is, last)))
      | inr more ↦ ((omega (arith, tag-le), omega (arith, is, good.0)), omega (arith, l, is, more), inr (omega (arith, l, is, more)))
    ]

value_len_of : (left : ℕ) (t : Tlv) → Leaves IsTlv tlv (Fits Tlvs) left t → IsLen left (length t.value)
value_len_of left t leaves =
    let l = tlv_len t in
    elim leaves.2 [
      | inl none ↦ (omega (arith, leaves.0.1), inl (omega (arith, l, leaves.1, none)))
      | inr some ↦ (omega (arith, leaves.0.1), inr (omega (arith, l, leaves.1, some)))
    ]

pub tlv_reads : (left : ℕ) → 4 ≤ left → IsReader (Leaves IsTlv tlv (Fits Tlvs) left) tlv (tlv_at left)
unfolding tlv_at
tlv_reads left le =
    made_reads (λ (x : ℕ × (ℕ × List ℕ)). tlv_of x.0 x.1.1)
    (then_reads (up_to_reads 2 65535 (omega arith)) (λ tag good. then_reads (value_len_reads left le) (λ len good. text_reads AnyOctet len)))
    (record {
      there = λ p good. (tlv_there left p.0 p.1.0 p.1.1 le good.0 good.1.0 good.1.1.0, ap (λ (n : ℕ). number 2 p.0 ++ (number 2 n ++ p.1.1)) good.1.1.0);
      back = λ t leaves. ((t.tag, (length t.value, t.value)), (omega (arith, leaves.0.0), (value_len_of left t leaves, (refl, λ k d lt. tt))), refl, refl);
    })

pub tlvs_can : (ts : List Tlv) → AllByRecursion IsTlv ts → Fits Tlvs (length (flat_map tlv ts))
tlvs_can [] good = inl refl
tlvs_can (t ∷ ts) good = inr (omega (arith, tlv_len t, length-append (tlv t) (flat_map tlv ts)))

some_left : (left : ℕ) → 0 < left → Fits Tlvs left → 4 ≤ left
some_left left some f = elim f [ inl none ↦ absurd (omega (arith, none)) | inr le ↦ le ]

filled_tlvs : (left : ℕ) → Fits Tlvs left → IsReader (Fill IsTlv tlv tlv_at (Fits Tlvs) left) (flat_map tlv) (filled_at tlv_at tlv left)
filled_tlvs = filled_reads IsTlv tlv tlv_at (Fits Tlvs) (λ left some f. tlv_reads left (some_left left some f)) (λ t good. omega (arith, tlv_len t)) tlvs_can

-- parameters that fill so many octets
pub tlvs_reads : (left : ℕ) → Fits Tlvs left → IsReader (Fills AreTlvs (λ xs. xs) left) (λ xs. xs) (tlvs_at left)
unfolding tlvs_at
tlvs_reads left f =
    made_reads (flat_map tlv) (filled_tlvs left f)
    (record {
      there = λ ts fill. (((ts, fill.0, refl), fill.1), refl);
      back = λ octets good. (good.0.0, (good.0.1, ap length good.0.2 ∙ good.1), good.0.2, good.0.2);
    })

pub tlvs_part : IsPart AreTlvs (λ xs. xs) tlvs_at (Fits Tlvs) IsNone
tlvs_part = part_of tlvs_reads (λ octets good. subst (λ (xs : List ℕ). Fits Tlvs (length xs)) good.2 (tlvs_can good.0 good.1))

-- ---- a message behind its length

abbrev IsMessageLen : ℕ → ℕ → Type 0
IsMessageLen left len = (len ≤ 254) × (suc len ≤ left) × Fits Tlvs (left - suc len)

message_len_means : (left len : ℕ) → is_message_len left len ≡ true → IsMessageLen left len
message_len_means left len e =
    let t = and_parts (leb len 254) (leb (suc len) left && fits Tlvs (left - suc len)) e in
    let u = and_parts (leb (suc len) left) (fits Tlvs (left - suc len)) t.1 in
    (leb-true len 254 t.0, leb-true (suc len) left u.0, fits_means Tlvs (left - suc len) u.1)

message_len_tests : (left len : ℕ) → IsMessageLen left len → is_message_len left len ≡ true
message_len_tests left len good =
    and_from (leb len 254) (leb (suc len) left && fits Tlvs (left - suc len)) (le-leb len 254 good.0)
    (and_from (leb (suc len) left) (fits Tlvs (left - suc len)) (le-leb (suc len) left good.1) (fits_tests Tlvs (left - suc len) good.2))

message_len_example : (left : ℕ) → 1 ≤ left → (len : ℕ) × IsMessageLen left len
message_len_example left some =
    elim (cases_lt left 5) [
      | inl lt ↦ (left - 1, (omega (arith, lt), omega (arith, some), inl (omega (arith, some))))
      | inr le ↦ (0, (omega arith, some, inr (omega (arith, le))))
    ]

abbrev pub IsShort : List ℕ → Type 0
IsShort text = length text ≤ 254

pub short_message_part : IsPart IsShort short short_message_at (Fits (From 1)) (Fits Tlvs)
unfolding short_message_at
short_message_part = record {
  reads = λ left some.
      made_reads (λ (x : ℕ × List ℕ). x.1)
      (then_reads (octet_reads (is_message_len left) (IsMessageLen left) (λ x below e. message_len_means left x e) (message_len_tests left) (message_len_example left some)) (λ len good. text_reads AnyOctet len))
      (record {
        there = λ p good.
            let len : suc p.0 ≡ suc (length p.1) = omega (arith, good.1.0) in
            ((omega (arith, good.0.0, good.1.0), omega (arith, good.0.1, good.1.0), subst (λ (n : ℕ). Fits Tlvs (left - n)) len good.0.2), ap (λ (n : ℕ). n ∷ p.1) good.1.0);
        back = λ text leaves. ((length text, text), ((leaves.0, leaves.1, leaves.2), (refl, λ k d lt. tt)), refl, refl);
      });
  can = λ text good n rest. omega arith;
}

-- ---- parameters by what stands behind them

-- what fails leaves nothing behind
pub behind_fails : {A : Type 0} (fault : ReadFault) (r : Result (A × List ℕ) ReadFault) → Fails fault r → Fails fault (behind r)
behind_fails faults.Short r h = rw h refl
behind_fails (faults.Malformed left) r h = rw h refl
behind_fails faults.Memory r h = tt

abbrev renamed : {A C : Type 0} → (A → C) → Result (A × List ℕ) ReadFault → Result (C × List ℕ) ReadFault
renamed f r = r >>= λ x. Ok (f x.0, x.1)

-- nor is anything made of it
fails_made : {A C : Type 0} (f : A → C) (fault : ReadFault) (r : Result (A × List ℕ) ReadFault) → Fails fault (behind r) → Fails fault (renamed f r)
fails_made f faults.Memory r h = tt
fails_made f faults.Short (Ok x) h = absurd cc
fails_made f (faults.Malformed left) (Ok x) h = absurd cc
fails_made f faults.Short (Err fault) h = let same : fault ≡ faults.Short = cc in ap (λ (g : ReadFault). Err g) same
fails_made f (faults.Malformed left) (Err fault) h = let same : fault ≡ faults.Malformed left = cc in ap (λ (g : ReadFault). Err g) same

pub tlvs_failed : (fault : ReadFault) (left : ℕ) (octets : List ℕ) → Fails fault (behind (filled_at tlv_at tlv left octets)) → Fails fault (tlvs_at left octets)
unfolding tlvs_at
tlvs_failed fault left octets h = fails_made (flat_map tlv) fault (filled_at tlv_at tlv left octets) h

behind_ok : {A : Type 0} (r : Result (A × List ℕ) ReadFault) (after : List ℕ) → behind r ≡ Ok after → (a : A) × (r ≡ Ok (a, after))
behind_ok (Ok x) after e = let same : x.1 ≡ after = cc in (x.0, ap (λ (t : List ℕ). Ok (x.0, t)) same)
behind_ok (Err fault) after e = absurd cc

-- they are as many octets as are left for them
pub tlvs_whole : (left : ℕ) (octets after : List ℕ) → Fits Tlvs left → AreOctets octets → behind (filled_at tlv_at tlv left octets) ≡ Ok after → (left ≤ length octets) × (tlvs_at left octets ≡ Ok (take left octets, drop left octets))
unfolding tlvs_at
tlvs_whole left octets after f are e =
    let found = behind_ok (filled_at tlv_at tlv left octets) after e in
    let read : tlvs_at left octets ≡ Ok (flat_map tlv found.0, after) = ap (renamed (flat_map tlv)) found.1 in
    let answer : Answers (Fills AreTlvs (λ xs. xs) left) (λ xs. xs) octets (Ok (flat_map tlv found.0, after)) = subst (Answers (Fills AreTlvs (λ xs. xs) left) (λ xs. xs) octets) read ((tlvs_reads left f).answers octets are) in
    let front : take left octets ≡ flat_map tlv found.0 = ap (take left) answer.1 ∙ take_at (flat_map tlv found.0) after left answer.0.1 in
    let back : drop left octets ≡ after = ap (drop left) answer.1 ∙ drop_at (flat_map tlv found.0) after left answer.0.1 in
    (omega (arith, ap length answer.1, length-append (flat_map tlv found.0) after, answer.0.1), rw (front, back) read)

-- ---- one parameter more

all_last : (ts : List Tlv) (t : Tlv) → AllByRecursion IsTlv ts → IsTlv t → AllByRecursion IsTlv (ts ++ t ∷ [])
all_last [] t good is = (is, tt)
all_last (u ∷ ts) t good is = (good.0, all_last ts t good.1 is)

tlvs_last : (ts : List Tlv) (t : Tlv) → flat_map tlv (ts ++ t ∷ []) ≡ flat_map tlv ts ++ tlv t
tlvs_last [] t = append-nil (tlv t)
tlvs_last (u ∷ ts) t = ap (λ (xs : List ℕ). tlv u ++ xs) (tlvs_last ts t) ∙ sym (append_assoc (tlv u) (flat_map tlv ts) (tlv t))

-- behind whole parameters a further one makes whole parameters
pub tlvs_more : (octets : List ℕ) (t : Tlv) → IsTlv t → AreTlvs octets → AreTlvs (octets ++ tlv t)
tlvs_more octets t is are = (are.0 ++ t ∷ [], all_last are.0 t are.1 is, tlvs_last are.0 t ∙ ap (λ (xs : List ℕ). xs ++ tlv t) are.2)
