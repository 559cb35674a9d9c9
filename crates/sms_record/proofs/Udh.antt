-- The header of a message, which stands behind its length, is read exactly.
use Rattle.std.proofs.Common.{◌≡◌, ℕ, zero, suc, ◌≤◌, eqb, List, [], ◌∷◌, ◌++◌, length, take, drop, Result, Ok, Err, refl, sym, ap, subst, ◌∙◌, length-append, arith, inl, inr}
use Rattle.std.specs.Prelude.{not}
use Rattle.std.proofs.lemmas.Bool.{ne_eqb, eqb-false, not-true}
use Rattle.std.proofs.lemmas.List.{take_at, drop_at, nil_from_length}
use Rattle.exact_octets.specs.declared.read_fault.ReadFault.{ReadFault}
use Rattle.exact_octets.specs.declared.read_fault.ReadFault.TheVariants as faults
use Rattle.exact_octets.specs.Alphabet.{within}
use Rattle.exact_octets.specs.Spelling.{short}
use Rattle.exact_octets.specs.Reading.{Reader, Fails, behind, both, made, octet_at}
use Rattle.exact_octets.proofs.Readers.{AreOctets, Answers, IsReader, given_reads, then_reads, made_reads, octet_reads, renamed_reads}
use Rattle.exact_octets.proofs.Tests.{and_true, both_true, Between, within_means, within_tests}
use Rattle.exact_octets.proofs.Fields.{between_reads}
use Rattle.sms_record.specs.Header.{Element, elements, IsHeaderOrNone}
use Rattle.sms_record.specs.HeaderReading.{elements_at, udh_of_len_at, is_udh_len, udh_at}
use Rattle.sms_record.specs.Limits.{most_header}
use Rattle.sms_record.proofs.Headers.{Fills, not_one, elements_reads}

abbrev pub IsHeaderOf : ℕ → List ℕ → Type 0
IsHeaderOf len octets = (length octets ≡ len) × IsHeaderOrNone octets

some_header : (left : ℕ) (octets : List ℕ) → IsHeaderOf (suc left) octets → (p : ℕ × List Element) × (Between left left p.0 × Fills left p.1) × (p.0 ∷ elements p.1 ≡ octets) × ((p.0 ∷ []) ++ elements p.1 ≡ octets)
some_header left octets good =
    elim good.1 [
      | inl none ↦ absurd (omega (arith, ap length none, good.0))
      | inr some ↦
          let len : length (elements some.0) ≡ left = omega (arith, ap length some.1, good.0) in
          ((length (elements some.0), some.0), ((omega arith, omega arith), len), sym some.1, sym some.1)
    ]

pub udh_of_len_reads : (len : ℕ) → (len ≡ 2 → ⊥) → IsReader (IsHeaderOf len) (λ xs. xs) (udh_of_len_at len)
unfolding udh_of_len_at
udh_of_len_reads zero some = renamed_reads (given_reads []) (λ xs e. (ap length e, inl e)) (λ xs good. nil_from_length xs good.0) (λ xs e. sym e)
udh_of_len_reads (suc left) some =
    made_reads (λ (x : ℕ × List Element). x.0 ∷ elements x.1) (then_reads (between_reads left left (omega arith)) (λ x good. elements_reads left (λ one. some (omega arith))))
    (record {
      there = λ p good. ((omega (arith, good.1), inr (p.1, ap (λ (n : ℕ). n ∷ elements p.1) (let e : p.0 ≡ length (elements p.1) = omega (arith, good.1, good.0.0, good.0.1) in e))), refl);
      back = some_header left;
    })

udh_len_reads : IsReader (λ len. (len ≤ most_header) × (len ≡ 2 → ⊥)) (λ x. x ∷ []) (octet_at is_udh_len)
udh_len_reads =
    octet_reads is_udh_len (λ len. (len ≤ most_header) × (len ≡ 2 → ⊥))
    (λ x fits e. let t = and_true (within 0 most_header x) (not (eqb x 2)) e in ((within_means 0 most_header x t.0).1, eqb-false x 2 (not-true (eqb x 2) t.1)))
    (λ x good. both_true (within 0 most_header x) (not (eqb x 2)) (within_tests 0 most_header x (omega arith, good.0)) (ap not (ne_eqb x 2 good.1))) (0, (omega arith, λ e. omega arith))

-- no header has two octets
not_two : (octets : List ℕ) → IsHeaderOrNone octets → length octets ≡ 2 → ⊥
not_two octets (inl none) two = omega (arith, ap length none)
not_two octets (inr some) two = not_one some.0 (omega (arith, ap length some.1))

-- a message's header
abbrev pub IsUdh : List ℕ → Type 0
IsUdh octets = (length octets ≤ most_header) × IsHeaderOrNone octets

pub udh_reads : IsReader IsUdh short udh_at
unfolding udh_at
udh_reads =
    made_reads (λ (x : ℕ × List ℕ). x.1) (then_reads udh_len_reads (λ len good. udh_of_len_reads len good.1))
    (record {
      there = λ p good. ((omega (arith, good.1.0, good.0.0), good.1.1), ap (λ (n : ℕ). n ∷ p.1) good.1.0);
      back = λ xs good. ((length xs, xs), ((good.0, not_two xs good.1), (refl, good.1)), refl, refl);
    })

-- ---- a header by its first octet and what stands behind its elements

behind_ok : {A : Type 0} (r : Result (A × List ℕ) ReadFault) (after : List ℕ) → behind r ≡ Ok after → (a : A) × (r ≡ Ok (a, after))
behind_ok (Ok x) after e = let same : x.1 ≡ after = cc in (x.0, ap (λ (t : List ℕ). Ok (x.0, t)) same)
behind_ok (Err fault) after e = absurd cc

-- what fails leaves nothing behind
pub behind_fails : {A : Type 0} (fault : ReadFault) (r : Result (A × List ℕ) ReadFault) → Fails fault r → Fails fault (behind r)
behind_fails faults.Short r h = rw h refl
behind_fails (faults.Malformed left) r h = rw h refl
behind_fails faults.Memory r h = tt

fails_behind : {A : Type 0} (fault : ReadFault) (r : Result (A × List ℕ) ReadFault) → Fails fault (behind r) → Fails fault r
fails_behind fault (Ok x) h = none fault h
  where
    none : (fault : ReadFault) → Fails fault (behind (Ok x)) → Fails fault (Ok x)
    none faults.Short h = absurd cc
    none (faults.Malformed left) h = absurd cc
    none faults.Memory h = tt
fails_behind faults.Short (Err f) h = let same : f ≡ faults.Short = cc in ap (λ (g : ReadFault). Err g) same
fails_behind (faults.Malformed left) (Err f) h = let same : f ≡ faults.Malformed left = cc in ap (λ (g : ReadFault). Err g) same
fails_behind faults.Memory (Err f) h = tt

abbrev IsCut : ℕ → List ℕ → Result (List ℕ × List ℕ) ReadFault → Type 0
IsCut len octets read = (len ≤ length octets) × (read ≡ Ok (take len octets, drop len octets))

-- the header as it is read, where so many octets follow the first
abbrev udh_as_read : ℕ → Reader (List ℕ)
udh_as_read left = made (λ (x : ℕ × List Element). x.0 ∷ elements x.1) (both (octet_at (within left left)) (λ x. elements_at left))

udh_some : (len left : ℕ) (octets : List ℕ) → len ≡ suc left → udh_of_len_at len octets ≡ udh_as_read left octets
unfolding udh_of_len_at
udh_some zero left octets is = absurd (omega arith)
udh_some (suc n) left octets is = let same : n ≡ left = omega arith in ap (λ (m : ℕ). udh_as_read m octets) same

pub udh_none : (len : ℕ) (octets : List ℕ) → len ≡ 0 → udh_of_len_at len octets ≡ Ok ([], octets)
unfolding udh_of_len_at
udh_none zero octets none = refl
udh_none (suc n) octets none = absurd (omega arith)

udh_cut : (len left x : ℕ) (es : List Element) (octets rest after : List ℕ) → len ≡ suc left → (len ≡ 2 → ⊥) → AreOctets octets → octet_at (within left left) octets ≡ Ok (x, rest) → elements_at left rest ≡ Ok (es, after)
    → IsCut len octets (udh_of_len_at len octets)
udh_cut len left x es octets rest after is some fits first others =
    let read : udh_of_len_at len octets ≡ Ok (x ∷ elements es, after) = udh_some len left octets is ∙ rw (first, others) refl in
    let answer : Answers (IsHeaderOf len) (λ xs. xs) octets (Ok (x ∷ elements es, after)) = subst (Answers (IsHeaderOf len) (λ xs. xs) octets) read ((udh_of_len_reads len some).answers octets fits) in
    let front : take len octets ≡ x ∷ elements es = ap (take len) answer.1 ∙ take_at (x ∷ elements es) after len answer.0.0 in
    let back : drop len octets ≡ after = ap (drop len) answer.1 ∙ drop_at (x ∷ elements es) after len answer.0.0 in
    (omega (arith, ap length answer.1, length-append (x ∷ elements es) after, answer.0.0), rw (front, back) read)

-- it is as many octets as its length says
pub udh_whole : (len left x : ℕ) (octets rest after : List ℕ) → len ≡ suc left → (len ≡ 2 → ⊥) → AreOctets octets → octet_at (within left left) octets ≡ Ok (x, rest) → behind (elements_at left rest) ≡ Ok after
    → IsCut len octets (udh_of_len_at len octets)
udh_whole len left x octets rest after is some fits first others =
    let found = behind_ok (elements_at left rest) after others in udh_cut len left x found.0 octets rest after is some fits first found.1

-- its first octet failed
pub udh_failed : (fault : ReadFault) (len left : ℕ) (octets : List ℕ) → len ≡ suc left → Fails fault (octet_at (within left left) octets) → Fails fault (udh_of_len_at len octets)
udh_failed faults.Memory len left octets is h = tt
udh_failed faults.Short len left octets is h = udh_some len left octets is ∙ rw h refl
udh_failed (faults.Malformed at) len left octets is h = udh_some len left octets is ∙ rw h refl

-- its elements failed
pub others_failed : (fault : ReadFault) (len left x : ℕ) (octets rest : List ℕ) → len ≡ suc left → octet_at (within left left) octets ≡ Ok (x, rest) → Fails fault (behind (elements_at left rest)) → Fails fault (udh_of_len_at len octets)
others_failed fault len left x octets rest is first h = failed fault (fails_behind fault (elements_at left rest) h)
  where
    failed : (fault : ReadFault) → Fails fault (elements_at left rest) → Fails fault (udh_of_len_at len octets)
    failed faults.Memory h = tt
    failed faults.Short h = udh_some len left octets is ∙ rw (first, h) refl
    failed (faults.Malformed at) h = udh_some len left octets is ∙ rw (first, h) refl
