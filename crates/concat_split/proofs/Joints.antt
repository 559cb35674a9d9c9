-- What is read of a header is what its elements say, and octets that could not be read cease to begin a header where the fault stands.
use Rattle.std.proofs.Common.{◌≡◌, ℕ, zero, suc, ◌+◌, ◌-◌, ◌<◌, ◌≤◌, List, [], ◌∷◌, ◌++◌, length, take, Option, Some, None, Result, Ok, Err, refl, sym, ap, subst, ◌∙◌, arith, inl, inr}
use Rattle.std.specs.Option.{option_or}
use Rattle.std.specs.Borrow.{Bor}
use Rattle.std.proofs.Math.Seq.{take-length}
use Rattle.std.proofs.lemmas.Bool.{cases_lt}
use Rattle.std.proofs.lemmas.List.{append-nil}
use Rattle.exact_octets.specs.declared.read_fault.ReadFault.{ReadFault}
use Rattle.exact_octets.specs.declared.read_fault.ReadFault.TheVariants as faults
use Rattle.exact_octets.specs.declared.record_fault.RecordFault.TheVariants as told
use Rattle.exact_octets.specs.Reading.{Gives, Fails, both, made, given, octet_at}
use Rattle.exact_octets.specs.Telling.{IsWithin, behind_told, all_told}
use Rattle.exact_octets.specs.Fronts.{Begins, IsSpelled, ReadsAll}
use Rattle.exact_octets.proofs.Readers.{AreOctets, ok_is}
use Rattle.exact_octets.proofs.Fronts.{begins_earlier, lies_within, reads_all}
use Rattle.sms_record.specs.Header.{Element, elements, header, IsHeader}
use Rattle.sms_record.specs.HeaderReading.{is_count, elements_at, header_at}
use Rattle.sms_record.proofs.Headers.{header_reads}
use Rattle.concat_split.specs.declared.joint.Joint.{Joint}
use Rattle.concat_split.specs.Joint.{joint_of, first_joint, BeginsHeader, IsMalformedAt}

-- ---- what elements say

-- one element more says something only where those before it don't
pub first_joint-last : (es : List Element) (e : Element) → first_joint (es ++ e ∷ []) ≡ option_or (first_joint es) (joint_of e)
first_joint-last [] e = or_none (joint_of e)
  where
    or_none : (j : Option Joint) → option_or j None ≡ j
    or_none None = refl
    or_none (Some x) = refl
first_joint-last (f ∷ es) e = ap (λ (j : Option Joint). option_or (joint_of f) j) (first_joint-last es e) ∙ or_assoc (joint_of f) (first_joint es) (joint_of e)
  where
    or_assoc : (a b c : Option Joint) → option_or a (option_or b c) ≡ option_or (option_or a b) c
    or_assoc None b c = refl
    or_assoc (Some x) b c = refl

-- ---- what reading them says

abbrev pub Read : Type 0
Read = Result (List Element × List ℕ) ReadFault

abbrev pub said : Read → Result (Option Joint × List ℕ) ReadFault
said read = made first_joint (λ octets. read) []

pub said_fails : (fault : ReadFault) (read : Read) → Fails fault read → Fails fault (said read)
said_fails faults.Short read h = rw h refl
said_fails (faults.Malformed left) read h = rw h refl
said_fails faults.Memory read h = tt

-- the first octet of a header failed
pub count_fails : (fault : ReadFault) (octets : List ℕ) → Fails fault (octet_at is_count octets) → Fails fault (said (header_at octets))
unfolding header_at
count_fails faults.Short octets h = rw h refl
count_fails (faults.Malformed left) octets h = rw h refl
count_fails faults.Memory octets h = tt

-- a header says what its elements say
pub count_says : (count : ℕ) (octets rest : List ℕ) → octet_at is_count octets ≡ Ok (count, rest) → said (header_at octets) ≡ said (elements_at count rest)
unfolding header_at
count_says count octets rest h = rw h (same (elements_at count rest))
  where
    same : (read : Read) → said (made (λ (x : ℕ × List Element). x.1) (both (given count) (λ x after. read)) rest) ≡ said read
    same (Ok x) = refl
    same (Err fault) = refl

failed : (fault : ReadFault) (read : Read) → said read ≡ Err fault → read ≡ Err fault
failed fault (Ok x) e = absurd cc
failed fault (Err f) e = let same : f ≡ fault = cc in ap (λ (g : ReadFault). Err g) same

-- ---- what is told of octets with a first one

-- the elements of a header, whose octets one octet counts
abbrev Fits : List Element → Type 0
Fits es = length (elements es) < 256

abbrev lifted : Read → Result (List Element × Bor (List ℕ)) ReadFault
lifted (Ok x) = Ok (x.0, record { ref_ptr = (0, 0); now = x.1 })
lifted (Err fault) = Err fault

lifted_gives : (read : Read) → Gives (λ (x : List Element × Bor (List ℕ)). (x.0, x.1.now)) (lifted read) read
lifted_gives (Ok x) = refl
lifted_gives (Err faults.Short) = refl
lifted_gives (Err (faults.Malformed left)) = refl
lifted_gives (Err faults.Memory) = tt

-- octets that begin a header have its count
fits : (udh rest : List ℕ) (n : ℕ) (es : List Element) → AreOctets udh → 0 < length udh → 0 < n → take n udh ++ rest ≡ header es → Fits es
fits [] rest n es octets some more e = absurd (omega arith)
fits (octet ∷ udh) rest zero es octets some more e = absurd (omega arith)
fits (octet ∷ udh) rest (suc n) es octets some more e =
    let same : octet ≡ length (elements es) = cc in
    omega (arith, octets 0)

-- the last octets are so many, and where they begin a header ceases
abbrev pub Ceases : List ℕ → ℕ → Type 0
Ceases udh left = (left ≤ length udh) × IsMalformedAt udh (length udh - left)

module _ (udh : List ℕ) (octets : AreOctets udh) (some : 0 < length udh) where
  begun : (n : ℕ) → 0 < n → BeginsHeader (take n udh) → Begins (IsSpelled Fits header) (take n udh)
  begun n more b = record { more = b.0; whole = (b.1.0, fits udh b.0 n b.1.0 octets some more b.1.1, b.1.1) }

  whole_fits : (es : List Element) → udh ≡ header es → Fits es
  whole_fits es e = fits udh [] (length udh) es octets some some (append-nil (take (length udh) udh) ∙ take-length udh ∙ e)

  all : (read : Read) → header_at udh ≡ read → ReadsAll Fits header udh (all_told (length udh) (lifted read))
  all read e = subst (λ (r : Read). ReadsAll Fits header udh (all_told (length udh) (lifted r))) e (reads_all header_reads udh (lifted (header_at udh)) octets (lifted_gives (header_at udh)))

  wrong : (at : ℕ) → ReadsAll Fits header udh (Err (told.Malformed at)) → IsMalformedAt udh at
  wrong at a = record {
    not_empty = λ none. omega (arith, ap length none);
    no_header = λ h. a.only h.0 (whole_fits h.0 h.1) h.1;
    within = omega (arith, a.fault.there);
    begins = (a.fault.begins.more, (a.fault.begins.whole.0, a.fault.begins.whole.2));
    longest = λ n within b.
        elim (cases_lt at n) [
          | inl lt ↦ absurd (a.fault.ends (begins_earlier Fits header header_at header_reads udh (at + 1) n (omega arith) (begun n (omega arith) b)))
          | inr le ↦ le
        ];
  }

  short : ReadsAll Fits header udh (Err told.Short) → IsMalformedAt udh (length udh)
  short a = record {
    not_empty = λ none. omega (arith, ap length none);
    no_header = λ h. a.only h.0 (whole_fits h.0 h.1) h.1;
    within = omega arith;
    begins = (a.fault.more, (a.fault.whole.0, ap (λ (t : List ℕ). t ++ a.fault.more) (take-length udh) ∙ a.fault.whole.2));
    longest = λ n within b. within;
  }

  -- elements were read, which say this, and so many octets are left behind them
  found : (joint : Option Joint) (rest : List ℕ) (read : Read) → header_at udh ≡ read → said read ≡ Ok (joint, rest)
      → (es : List Element) × (length rest ≤ length udh) × ReadsAll Fits header udh (behind_told (length udh) es rest) × (joint ≡ first_joint es)
  found joint rest (Ok x) e s =
      let pair = ok_is (first_joint x.0, x.1) (joint, rest) s in
      let same : x.1 ≡ rest = ap (λ (p : Option Joint × List ℕ). p.1) pair in
      let says : joint ≡ first_joint x.0 = ap (λ (p : Option Joint × List ℕ). p.0) (sym pair) in
      let within : length x.1 ≤ length udh = subst (λ (r : Read). IsWithin (length udh) (lifted r)) e (lies_within header_reads udh (lifted (header_at udh)) octets (lifted_gives (header_at udh))) in
      (x.0, subst (λ (t : List ℕ). length t ≤ length udh) same within, subst (λ (t : List ℕ). ReadsAll Fits header udh (behind_told (length udh) x.0 t)) same (all (Ok x) e), says)
  found joint rest (Err fault) e s = absurd cc

  -- a header says what its elements say
  pub header_says : (joint : Option Joint) (rest : List ℕ) → length rest < 1 → said (header_at udh) ≡ Ok (joint, rest) → IsHeader udh × ((es : List Element) → udh ≡ header es → joint ≡ first_joint es)
  header_says joint [] none s =
      let f = found joint [] (header_at udh) refl s in
      ((f.0, f.2.found.1), λ es e. f.3 ∙ ap first_joint (f.2.only es (whole_fits es e) e))
  header_says joint (octet ∷ rest) none s = absurd (omega arith)

  -- octets stand behind a header
  pub header_passed : (joint : Option Joint) (rest : List ℕ) → 1 ≤ length rest → said (header_at udh) ≡ Ok (joint, rest) → Ceases udh (length rest)
  header_passed joint [] more s = absurd (omega arith)
  header_passed joint (octet ∷ rest) more s =
      let f = found joint (octet ∷ rest) (header_at udh) refl s in
      (f.1, wrong (length udh - length (octet ∷ rest)) f.2)

  -- an octet is wrong
  pub header_wrong : (fault : ReadFault) (left : ℕ) → fault ≡ faults.Malformed left → Fails fault (said (header_at udh)) → Ceases udh left
  header_wrong fault left is h =
      let e = failed (faults.Malformed left) (header_at udh) (subst (λ (f : ReadFault). Fails f (said (header_at udh))) is h) in
      (subst (λ (r : Read). IsWithin (length udh) (lifted r)) e (lies_within header_reads udh (lifted (header_at udh)) octets (lifted_gives (header_at udh))), wrong (length udh - left) (all (Err (faults.Malformed left)) e))

  -- the octets are too few
  pub header_short : (fault : ReadFault) → fault ≡ faults.Short → Fails fault (said (header_at udh)) → IsMalformedAt udh (length udh)
  header_short fault is h = short (all (Err faults.Short) (failed faults.Short (header_at udh) (subst (λ (f : ReadFault). Fails f (said (header_at udh))) is h)))
