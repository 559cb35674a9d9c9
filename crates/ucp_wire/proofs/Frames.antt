-- A frame is read exactly.
use Rattle.std.proofs.Common.{◌≡◌, ℕ, suc, take, drop, ◌+◌, ◌-◌, ◌/◌, ◌%◌, ◌<◌, ◌≤◌, Bool, true, false, cond, ltb, eqb, List, [], ◌∷◌, ◌++◌, length, Some, Result, Ok, Err, refl, sym, ap, subst, ◌∙◌, length-append, arith, inl, inr}
use Rattle.std.specs.Borrow.{Bor}
use Rattle.std.specs.Prelude.{◌&&◌, not, All, ⊤, get_or}
use Rattle.std.specs.List.{AllByRecursion}
use Rattle.std.proofs.lemmas.Bool.{ne_eqb, ltb-true, lt-ltb}
use Rattle.std.proofs.lemmas.List.{take_at}
use Rattle.std.proofs.lemmas.List.Elements.{All-from_recursion, recursion_from_All}
use Rattle.exact_octets.specs.declared.read_fault.ReadFault.{ReadFault}
use Rattle.exact_octets.specs.declared.read_fault.ReadFault.TheVariants as faults
use Rattle.exact_octets.specs.declared.record_fault.RecordFault.TheVariants as told
use Rattle.exact_octets.specs.Fronts.{ReadsFirst}
use Rattle.exact_octets.specs.Reading.{Fails, value_of}
use Rattle.exact_octets.proofs.Readers.{AreOctets, AreOctets-rest, Answers, Wrong, IsReader, then_reads, ◌&◌, made_reads, renamed_reads}
use Rattle.exact_octets.proofs.Choices.{code_reads}
use Rattle.exact_octets.proofs.Tests.{and_true, both_true}
use Rattle.exact_octets.proofs.Fronts.{reads_first, lies_within, one_first}
use Rattle.exact_text.specs.declared.characters.Characters.TheVariants.{Text}
use Rattle.exact_text.specs.Text.{is_of, digit, checksum, decimal}
use Rattle.exact_text.proofs.Readers.{mark_reads, ended_reads, decimal_reads, characters_reads, hex_octet_reads}
use Rattle.ucp_wire.specs.Grammar.{Command, command_of, IsCharacter, kind_code, kinds, length_of, IsCommand, ended, summed, head, frame}
use Rattle.ucp_wire.specs.declared.frame.Frame.TheVariants as answer
use Rattle.ucp_wire.specs.declared.pdu.Pdu.{Pdu}
use Rattle.ucp_wire.specs.Answers.{is_hex_digit, refused, HasWrongDigit, IsRefusal, IsReadAs}
use Rattle.ucp_wire.specs.Reading.{kind_at, fields_at, command_from, head_at, closing_at, frame_at}

-- ---- O or R

kind_again : (result : Bool) → value_of kind_code kinds (kind_code result) ≡ Some result
kind_again true = refl
kind_again false = refl

kind_reads : IsReader (λ (result : Bool). ⊤) (λ result. ended (kind_code result ∷ [])) kind_at
kind_reads = ended_reads 47 (code_reads kind_code kinds (λ result. ⊤) (tt, (tt, tt)) (λ result good. kind_again result) (false, tt))

-- ---- fields

not_true : (b : Bool) → not b ≡ true → b ≡ true → ⊥
not_true true e f = cc
not_true false e f = cc

character_means : (x : ℕ) → is_of Text x ≡ true → IsCharacter x
character_means x e =
    let t = and_true (not (eqb x 2)) (not (eqb x 3)) e in
    (λ is. not_true (eqb x 2) t.0 (rw is refl), λ is. not_true (eqb x 3) t.1 (rw is refl))

character_tests : (x : ℕ) → IsCharacter x → is_of Text x ≡ true
character_tests x good =
    let a : eqb x 2 ≡ false = ne_eqb x 2 good.0 in
    let b : eqb x 3 ≡ false = ne_eqb x 3 good.1 in
    rw (a, b) refl

all_mean : (xs : List ℕ) → AllByRecursion (λ x. is_of Text x ≡ true) xs → AllByRecursion IsCharacter xs
all_mean [] all = tt
all_mean (x ∷ xs) all = (character_means x all.0, all_mean xs all.1)

all_test : (xs : List ℕ) → AllByRecursion IsCharacter xs → AllByRecursion (λ x. is_of Text x ≡ true) xs
all_test [] all = tt
all_test (x ∷ xs) all = (character_tests x all.0, all_test xs all.1)

abbrev AreFields : ℕ → List ℕ → Type 0
AreFields n xs = (length xs ≡ n) × All IsCharacter xs

fields_read : (n : ℕ) → IsReader (AreFields n) ended (fields_at n)
fields_read n =
    ended_reads 47
    (renamed_reads (characters_reads Text n)
    (λ xs good. (good.0, All-from_recursion IsCharacter xs (all_mean xs good.1)))
    (λ xs good. (good.0, all_test xs (recursion_from_All IsCharacter xs good.1)))
    (λ xs good. refl))

-- ---- the head

abbrev Parts : Type 0
Parts = ℕ × (ℕ × (ℕ × (Bool × (ℕ × List ℕ))))

abbrev AreParts : Parts → Type 0
AreParts p = (p.0 ≡ 2) × (((0 ≤ p.1.0) × (p.1.0 ≤ 99)) × (((17 ≤ p.1.1.0) × (p.1.1.0 ≤ 2046)) × (⊤ × (((0 ≤ p.1.1.1.1.0) × (p.1.1.1.1.0 ≤ 99)) × AreFields (p.1.1.0 - 17) p.1.1.1.1.1))))

abbrev parts_octets : Parts → List ℕ
parts_octets p = (p.0 ∷ []) ++ (ended (decimal 2 p.1.0) ++ (ended (decimal 5 p.1.1.0) ++ (ended (kind_code p.1.1.1.0 ∷ []) ++ (ended (decimal 2 p.1.1.1.1.0) ++ ended p.1.1.1.1.1))))

parts_there : (p : Parts) → AreParts p → IsCommand (command_from p) × (head (command_from p) ≡ parts_octets p)
parts_there p good =
    let len : 17 + length p.1.1.1.1.1 ≡ p.1.1.0 = omega (arith, good.1.1.1.1.1.0, good.1.1.0.0) in (
      record { trn = good.1.0.1; operation = good.1.1.1.1.0.1; fields = good.1.1.1.1.1.1; len = omega (arith, len, good.1.1.0.1) },
      rw (len, good.0) refl,
    )

parts_back : (c : Command) → IsCommand c → (p : Parts) × AreParts p × (command_from p ≡ c) × (parts_octets p ≡ head c)
parts_back c good = (
  (2, (c.trn, (length_of c, (c.result, (c.operation, c.fields))))),
  (refl, ((omega arith, good.trn), ((omega arith, good.len), (tt, ((omega arith, good.operation), (omega arith, good.fields)))))),
  refl,
  refl,
)

pub head_reads : IsReader IsCommand head head_at
unfolding head_at
head_reads =
    made_reads command_from
    (then_reads (mark_reads 2) (λ stx a. then_reads (ended_reads 47 (decimal_reads 2 0 99 (omega arith) (omega arith))) (λ trn b.
    then_reads (ended_reads 47 (decimal_reads 5 17 2046 (omega arith) (omega arith))) (λ len d.
    then_reads kind_reads (λ kind e. ended_reads 47 (decimal_reads 2 0 99 (omega arith) (omega arith)) & fields_read (len - 17))))))
    (record { there = parts_there; back = parts_back })

-- ---- the frame

abbrev Closing : ℕ → (ℕ × ℕ) × ℕ → Type 0
Closing sum p = ((p.0.0 ≡ digit (sum / 16)) × (p.0.1 ≡ digit (sum % 16))) × (p.1 ≡ 3)

closing_reads : (sum : ℕ) → IsReader (Closing sum) (λ p. ((p.0.0 ∷ []) ++ (p.0.1 ∷ [])) ++ (p.1 ∷ [])) (closing_at sum)
unfolding closing_at
closing_reads sum = hex_octet_reads sum & mark_reads 3

pub frame_reads : IsReader IsCommand frame frame_at
unfolding frame_at
frame_reads =
    made_reads (λ (x : Command × ((ℕ × ℕ) × ℕ)). x.0) (then_reads head_reads (λ c good. closing_reads (checksum (summed c))))
    (record {
      there = λ p good. (good.0, rw (good.1.0.0, good.1.0.1, good.1.1) refl);
      back = λ c good. ((c, ((digit (checksum (summed c) / 16), digit (checksum (summed c) % 16)), 3)), (good, ((refl, refl), refl)), refl, refl);
    })

-- ---- laws

-- octets that begin with two frames begin with one: no frame begins another
pub one_frame : (a b : Command) (x y : List ℕ) → IsCommand a → IsCommand b → frame a ++ x ≡ frame b ++ y → (a ≡ b) × (x ≡ y)
one_frame = one_first frame_reads

-- what was written is read again, whatever follows
pub written_is_read : (c : Command) (rest : List ℕ) → IsCommand c → frame_at (frame c ++ rest) ≡ Ok (c, rest)
written_is_read = frame_reads.again

-- ---- for the functions that read it

-- a fault that is another
pub fails_as : {A : Type 0} (fault fault' : ReadFault) (r : Result A ReadFault) → fault ≡ fault' → Fails fault r → Fails fault' r
fails_as fault fault' r e h = subst (λ (f : ReadFault). Fails f r) e h

abbrev pair : Command → ℕ → Command × ℕ
pair command len = (command, len)

abbrev as_read : Command → Bor (List ℕ) → Result (Command × Bor (List ℕ)) ReadFault
as_read command rest = Ok (command, rest)

abbrev failed : ReadFault → Result (Command × Bor (List ℕ)) ReadFault
failed fault = Err fault

pub reads_whole : (octets : List ℕ) (pdu : Pdu) (rest : Bor (List ℕ)) → AreOctets octets → frame_at octets ≡ Ok (command_of pdu, rest.now)
    → (length rest.now ≤ length octets) × IsReadAs octets (answer.Whole pdu (length octets - length rest.now))
reads_whole octets pdu rest are e =
    let within = lies_within frame_reads octets (as_read (command_of pdu) rest) are e in
    let r = reads_first frame_reads octets (as_read (command_of pdu) rest) are e in (
      within,
      record {
        told = r.found;
        whole = λ command more good parts.
            let same : pair (command_of pdu) (length octets - length rest.now) ≡ pair command (length (frame command)) = r.only command more good parts in
            (ap (λ (p : Command × ℕ). p.0) same, ap (λ (p : Command × ℕ). p.1) same);
        need_more = λ proper. absurd (r.short proper);
        bad = λ seen broken. absurd (r.malformed seen broken);
      },
    )

pub reads_short : (octets : List ℕ) → AreOctets octets → frame_at octets ≡ Err faults.Short → IsReadAs octets answer.NeedMore
reads_short octets are e =
    let r = reads_first frame_reads octets (failed faults.Short) are e in
    record {
      told = r.fault;
      whole = λ command more good parts. absurd (r.only command more good parts);
      need_more = λ proper. refl;
      bad = λ seen broken. let other : told.Short ≡ told.Malformed seen = r.malformed seen broken in absurd cc;
    }

refusal : (octets : List ℕ) (seen at code : ℕ) → ReadsFirst IsCommand frame octets (Err (told.Malformed seen)) → IsRefusal octets seen (answer.Bad at code) → IsReadAs octets (answer.Bad at code)
refusal octets seen at code r why = record {
  told = (seen, r.fault, why);
  whole = λ command more good parts. absurd (r.only command more good parts);
  need_more = λ proper. let other : told.Malformed seen ≡ told.Short = r.short proper in absurd cc;
  bad = λ seen' broken.
      let same : told.Malformed seen ≡ told.Malformed seen' = r.malformed seen' broken in
      let is : seen ≡ seen' = cc in
      subst (λ (n : ℕ). IsRefusal octets n (answer.Bad at code)) is why;
}

-- ---- where the head is refused

pub head_short : (octets : List ℕ) → AreOctets octets → head_at octets ≡ Err faults.Short → IsReadAs octets answer.NeedMore
unfolding frame_at
head_short octets are h = reads_short octets are (rw h refl)

no_head : (octets : List ℕ) (fault : ReadFault) (seen n : ℕ) → head_at octets ≡ Err fault → HasWrongDigit octets seen n → ⊥
no_head octets fault seen n h w =
    let again : head_at octets ≡ Ok (w.command, w.rest) = ap head_at w.parts ∙ head_reads.again w.command w.rest w.good in
    cc (h, again)

pub head_malformed : (octets : List ℕ) (left : ℕ) → AreOctets octets → head_at octets ≡ Err (faults.Malformed left)
    → (left ≤ length octets) × IsReadAs octets (answer.Bad (length octets - left) 2)
unfolding frame_at
head_malformed octets left are h =
    let e : frame_at octets ≡ Err (faults.Malformed left) = rw h refl in
    let within = lies_within frame_reads octets (failed (faults.Malformed left)) are e in
    let r = reads_first frame_reads octets (failed (faults.Malformed left)) are e in
    (within, refusal octets (length octets - left) (length octets - left) 2 r (inr (refl, refl, λ n w. no_head octets (faults.Malformed left) (length octets - left) n h w)))

-- ---- where the head is read

-- a head, and what stands behind it
pub head_is : (octets : List ℕ) (c : Command) (rest : List ℕ) → AreOctets octets → head_at octets ≡ Ok (c, rest) → IsCommand c × (octets ≡ head c ++ rest)
head_is octets c rest are h = subst (Answers IsCommand head octets) h (head_reads.answers octets are)

pub closed_whole : (octets : List ℕ) (c : Command) (rest : List ℕ) (d : (ℕ × ℕ) × ℕ) (behind : List ℕ) → head_at octets ≡ Ok (c, rest) → closing_at (checksum (summed c)) rest ≡ Ok (d, behind)
    → frame_at octets ≡ Ok (c, behind)
unfolding frame_at
closed_whole octets c rest d behind h k = rw (h, k) refl

pub closed_fails : (octets : List ℕ) (c : Command) (rest : List ℕ) (fault : ReadFault) → head_at octets ≡ Ok (c, rest) → closing_at (checksum (summed c)) rest ≡ Err fault → frame_at octets ≡ Err fault
unfolding frame_at
closed_fails octets c rest fault h k = rw (h, k) refl

-- how far a closing's fault lies behind
pub closed_left : (octets : List ℕ) (c : Command) (rest : List ℕ) (left : ℕ) → AreOctets octets → head_at octets ≡ Ok (c, rest) → closing_at (checksum (summed c)) rest ≡ Err (faults.Malformed left)
    → (0 < left) × (left ≤ length rest)
closed_left octets c rest left are h k =
    let is = head_is octets c rest are h in
    let fits : AreOctets rest = AreOctets-rest (head c) rest (subst AreOctets is.1 are) in
    let w : Wrong (Closing (checksum (summed c))) (λ p. ((p.0.0 ∷ []) ++ (p.0.1 ∷ [])) ++ (p.1 ∷ [])) rest left =
    subst (Answers (Closing (checksum (summed c))) (λ p. ((p.0.0 ∷ []) ++ (p.0.1 ∷ [])) ++ (p.1 ∷ [])) rest) k ((closing_reads (checksum (summed c))).answers rest fits) in
    (omega (arith, w.at), omega (arith, ap length w.parts, length-append w.front (w.octet ∷ w.rest), w.at))

refused_so : (octets : List ℕ) (c : Command) (rest : List ℕ) (at seen : ℕ) → IsCommand c → octets ≡ head c ++ rest → at ≡ length (head c) → at ≤ seen
    → ReadsFirst IsCommand frame octets (Err (told.Malformed seen)) → IsReadAs octets (refused at seen (get_or octets seen 0))
refused_so octets c rest at seen good parts there le r = cases (ltb (seen - at) 2 && is_hex_digit (get_or octets seen 0)) refl
  where
    cases : (b : Bool) → (ltb (seen - at) 2 && is_hex_digit (get_or octets seen 0)) ≡ b → IsReadAs octets (cond b (answer.Bad at 1) (answer.Bad seen 2))
    cases true e =
        let t = and_true (ltb (seen - at) 2) (is_hex_digit (get_or octets seen 0)) e in
        refusal octets seen at 1 r (inl (refl, record { command = c; rest = rest; good = good; parts = parts; there = there; near = omega (arith, ltb-true (seen - at) 2 t.0, le); digit = t.1 }))
    cases false e =
        refusal octets seen seen 2 r (inr (
          refl,
          refl,
          λ n w.
              let one = one_first head_reads c w.command rest w.rest good w.good (sym parts ∙ w.parts) in
              let same : n ≡ at = w.there ∙ ap (λ (x : Command). length (head x)) (sym one.0) ∙ sym there in
              let yes : (ltb (seen - at) 2 && is_hex_digit (get_or octets seen 0)) ≡ true = both_true (ltb (seen - at) 2) (is_hex_digit (get_or octets seen 0)) (lt-ltb (seen - at) 2 (omega (arith, w.near, same))) w.digit in
              cc (e, yes),
        ))

pub closed_malformed : (octets : List ℕ) (c : Command) (rest : List ℕ) (left : ℕ) → AreOctets octets → head_at octets ≡ Ok (c, rest) → closing_at (checksum (summed c)) rest ≡ Err (faults.Malformed left)
    → IsReadAs octets (refused (length octets - length rest) (length octets - left) (get_or octets (length octets - left) 0))
closed_malformed octets c rest left are h k =
    let is = head_is octets c rest are h in
    let near = closed_left octets c rest left are h k in
    let r = reads_first frame_reads octets (failed (faults.Malformed left)) are (closed_fails octets c rest (faults.Malformed left) h k) in
    let len : length octets ≡ length (head c) + length rest = ap length is.1 ∙ length-append (head c) rest in
    refused_so octets c rest (length octets - length rest) (length octets - left) is.0 is.1 (omega (arith, len)) (omega (arith, len, near.1)) r

-- what is summed stands between the first octet and what is behind the head
pub summed_is : (octets : List ℕ) (c : Command) (rest : List ℕ) → AreOctets octets → head_at octets ≡ Ok (c, rest)
    → (1 ≤ length octets - length rest) × (take (length octets - length rest - 1) (drop 1 octets) ≡ summed c)
summed_is octets c rest are h =
    let is = head_is octets c rest are h in
    let len : length octets ≡ suc (length (summed c)) + length rest = ap length is.1 ∙ length-append (head c) rest in
    let behind : drop 1 octets ≡ summed c ++ rest = ap (drop 1) is.1 in
    let n : length (summed c) ≡ length octets - length rest - 1 = omega (arith, len) in
    (omega (arith, len), ap (take (length octets - length rest - 1)) behind ∙ take_at (summed c) rest (length octets - length rest - 1) n)

-- the sum that the function takes is that of the head
pub by_sum : (octets : List ℕ) (c : Command) (rest : List ℕ) (sum : ℕ) (r : Result (((ℕ × ℕ) × ℕ) × List ℕ) ReadFault) → AreOctets octets → head_at octets ≡ Ok (c, rest)
    → sum ≡ checksum (take (length octets - length rest - 1) (drop 1 octets)) → closing_at sum rest ≡ r → closing_at (checksum (summed c)) rest ≡ r
by_sum octets c rest sum r are h e k = ap (λ (s : ℕ). closing_at s rest) (sym (e ∙ ap checksum (summed_is octets c rest are h).1)) ∙ k
