-- A frame is read exactly.
use Rattle.std.proofs.Common.{◌≡◌, ℕ, ◌+◌, ◌-◌, ◌*◌, ◌/◌, ◌%◌, ◌^◌, ◌<◌, ◌≤◌, Bool, true, false, cond, ltb, eqb, List, [], ◌∷◌, ◌++◌, length, Result, Ok, Err, refl, sym, ap, subst, ◌∙◌, arith}
use Rattle.std.specs.Borrow.{Bor}
use Rattle.std.proofs.lemmas.Bool.{ne_eqb}
use Rattle.exact_octets.specs.declared.read_fault.ReadFault.{ReadFault}
use Rattle.exact_octets.specs.declared.read_fault.ReadFault.TheVariants as faults
use Rattle.exact_octets.specs.declared.record_fault.RecordFault.TheVariants as told
use Rattle.exact_octets.specs.Numbers.{number}
use Rattle.exact_octets.specs.Fronts.{BreaksOffAt, ReadsFirst}
use Rattle.exact_octets.specs.Reading.{Fails, octet_at}
use Rattle.exact_octets.proofs.Readers.{AreOctets, IsReader, then_reads, ◌&◌, made_reads, octet_reads}
use Rattle.exact_octets.proofs.Digits.{from_to_reads, up_to_reads}
use Rattle.exact_octets.proofs.Fronts.{reads_first, lies_within}
use Rattle.smpp_wire.specs.declared.frame.Frame.TheVariants as answer
use Rattle.smpp_wire.specs.Limits.{bad_length, bad_body}
use Rattle.smpp_wire.specs.declared.pdu.Pdu.{Pdu}
use Rattle.smpp_wire.specs.declared.row.Row.TheVariants as row
use Rattle.smpp_wire.specs.Command.{Fields, Command, command_of}
use Rattle.smpp_wire.specs.Grammar.{row_of, IsOf, body, IsCommand, frame, IsFrame}
use Rattle.smpp_wire.specs.Answers.{refused, Tells, IsReadAs}
use Rattle.smpp_wire.specs.Room.{room_of, fits}
use Rattle.smpp_wire.specs.Reading.{id_at, header_at, command_from, frame_at}
use Rattle.smpp_wire.proofs.Rooms.{Fits, fits_means, fits_tests}
use Rattle.smpp_wire.proofs.Parts.{Fills, part_reads, part_can}
use Rattle.smpp_wire.proofs.Rows.{row_part}

-- ---- command_id

-- an id that ends with FF has no row
no_row : (high : ℕ) → row_of (high * 256 + 255) ≡ row.Any
no_row high =
    let id : ℕ = high * 256 + 255 in
    let a : eqb (high * 256 + 255) 9 ≡ false = ne_eqb (high * 256 + 255) 9 (λ e. omega (arith, e)) in
    let b : eqb (high * 256 + 255) 2147483657 ≡ false = ne_eqb (high * 256 + 255) 2147483657 (λ e. omega (arith, e)) in
    let c : eqb (high * 256 + 255) 4 ≡ false = ne_eqb (high * 256 + 255) 4 (λ e. omega (arith, e)) in
    let d : eqb (high * 256 + 255) 5 ≡ false = ne_eqb (high * 256 + 255) 5 (λ e. omega (arith, e)) in
    let e : eqb (high * 256 + 255) 2147483652 ≡ false = ne_eqb (high * 256 + 255) 2147483652 (λ e. omega (arith, e)) in
    let f : eqb (high * 256 + 255) 2147483653 ≡ false = ne_eqb (high * 256 + 255) 2147483653 (λ e. omega (arith, e)) in
    let g : eqb (high * 256 + 255) 2147483648 ≡ false = ne_eqb (high * 256 + 255) 2147483648 (λ e. omega (arith, e)) in
    let h : eqb (high * 256 + 255) 6 ≡ false = ne_eqb (high * 256 + 255) 6 (λ e. omega (arith, e)) in
    let i : eqb (high * 256 + 255) 2147483654 ≡ false = ne_eqb (high * 256 + 255) 2147483654 (λ e. omega (arith, e)) in
    let j : eqb (high * 256 + 255) 21 ≡ false = ne_eqb (high * 256 + 255) 21 (λ e. omega (arith, e)) in
    let k : eqb (high * 256 + 255) 2147483669 ≡ false = ne_eqb (high * 256 + 255) 2147483669 (λ e. omega (arith, e)) in
    rw (a, b, c, d, e, f, g, h, i, j, k) refl

-- a last octet with which the command has a row that can fill so many octets
abbrev IsLast : ℕ → ℕ → ℕ → Type 0
IsLast left high low = (low < 256) × Fits (room_of (row_of (high * 256 + low))) left

last_reads : (left high : ℕ) → IsReader (IsLast left high) (λ x. x ∷ []) (octet_at (λ low. fits (room_of (row_of (high * 256 + low))) left))
last_reads left high =
    octet_reads (λ low. fits (room_of (row_of (high * 256 + low))) left) (IsLast left high)
    (λ x below e. (below, fits_means (room_of (row_of (high * 256 + x))) left e)) (λ x good. fits_tests (room_of (row_of (high * 256 + x))) left good.1)
    (255, (omega arith, rw (no_row high) (omega arith)))

four_octets : (high low : ℕ) → low < 256 → number 4 (high * 256 + low) ≡ number 3 high ++ low ∷ []
four_octets high low lt =
    let a : (high * 256 + low) / 16777216 % 256 ≡ high / 65536 % 256 = omega (arith, lt) in
    let b : (high * 256 + low) / 65536 % 256 ≡ high / 256 % 256 = omega (arith, lt) in
    let c : (high * 256 + low) / 256 % 256 ≡ high % 256 = omega (arith, lt) in
    let d : (high * 256 + low) % 256 ≡ low = omega (arith, lt) in
    rw (a, b, c, d) refl

-- a command whose row can fill so many octets
abbrev IsId : ℕ → ℕ → Type 0
IsId left id = (id < 2 ^ 32) × Fits (room_of (row_of id)) left

id_reads : (left : ℕ) → IsReader (IsId left) (number 4) (id_at left)
unfolding id_at
id_reads left =
    made_reads (λ (x : ℕ × ℕ). x.0 * 256 + x.1) (then_reads (up_to_reads 3 16777215 (omega arith)) (λ high good. last_reads left high))
    (record {
      there = λ p good. ((omega (arith, good.0, good.1.0), good.1.1), four_octets p.0 p.1 good.1.0);
      back = λ id good.
          let whole : id / 256 * 256 + id % 256 ≡ id = omega arith in
          let low : id % 256 < 256 = omega arith in
          ((id / 256, id % 256), (omega (arith, good.0), (low, subst (λ (n : ℕ). Fits (room_of (row_of n)) left) (sym whole) good.1)), whole, sym (four_octets (id / 256) (id % 256) low) ∙ ap (number 4) whole);
    })

-- ---- the header

abbrev Header : Type 0
Header = ℕ × (ℕ × (ℕ × ℕ))

abbrev IsHeader : Header → Type 0
IsHeader h = (h.0 ≤ 65520) × (IsId h.0 h.1.0 × ((h.1.1.0 ≤ 4294967295) × (h.1.1.1 ≤ 4294967295)))

abbrev header_octets : Header → List ℕ
header_octets h = number 4 (16 + h.0) ++ (number 4 h.1.0 ++ (number 4 h.1.1.0 ++ number 4 h.1.1.1))

header_reads : IsReader IsHeader header_octets header_at
unfolding header_at
header_reads =
    made_reads (λ (x : Header). (x.0 - 16, x.1))
    (then_reads (from_to_reads 4 16 65536 (omega arith) (omega arith)) (λ len good. then_reads (id_reads (len - 16)) (λ id good. up_to_reads 4 4294967295 (omega arith) & up_to_reads 4 4294967295 (omega arith))))
    (record {
      there = λ x good.
          let len : 16 + (x.0 - 16) ≡ x.0 = omega (arith, good.0.0) in
          ((omega (arith, good.0.1), good.1), ap (λ (n : ℕ). number 4 n ++ (number 4 x.1.0 ++ (number 4 x.1.1.0 ++ number 4 x.1.1.1))) len);
      back = λ h good.
          let left : h.0 ≡ 16 + h.0 - 16 = omega arith in
          ((16 + h.0, h.1), ((omega arith, omega (arith, good.0)), subst (λ (n : ℕ). IsId n h.1.0 × ((h.1.1.0 ≤ 4294967295) × (h.1.1.1 ≤ 4294967295))) left good.1), ap (λ (n : ℕ). (n, h.1)) (sym left), refl);
    })

-- ---- the frame

abbrev Parts : Type 0
Parts = Header × Fields

abbrev AreParts : Parts → Type 0
AreParts p = IsHeader p.0 × Fills (IsOf (row_of p.0.1.0)) body p.0.0 p.1

parts_there : (p : Parts) → AreParts p → IsCommand (command_from p) × (frame (command_from p) ≡ header_octets p.0 ++ body p.1)
parts_there p good = (
  record { id = good.0.1.0.0; status = omega (arith, good.0.1.1.0); sequence = omega (arith, good.0.1.1.1); fields = good.1.0; len = omega (arith, good.1.1, good.0.0) },
  ap (λ (n : ℕ). number 4 (16 + n) ++ (number 4 p.0.1.0 ++ (number 4 p.0.1.1.0 ++ (number 4 p.0.1.1.1 ++ body p.1)))) good.1.1,
)

parts_back : (c : Command) → IsCommand c → (p : Parts) × AreParts p × (command_from p ≡ c) × (header_octets p.0 ++ body p.1 ≡ frame c)
parts_back c good = (
  ((length (body c.fields), (c.id, (c.status, c.sequence))), c.fields),
  ((omega (arith, good.len), ((good.id, part_can (row_part (row_of c.id)) c.fields good.fields), (omega (arith, good.status), omega (arith, good.sequence)))), (good.fields, refl)),
  refl,
  refl,
)

pub frame_reads : IsReader IsCommand frame frame_at
unfolding frame_at
frame_reads =
    made_reads command_from (then_reads header_reads (λ h good. part_reads (row_part (row_of h.1.0)) h.0 good.1.0.1)) (record { there = parts_there; back = parts_back })

-- ---- for the function that reads it

-- a fault that is another
pub fails_as : {A : Type 0} (fault fault' : ReadFault) (r : Result A ReadFault) → fault ≡ fault' → Fails fault r → Fails fault' r
fails_as fault fault' r e h = subst (λ (f : ReadFault). Fails f r) e h

abbrev pair : Command → ℕ → Command × ℕ
pair command len = (command, len)

abbrev as_read : Command → Bor (List ℕ) → Result (Command × Bor (List ℕ)) ReadFault
as_read command rest = Ok (command, rest)

abbrev failed : ReadFault → Result (Command × Bor (List ℕ)) ReadFault
failed fault = Err fault

pub reads_whole : (octets : List ℕ) (pdu : Pdu) (rest : Bor (List ℕ)) → AreOctets octets → frame_at octets ≡ Ok (command_of pdu, rest.now)
    → (length rest.now ≤ length octets) × IsReadAs octets (answer.Whole pdu (length octets - length rest.now))
reads_whole octets pdu rest are e =
    let within = lies_within frame_reads octets (as_read (command_of pdu) rest) are e in
    let r = reads_first frame_reads octets (as_read (command_of pdu) rest) are e in (
      within,
      record {
        told = r.found;
        whole = λ command more good parts.
            let same : pair (command_of pdu) (length octets - length rest.now) ≡ pair command (length (frame command)) = r.only command more good parts in
            (ap (λ (p : Command × ℕ). p.0) same, ap (λ (p : Command × ℕ). p.1) same);
        need_more = λ proper. absurd (r.short proper);
        bad = λ seen broken. absurd (r.malformed seen broken);
      },
    )

pub reads_short : (octets : List ℕ) → AreOctets octets → frame_at octets ≡ Err faults.Short → IsReadAs octets answer.NeedMore
reads_short octets are e =
    let r = reads_first frame_reads octets (failed faults.Short) are e in
    record {
      told = r.fault;
      whole = λ command more good parts. absurd (r.only command more good parts);
      need_more = λ proper. refl;
      bad = λ seen broken. let other : told.Short ≡ told.Malformed seen = r.malformed seen broken in absurd cc;
    }

pub reads_malformed : (octets : List ℕ) (left : ℕ) → AreOctets octets → frame_at octets ≡ Err (faults.Malformed left) → (left ≤ length octets) × IsReadAs octets (refused (length octets - left))
reads_malformed octets left are e =
    let within = lies_within frame_reads octets (failed (faults.Malformed left)) are e in
    let r = reads_first frame_reads octets (failed (faults.Malformed left)) are e in
    (within, refusal octets (length octets - left) r)
  where
    tells : (octets : List ℕ) (at : ℕ) → BreaksOffAt IsFrame octets at → Tells octets (refused at)
    tells octets at broken = within at (ltb at 4) refl broken
      where
        within : (at : ℕ) (early : Bool) → ltb at 4 ≡ early → BreaksOffAt IsFrame octets at → Tells octets (cond early (answer.Bad 0 bad_length) (answer.Bad at bad_body))
        within at true e broken = (at, broken, ap (λ (b : Bool). cond b (answer.Bad 0 bad_length) (answer.Bad at bad_body)) (sym e))
        within at false e broken = (at, broken, ap (λ (b : Bool). cond b (answer.Bad 0 bad_length) (answer.Bad at bad_body)) (sym e))

    refusal : (octets : List ℕ) (at : ℕ) → ReadsFirst IsCommand frame octets (Err (told.Malformed at)) → IsReadAs octets (refused at)
    refusal octets at r = record {
      told = tells octets at r.fault;
      whole = λ command more good parts. absurd (r.only command more good parts);
      need_more = λ proper. let other : told.Malformed at ≡ told.Short = r.short proper in absurd cc;
      bad = λ seen broken. let same : told.Malformed at ≡ told.Malformed seen = r.malformed seen broken in let is : at ≡ seen = cc in ap refused is;
    }
