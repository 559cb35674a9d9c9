-- Each row of the table of bodies is read exactly.
use Rattle.std.proofs.Common.{◌≡◌, ℕ, zero, suc, ◌+◌, ◌-◌, ◌≤◌, false, eqb, List, [], ◌∷◌, ◌++◌, length, All, refl, sym, ap, subst, length-append, arith, inl, inr}
use Rattle.std.proofs.lemmas.Bool.{cases_lt, ne_eqb}
use Rattle.exact_octets.specs.declared.alphabet.Alphabet.TheVariants.{Any as AnyOctet}
use Rattle.exact_octets.specs.Alphabet.{IsIn}
use Rattle.exact_octets.specs.Spelling.{short}
use Rattle.exact_octets.specs.Reading.{Reader, given}
use Rattle.exact_octets.proofs.Readers.{IsReader, ◌&◌, made_reads, given_reads, renamed_reads}
use Rattle.exact_octets.proofs.Tests.{Between as Within}
use Rattle.exact_octets.proofs.Fields.{between_reads, letter_reads, text_reads}
use Rattle.smpp_wire.specs.declared.room.Room.TheVariants.{From, Between, Tlvs}
use Rattle.smpp_wire.specs.declared.row.Row.{Row}
use Rattle.smpp_wire.specs.declared.row.Row.TheVariants as row
use Rattle.smpp_wire.specs.declared.text.Sizes.{Sizes}
use Rattle.smpp_wire.specs.Command.{Fields, Bind, BindReply, Message, SubmitReply, DeliverReply, Nothing, Any}
use Rattle.smpp_wire.specs.Grammar.{IsText, IsTime, ended, AreTlvs, IsMessage, IsOf, body}
use Rattle.smpp_wire.specs.Room.{room_of, up_to, times}
use Rattle.smpp_wire.specs.Reading.{any_at, two_at, three_at, four_at, text_size, text_at, bind_of, version_at, system_at, bind_at, bind_reply_at, party_at, party_size, Contents, contents_at, Closing, closing_at, Delivery, delivery_at, message_of, message_at, submit_reply_at, deliver_reply_at, any_body_at, body_at}
use Rattle.smpp_wire.proofs.Rooms.{Fits}
use Rattle.smpp_wire.proofs.Parts.{IsPart, IsNone, Fills, fixed_part, reworded_part, regarded_part, then_part, made_part, part_reads, part_of}
use Rattle.smpp_wire.proofs.Texts.{IsSized, Opens, text_part}
use Rattle.smpp_wire.proofs.Tlvs.{IsShort, tlvs_part, short_message_part}

-- ---- texts by their rooms

text_sized : (text : List ℕ) → text_size text ≡ length (ended text)
text_sized text = omega (arith, length-append text (0 ∷ []))

sized_text : (most : ℕ) → 1 ≤ most → (text : List ℕ) → IsSized (up_to most) text → IsText most text
sized_text most some text good = elim good.1 [ inl one ↦ (good.0, omega (arith, one)) | inr more ↦ (good.0, omega (arith, more.1)) ]

text_sized_back : (most : ℕ) (text : List ℕ) → IsText most text → IsSized (up_to most) text
text_sized_back most text good = (good.0, inr (omega arith, omega (arith, good.1)))

sized_time : (text : List ℕ) → IsSized times text → IsTime text
sized_time text good = elim good.1 [ inl one ↦ (good.0, inl (omega (arith, one))) | inr more ↦ (good.0, inr (omega (arith, more.0, more.1))) ]

time_sized : (text : List ℕ) → IsTime text → IsSized times text
time_sized text good = elim good.1 [ inl none ↦ (good.0, inl (omega (arith, none))) | inr all ↦ (good.0, inr (omega (arith, all), omega (arith, all))) ]

opens_from : (sizes : Sizes) (least left : ℕ) → Fits (From (suc least)) left → Opens sizes (From least) left
opens_from sizes least left f = (0, (inl refl, omega (arith, f), omega (arith, f)))

from_opens : (sizes : Sizes) (least left : ℕ) → Opens sizes (From least) left → Fits (From (suc least)) left
from_opens sizes least left opens = omega (arith, opens.1.1, opens.1.2)

opens_between : (most least greatest left : ℕ) → 1 ≤ most → least ≤ greatest → Fits (Between (suc least) (greatest + most)) left → Opens (up_to most) (Between least greatest) left
opens_between most least greatest left some is f = (left - greatest - 1, (inr (omega arith, omega (arith, f.0, f.1, some)), omega (arith, f.0), (omega (arith, f.0, is), omega arith)))

between_opens : (most least greatest left : ℕ) → 1 ≤ most → Opens (up_to most) (Between least greatest) left → Fits (Between (suc least) (greatest + most)) left
between_opens most least greatest left some opens =
    elim opens.1.0 [
      | inl one ↦ (omega (arith, opens.1.1, opens.1.2.0), omega (arith, opens.1.1, opens.1.2.1, one))
      | inr more ↦ (omega (arith, opens.1.1, opens.1.2.0), omega (arith, opens.1.1, opens.1.2.1, more.1))
    ]

opens_tlvs : (most left : ℕ) → 4 ≤ most → 1 ≤ left → Opens (up_to most) Tlvs left
opens_tlvs most left some f =
    elim (cases_lt most left) [
      | inl lt ↦ (0, (inl refl, f, inr (omega (arith, lt, some))))
      | inr le ↦ (left - 1, (inr (omega arith, omega (arith, le, f)), omega (arith, f), inl (omega (arith, f))))
    ]

-- a text of at most so many octets before what takes so many or more
text_from_part : (most least : ℕ) → 1 ≤ most → IsPart (IsText most) ended (text_at (up_to most) (From least)) (Fits (From (suc least))) (Fits (From least))
text_from_part most least some =
    regarded_part (reworded_part (text_part (up_to most) (From least) some some tt) (opens_from (up_to most) least) (from_opens (up_to most) least)) (sized_text most some) (text_sized_back most)

-- before what takes a number between two
text_between_part : (most least greatest : ℕ) → 1 ≤ most → least ≤ greatest → IsPart (IsText most) ended (text_at (up_to most) (Between least greatest)) (Fits (Between (suc least) (greatest + most))) (Fits (Between least greatest))
text_between_part most least greatest some is =
    regarded_part (reworded_part (text_part (up_to most) (Between least greatest) some some is) (λ left f. opens_between most least greatest left some is f) (λ left o. between_opens most least greatest left some o)) (sized_text most some) (text_sized_back most)

-- before TLVs
text_tlvs_part : (most : ℕ) → 4 ≤ most → IsPart (IsText most) ended (text_at (up_to most) Tlvs) (Fits (From 1)) (Fits Tlvs)
text_tlvs_part most some =
    regarded_part (reworded_part (text_part (up_to most) Tlvs (omega (arith, some)) (omega (arith, some)) tt) (λ left f. opens_tlvs most left some f) (λ left o. omega (arith, o.1.1))) (sized_text most (omega (arith, some))) (text_sized_back most)

-- a time
time_part : (least : ℕ) → IsPart IsTime ended (text_at times (From least)) (Fits (From (suc least))) (Fits (From least))
time_part least =
    regarded_part (reworded_part (text_part times (From least) (omega arith) (omega arith) tt) (opens_from times least) (from_opens times least)) sized_time time_sized

-- ---- octets

any_reads : IsReader (IsIn AnyOctet) (λ x. x ∷ []) any_at
any_reads = letter_reads AnyOctet

-- so many octets before what takes so many or more
fixed_from : {A : Type 0} {Good : A → Type 0} {spelled : A → List ℕ} {read : Reader A} (len least : ℕ) → IsReader Good spelled read → ((a : A) → Good a → length (spelled a) ≡ len)
    → IsPart Good spelled (λ left. read) (Fits (From (len + least))) (Fits (From least))
fixed_from len least reads is = fixed_part reads len is (λ left f. (omega (arith, f), omega (arith, f))) (λ n f. omega (arith, f))

-- ---- bind_transceiver

version_reads : IsReader (λ (x : ℕ × (ℕ × ℕ)). Within 52 52 x.0 × (IsIn AnyOctet x.1.0 × IsIn AnyOctet x.1.1)) (λ x. (x.0 ∷ []) ++ ((x.1.0 ∷ []) ++ (x.1.1 ∷ []))) version_at
unfolding version_at
version_reads = between_reads 52 52 (omega arith) & any_reads & any_reads

version_part : IsPart (λ (x : ℕ × (ℕ × ℕ)). Within 52 52 x.0 × (IsIn AnyOctet x.1.0 × IsIn AnyOctet x.1.1)) (λ x. (x.0 ∷ []) ++ ((x.1.0 ∷ []) ++ (x.1.1 ∷ []))) (λ left. version_at) (Fits (Between 4 44)) (Fits (Between 1 41))
version_part = fixed_part version_reads 3 (λ x good. refl) (λ left f. (omega (arith, f.0), (omega (arith, f.0), omega (arith, f.1)))) (λ n f. (omega (arith, f.0), omega (arith, f.1)))

abbrev IsBindText : List ℕ × (List ℕ × (List ℕ × ((ℕ × (ℕ × ℕ)) × List ℕ))) → Type 0
IsBindText x = IsText 16 x.0 × (IsText 9 x.1.0 × (IsText 13 x.1.1.0 × ((Within 52 52 x.1.1.1.0.0 × (IsIn AnyOctet x.1.1.1.0.1.0 × IsIn AnyOctet x.1.1.1.0.1.1)) × IsText 41 x.1.1.1.1)))

bind_back : (fields : Fields) → IsOf row.Bind fields → (x : List ℕ × (List ℕ × (List ℕ × ((ℕ × (ℕ × ℕ)) × List ℕ)))) × IsBindText x × (Bind (bind_of x) ≡ fields)
    × (ended x.0 ++ (ended x.1.0 ++ (ended x.1.1.0 ++ (((x.1.1.1.0.0 ∷ []) ++ ((x.1.1.1.0.1.0 ∷ []) ++ (x.1.1.1.0.1.1 ∷ []))) ++ ended x.1.1.1.1))) ≡ body fields)
bind_back (Bind b) good = (
  (b.system_id, (b.password, (b.system_type, ((b.interface_version, (b.addr_ton, b.addr_npi)), b.address_range)))),
  (good.system_id, (good.password, (good.system_type, (((omega (arith, good.interface_version), omega (arith, good.interface_version)), (tt, tt)), good.address_range)))),
  refl,
  refl,
)
bind_back fields good = absurd good

abbrev IsSystem : List ℕ × ((ℕ × (ℕ × ℕ)) × List ℕ) → Type 0
IsSystem x = IsText 13 x.0 × ((Within 52 52 x.1.0.0 × (IsIn AnyOctet x.1.0.1.0 × IsIn AnyOctet x.1.0.1.1)) × IsText 41 x.1.1)

abbrev system_octets : List ℕ × ((ℕ × (ℕ × ℕ)) × List ℕ) → List ℕ
system_octets x = ended x.0 ++ (((x.1.0.0 ∷ []) ++ ((x.1.0.1.0 ∷ []) ++ (x.1.0.1.1 ∷ []))) ++ ended x.1.1)

system_part : IsPart IsSystem system_octets system_at (Fits (Between 5 57)) IsNone
unfolding system_at
system_part =
    then_part (text_between_part 13 4 44 (omega arith) (omega arith)) text_size (λ text good. text_sized text)
    (then_part version_part (λ x. 3) (λ x good. refl) (text_between_part 41 0 0 (omega arith) (omega arith)))

bind_part : IsPart (IsOf row.Bind) body bind_at (Fits (room_of row.Bind)) IsNone
unfolding bind_at
bind_part =
    made_part (λ (x : List ℕ × (List ℕ × (List ℕ × ((ℕ × (ℕ × ℕ)) × List ℕ)))). Bind (bind_of x))
    (then_part (text_between_part 16 6 66 (omega arith) (omega arith)) text_size (λ text good. text_sized text)
    (then_part (text_between_part 9 5 57 (omega arith) (omega arith)) text_size (λ text good. text_sized text) system_part))
    (record {
      there = λ x good. (record { system_id = good.0; password = good.1.0; system_type = good.1.1.0; interface_version = omega (arith, good.1.1.1.0.0.0, good.1.1.1.0.0.1); address_range = good.1.1.1.1 }, refl);
      back = bind_back;
    })

-- ---- rows whose body may have no octets

-- the body without octets is read where none are left
nothing_reads : (r : Row) → IsOf r Nothing → ((fields : Fields) → Fills (IsOf r) body 0 fields → fields ≡ Nothing) → IsReader (Fills (IsOf r) body 0) body (given Nothing)
nothing_reads r allowed only =
    renamed_reads (given_reads Nothing) (λ fields e. subst (Fills (IsOf r) body 0) (sym e) (allowed, refl)) only (λ fields e. sym (ap body e))

-- ---- bind_transceiver_resp

bind_reply_none : (fields : Fields) → Fills (IsOf row.BindReply) body 0 fields → fields ≡ Nothing
bind_reply_none (BindReply system_id tlvs) good = absurd (omega (arith, good.1, length-append (system_id ++ 0 ∷ []) tlvs, length-append system_id (0 ∷ [])))
bind_reply_none Nothing good = refl
bind_reply_none fields good = absurd good.0

abbrev IsBindReplyText : List ℕ × List ℕ → Type 0
IsBindReplyText x = IsText 16 x.0 × AreTlvs x.1

abbrev bind_reply_octets : List ℕ × List ℕ → List ℕ
bind_reply_octets x = ended x.0 ++ x.1

bind_reply_back : (left : ℕ) (fields : Fields) → Fills (IsOf row.BindReply) body (suc left) fields
    → (x : List ℕ × List ℕ) × Fills IsBindReplyText bind_reply_octets (suc left) x × (BindReply x.0 x.1 ≡ fields) × (bind_reply_octets x ≡ body fields)
bind_reply_back left (BindReply system_id tlvs) good = ((system_id, tlvs), (good.0, good.1), refl, refl)
bind_reply_back left Nothing good = absurd (omega (arith, good.1))
bind_reply_back left fields good = absurd good.0

bind_reply_reads : (left : ℕ) → Fits (room_of row.BindReply) left → IsReader (Fills (IsOf row.BindReply) body left) body (bind_reply_at left)
unfolding bind_reply_at
bind_reply_reads zero f = nothing_reads row.BindReply tt bind_reply_none
bind_reply_reads (suc left) f =
    let some : eqb (suc left) 0 ≡ false = ne_eqb (suc left) 0 (λ e. omega arith) in
    rw some
    (made_reads (λ (x : List ℕ × List ℕ). BindReply x.0 x.1)
    (part_reads (then_part (text_tlvs_part 16 (omega arith)) text_size (λ text good. text_sized text) tlvs_part) (suc left) (omega arith))
    (record { there = λ x good. ((good.0, good.1), refl); back = bind_reply_back left }))

bind_reply_part : IsPart (IsOf row.BindReply) body bind_reply_at (Fits (room_of row.BindReply)) IsNone
bind_reply_part = part_of bind_reply_reads (λ fields good. omega arith)

-- ---- submit_sm_resp

submit_reply_none : (fields : Fields) → Fills (IsOf row.SubmitReply) body 0 fields → fields ≡ Nothing
submit_reply_none (SubmitReply message_id) good = absurd (omega (arith, good.1, length-append message_id (0 ∷ [])))
submit_reply_none Nothing good = refl
submit_reply_none fields good = absurd good.0

submit_reply_back : (left : ℕ) (fields : Fields) → Fills (IsOf row.SubmitReply) body (suc left) fields
    → (x : List ℕ) × Fills (IsText 65) ended (suc left) x × (SubmitReply x ≡ fields) × (ended x ≡ body fields)
submit_reply_back left (SubmitReply message_id) good = (message_id, (good.0, good.1), refl, refl)
submit_reply_back left Nothing good = absurd (omega (arith, good.1))
submit_reply_back left fields good = absurd good.0

submit_reply_reads : (left : ℕ) → Fits (room_of row.SubmitReply) left → IsReader (Fills (IsOf row.SubmitReply) body left) body (submit_reply_at left)
unfolding submit_reply_at
submit_reply_reads zero f = nothing_reads row.SubmitReply tt submit_reply_none
submit_reply_reads (suc left) f =
    let some : eqb (suc left) 0 ≡ false = ne_eqb (suc left) 0 (λ e. omega arith) in
    rw some
    (made_reads SubmitReply (part_reads (text_between_part 65 0 0 (omega arith) (omega arith)) (suc left) (omega arith, f.1))
    (record { there = λ x good. ((good.0, good.1), refl); back = submit_reply_back left }))

submit_reply_can : (fields : Fields) → IsOf row.SubmitReply fields → Fits (room_of row.SubmitReply) (length (body fields))
submit_reply_can (SubmitReply message_id) good = (omega arith, omega (arith, good.1, length-append message_id (0 ∷ [])))
submit_reply_can Nothing good = (omega arith, omega arith)
submit_reply_can fields good = absurd good

submit_reply_part : IsPart (IsOf row.SubmitReply) body submit_reply_at (Fits (room_of row.SubmitReply)) IsNone
submit_reply_part = part_of submit_reply_reads submit_reply_can

-- ---- deliver_sm_resp

deliver_reply_back : (fields : Fields) → IsOf row.DeliverReply fields → (x : ℕ) × Within 0 0 x × (DeliverReply ≡ fields) × (x ∷ [] ≡ body fields)
deliver_reply_back DeliverReply good = (0, (omega arith, omega arith), refl, refl)
deliver_reply_back fields good = absurd good

deliver_reply_reads : IsReader (IsOf row.DeliverReply) body deliver_reply_at
unfolding deliver_reply_at
deliver_reply_reads =
    made_reads (λ (x : ℕ). DeliverReply) (between_reads 0 0 (omega arith))
    (record { there = λ x good. (tt, let zero_is : 0 ≡ x = omega (arith, good.1) in ap (λ (o : ℕ). o ∷ []) zero_is); back = deliver_reply_back })

deliver_reply_len : (fields : Fields) → IsOf row.DeliverReply fields → length (body fields) ≡ 1
deliver_reply_len DeliverReply good = refl
deliver_reply_len fields good = absurd good

deliver_reply_part : IsPart (IsOf row.DeliverReply) body (λ left. deliver_reply_at) (Fits (room_of row.DeliverReply)) IsNone
deliver_reply_part = fixed_part deliver_reply_reads 1 deliver_reply_len (λ left f. (f.0, (omega arith, omega (arith, f.1)))) (λ n none. (omega arith, omega (arith, none.1)))

-- ---- no octets, and any octets

nothing_only : (fields : Fields) → IsOf row.Nothing fields → fields ≡ Nothing
nothing_only Nothing good = refl
nothing_only fields good = absurd good

nothing_part : IsPart (IsOf row.Nothing) body (λ left. given Nothing) (Fits (room_of row.Nothing)) IsNone
nothing_part =
    part_of
    (λ left f. let none : 0 ≡ left = omega (arith, f.1) in subst (λ (n : ℕ). IsReader (Fills (IsOf row.Nothing) body n) body (given Nothing)) none (nothing_reads row.Nothing tt (λ fields good. nothing_only fields good.0)))
    (λ fields good. subst (λ (fs : Fields). Fits (room_of row.Nothing) (length (body fs))) (sym (nothing_only fields good)) (omega arith, omega arith))

any_back : (left : ℕ) (fields : Fields) → Fills (IsOf row.Any) body left fields → (x : List ℕ) × ((length x ≡ left) × All (IsIn AnyOctet) x) × (Any x ≡ fields) × (x ≡ body fields)
any_back left (Any octets) good = (octets, (good.1, λ k d lt. tt), refl, refl)
any_back left fields good = absurd good.0

any_body_reads : (left : ℕ) → Fits (room_of row.Any) left → IsReader (Fills (IsOf row.Any) body left) body (any_body_at left)
unfolding any_body_at
any_body_reads left f = made_reads Any (text_reads AnyOctet left) (record { there = λ x good. ((tt, good.0), refl); back = any_back left })

any_part : IsPart (IsOf row.Any) body any_body_at (Fits (room_of row.Any)) IsNone
any_part = part_of any_body_reads (λ fields good. omega arith)

-- ---- submit_sm and deliver_sm

abbrev Octets2 : Type 0
Octets2 = ℕ × ℕ

abbrev Octets3 : Type 0
Octets3 = ℕ × (ℕ × ℕ)

abbrev Octets4 : Type 0
Octets4 = ℕ × (ℕ × (ℕ × ℕ))

abbrev Are2 : Octets2 → Type 0
Are2 x = IsIn AnyOctet x.0 × IsIn AnyOctet x.1

abbrev Are3 : Octets3 → Type 0
Are3 x = IsIn AnyOctet x.0 × (IsIn AnyOctet x.1.0 × IsIn AnyOctet x.1.1)

abbrev Are4 : Octets4 → Type 0
Are4 x = IsIn AnyOctet x.0 × (IsIn AnyOctet x.1.0 × (IsIn AnyOctet x.1.1.0 × IsIn AnyOctet x.1.1.1))

abbrev octets2 : Octets2 → List ℕ
octets2 x = (x.0 ∷ []) ++ (x.1 ∷ [])

abbrev octets3 : Octets3 → List ℕ
octets3 x = (x.0 ∷ []) ++ ((x.1.0 ∷ []) ++ (x.1.1 ∷ []))

abbrev octets4 : Octets4 → List ℕ
octets4 x = (x.0 ∷ []) ++ ((x.1.0 ∷ []) ++ ((x.1.1.0 ∷ []) ++ (x.1.1.1 ∷ [])))

two_reads : IsReader Are2 octets2 two_at
two_reads = any_reads & any_reads

three_reads : IsReader Are3 octets3 three_at
three_reads = any_reads & any_reads & any_reads

four_reads : IsReader Are4 octets4 four_at
four_reads = any_reads & any_reads & any_reads & any_reads

abbrev Party : Type 0
Party = Octets2 × List ℕ

abbrev IsParty : Party → Type 0
IsParty x = Are2 x.0 × IsText 21 x.1

abbrev party_octets : Party → List ℕ
party_octets x = octets2 x.0 ++ ended x.1

-- an address before what takes so many or more
party_part : (least : ℕ) → IsPart IsParty party_octets (party_at (From least)) (Fits (From (2 + suc least))) (Fits (From least))
unfolding party_at
party_part least = then_part (fixed_from 2 (suc least) two_reads (λ x good. refl)) (λ x. 2) (λ x good. refl) (text_from_part 21 least (omega arith))

party_sized : (x : Party) → IsParty x → party_size x ≡ length (party_octets x)
party_sized x good = omega (arith, length-append x.1 (0 ∷ []))

abbrev AreContents : Contents → Type 0
AreContents x = Are4 x.0 × (IsShort x.1.0 × AreTlvs x.1.1)

abbrev contents_octets : Contents → List ℕ
contents_octets x = octets4 x.0 ++ (short x.1.0 ++ x.1.1)

contents_part : IsPart AreContents contents_octets contents_at (Fits (From 5)) IsNone
unfolding contents_at
contents_part =
    then_part (fixed_from 4 1 four_reads (λ x good. refl)) (λ x. 4) (λ x good. refl)
    (then_part short_message_part text_size (λ text good. omega arith) tlvs_part)

abbrev IsClosing : Closing → Type 0
IsClosing x = IsTime x.0 × (IsTime x.1.0 × AreContents x.1.1)

abbrev closing_octets : Closing → List ℕ
closing_octets x = ended x.0 ++ (ended x.1.0 ++ contents_octets x.1.1)

closing_part : IsPart IsClosing closing_octets closing_at (Fits (From 7)) IsNone
unfolding closing_at
closing_part =
    then_part (time_part 6) text_size (λ text good. text_sized text)
    (then_part (time_part 5) text_size (λ text good. text_sized text) contents_part)

abbrev IsDelivery : Delivery → Type 0
IsDelivery x = IsParty x.0 × (Are3 x.1.0 × IsClosing x.1.1)

abbrev delivery_octets : Delivery → List ℕ
delivery_octets x = party_octets x.0 ++ (octets3 x.1.0 ++ closing_octets x.1.1)

delivery_part : IsPart IsDelivery delivery_octets delivery_at (Fits (From 13)) IsNone
unfolding delivery_at
delivery_part =
    then_part (party_part 10) party_size party_sized
    (then_part (fixed_from 3 7 three_reads (λ x good. refl)) (λ x. 3) (λ x good. refl) closing_part)

abbrev MessageText : Type 0
MessageText = List ℕ × (Party × Delivery)

abbrev IsMessageText : MessageText → Type 0
IsMessageText x = IsText 6 x.0 × (IsParty x.1.0 × IsDelivery x.1.1)

abbrev message_octets : MessageText → List ℕ
message_octets x = ended x.0 ++ (party_octets x.1.0 ++ delivery_octets x.1.1)

message_there : (x : MessageText) → IsMessageText x → IsMessage (message_of x)
message_there x good = record {
  service_type = good.0;
  source = good.1.0.1;
  destination = good.1.1.0.1;
  schedule_delivery_time = good.1.1.1.1.0;
  validity_period = good.1.1.1.1.1.0;
  short_message = good.1.1.1.1.1.1.1.0;
  tlvs = good.1.1.1.1.1.1.1.1;
}

message_back : (fields : Fields) → IsOf row.Message fields → (x : MessageText) × IsMessageText x × (Message (message_of x) ≡ fields) × (message_octets x ≡ body fields)
message_back (Message m) good = (
  (
    m.service_type,
    (
      ((m.source_ton, m.source_npi), m.source),
      (
        ((m.destination_ton, m.destination_npi), m.destination),
        (
          (m.esm_class, (m.protocol_id, m.priority_flag)),
          (m.schedule_delivery_time, (m.validity_period, ((m.registered_delivery, (m.replace_if_present_flag, (m.data_coding, m.sm_default_msg_id))), (m.short_message, m.tlvs)))),
        ),
      ),
    ),
  ),
  (
    good.service_type,
    (
      ((tt, tt), good.source),
      (
        ((tt, tt), good.destination),
        (
          (tt, (tt, tt)),
          (good.schedule_delivery_time, (good.validity_period, ((tt, (tt, (tt, tt))), (good.short_message, good.tlvs)))),
        ),
      ),
    ),
  ),
  refl,
  refl,
)
message_back fields good = absurd good

message_part : IsPart (IsOf row.Message) body message_at (Fits (room_of row.Message)) IsNone
unfolding message_at
message_part = made_part (λ (x : MessageText). Message (message_of x))
    (then_part (text_from_part 6 16 (omega arith)) text_size (λ text good. text_sized text) (then_part (party_part 13) party_size party_sized delivery_part))
    (record { there = λ x good. (message_there x good, refl); back = message_back })

-- ---- any row

pub row_part : (r : Row) → IsPart (IsOf r) body (body_at r) (Fits (room_of r)) IsNone
row_part row.Bind = bind_part
row_part row.BindReply = bind_reply_part
row_part row.Message = message_part
row_part row.SubmitReply = submit_reply_part
row_part row.DeliverReply = deliver_reply_part
row_part row.Nothing = nothing_part
row_part row.Any = any_part
