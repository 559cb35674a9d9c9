-- Each part and the header that goes out with it fit in one message, and is of the text's coding.
use Rattle.std.proofs.Common.{◌≡◌, ℕ, zero, suc, ◌+◌, ◌-◌, ◌%◌, ◌<◌, ◌≤◌, Bool, true, false, cond, eqb, leb, ltb, ◌&&◌, List, [], ◌∷◌, ◌++◌, length, drop, Ok, refl, sym, ap, subst, ◌∙◌, arith, inl, inr, length-append}
use Rattle.std.proofs.lemmas.Bool.{cases_Bool, leb-true, ltb-false, eqb-true, eqb-false, le-ltb, cases_lt}
use Rattle.std.proofs.lemmas.List.Elements.{All-nil, All-cons, All-head, All-tail, All-append}
use Rattle.std.specs.List.{concat, AllByRecursion}
use Rattle.sms_record.specs.declared.coding.Coding.{Coding}
use Rattle.sms_record.specs.declared.coding.Coding.TheVariants.{Seven, Eight, Ucs2}
use Rattle.sms_record.specs.Record.{IsOfCoding}
use Rattle.sms_record.specs.Room.{cap, header_len}
use Rattle.concat_split.specs.declared.limits.Limits.{Limits}
use Rattle.concat_split.specs.declared.part.Part.{Part}
use Rattle.concat_split.specs.Characters.{characters, septet_characters, unit_characters, is_high, is_low, units}
use Rattle.concat_split.specs.Parts.{front, broken, round, wrapped, texts, alone, numbered, room_of, around_of, parts_of, AreLimits}
use Rattle.concat_split.specs.Kept.{message_octets, IsPart, AreParts}
use Rattle.concat_split.proofs.Cuts.{IsFront}
use Rattle.concat_split.proofs.Fronts.{front_first, broken_first, first_first}
use Rattle.concat_split.proofs.Texts.{last_test, length-texts, length-alone, length-numbered}
use Rattle.concat_split.proofs.Shares.{concat-append, split_cases}

-- each of these is of the coding
abbrev AllOf : Coding → List (List ℕ) → Type 0
AllOf coding cs = AllByRecursion (IsOfCoding coding) cs

units_none : (coding : Coding) → units coding [] ≡ 0
units_none Seven = refl
units_none Eight = refl
units_none Ucs2 = refl

units_append : (coding : Coding) (a b : List ℕ) → IsOfCoding coding a → units coding (a ++ b) ≡ units coding a + units coding b
units_append Seven a b h = length-append a b
units_append Eight a b h = length-append a b
units_append Ucs2 a b h = omega (arith, h, length-append a b)

units_mono : (coding : Coding) (a b : List ℕ) → length a ≤ length b → units coding a ≤ units coding b
units_mono Seven a b h = h
units_mono Eight a b h = h
units_mono Ucs2 a b h = omega arith

abbrev IsSeptet : ℕ → Type 0
IsSeptet septet = septet < 128

of_none : (coding : Coding) → IsOfCoding coding []
of_none Seven = All-nil IsSeptet
of_none Eight = tt
of_none Ucs2 = refl

of_append : (coding : Coding) (a b : List ℕ) → IsOfCoding coding a → IsOfCoding coding b → IsOfCoding coding (a ++ b)
of_append Seven a b g h = All-append IsSeptet a b g h
of_append Eight a b g h = tt
of_append Ucs2 a b g h = omega (arith, g, h, length-append a b)

of_concat : (coding : Coding) (cs : List (List ℕ)) → AllOf coding cs → IsOfCoding coding (concat cs)
of_concat coding [] h = of_none coding
of_concat coding (c ∷ cs) h = of_append coding c (concat cs) h.0 (of_concat coding cs h.1)

-- the characters of a text are of its coding
units_whole : (text : List ℕ) → length text % 2 ≡ 0 → AllByRecursion (λ (c : List ℕ). length c % 2 ≡ 0) (unit_characters text)
units_whole [] even = tt
units_whole (h ∷ []) even = absurd (omega arith)
units_whole (h ∷ l ∷ []) even = (refl, tt)
units_whole (h ∷ l ∷ i ∷ []) even = absurd (omega arith)
units_whole (h ∷ l ∷ i ∷ m ∷ rest) even =
    elim (cases_Bool (is_high h && is_low i)) [
      | inl e ↦ rw e (refl, units_whole rest (omega arith))
      | inr e ↦ rw e (refl, units_whole (i ∷ m ∷ rest) (omega arith))
    ]

seven_whole : (text : List ℕ) → IsOfCoding Seven text → AllOf Seven (septet_characters text)
seven_whole [] h = tt
seven_whole (s ∷ []) h = (h, tt)
seven_whole (s ∷ t ∷ rest) h =
    let first : s < 128 = All-head IsSeptet s (t ∷ rest) h in
    let behind : IsOfCoding Seven (t ∷ rest) = All-tail IsSeptet s (t ∷ rest) h in
    elim (cases_Bool (eqb s 27)) [
      | inl e ↦
          let second : t < 128 = All-head IsSeptet t rest behind in
          rw e (All-cons IsSeptet s (t ∷ []) first (All-cons IsSeptet t [] second (All-nil IsSeptet)), seven_whole rest (All-tail IsSeptet t rest behind))
      | inr e ↦ rw e (All-cons IsSeptet s [] first (All-nil IsSeptet), seven_whole (t ∷ rest) behind)
    ]

eight_whole : (cs : List (List ℕ)) → AllOf Eight cs
eight_whole [] = tt
eight_whole (c ∷ cs) = (tt, eight_whole cs)

characters_whole : (coding : Coding) (text : List ℕ) → IsOfCoding coding text → AllOf coding (characters coding text)
characters_whole Seven text h = seven_whole text h
characters_whole Eight text h = eight_whole (characters Eight text)
characters_whole Ucs2 text h = units_whole text h

all_parts : (coding : Coding) (ps qs : List (List ℕ)) → AllOf coding (ps ++ qs) → AllOf coding ps × AllOf coding qs
all_parts coding [] qs h = (tt, h)
all_parts coding (p ∷ ps) qs h = let r = all_parts coding ps qs h.1 in ((h.0, r.0), r.1)

all_first : (coding : Coding) (ps cs : List (List ℕ)) → IsFront ps cs → AllOf coding cs → AllOf coding ps × AllOf coding (drop (length ps) cs)
all_first coding ps cs f h = all_parts coding ps (drop (length ps) cs) (subst (AllOf coding) f.parts h)

-- the longest front fits
front_fits : (coding : Coding) (room : ℕ) (cs : List (List ℕ)) → AllOf coding cs → units coding (concat (front coding room cs)) ≤ room
front_fits coding room [] h = omega (arith, units_none coding)
front_fits coding room (c ∷ cs) h =
    elim (cases_Bool (leb (units coding c) room)) [
      | inl e ↦
          let inside : units coding c ≤ room = leb-true _ _ e in
          let rest = front_fits coding (room - units coding c) cs h.1 in
          let sum = units_append coding c (concat (front coding (room - units coding c) cs)) h.0 in
          let both : units coding (c ++ concat (front coding (room - units coding c) cs)) ≤ room = omega arith in
          rw e both
      | inr e ↦
          let none : units coding [] ≤ room = omega (arith, units_none coding) in
          rw e none
    ]

-- a front of what fits does
less_fits : (coding : Coding) (room : ℕ) (ps cs : List (List ℕ)) → IsFront ps cs → units coding (concat cs) ≤ room → units coding (concat ps) ≤ room
less_fits coding room ps cs f h =
    let sizes : length (concat cs) ≡ length (concat ps) + length (concat (drop (length ps) cs)) = ap (λ (w : List (List ℕ)). length (concat w)) f.parts ∙ ap length (concat-append ps (drop (length ps) cs)) ∙ length-append (concat ps) (concat (drop (length ps) cs)) in
    let less = units_mono coding (concat ps) (concat cs) (omega arith) in
    omega arith

units_wrapped : (coding : Coding) (limits : Limits) (text : List ℕ) → IsOfCoding coding limits.header → IsOfCoding coding text → units coding (wrapped limits text) ≡ round coding limits + units coding text
units_wrapped coding limits text h t =
    let outer = units_append coding (limits.header ++ text) limits.footer (of_append coding limits.header text h t) in
    let inner = units_append coding limits.header text h in
    omega arith

-- a text of its coding that has at most so many units
abbrev pub Fit : Coding → ℕ → List ℕ → Type 0
Fit coding room text = IsOfCoding coding text × (units coding text ≤ room)

-- what stands round a text leaves it of its coding, and adds its units
wrapped_fits : (coding : Coding) (room : ℕ) (limits : Limits) (text : List ℕ) → AreLimits coding limits → IsOfCoding coding text → round coding limits + units coding text ≤ room → Fit coding room (wrapped limits text)
wrapped_fits coding room limits text a of le =
    let size = units_wrapped coding limits text a.header of in
    (of_append coding (limits.header ++ text) limits.footer (of_append coding limits.header text a.header of) a.footer, omega arith)

-- each text of a part fits
texts_fit : (coding : Coding) (room : ℕ) (limits : Limits) (left : ℕ) (cs : List (List ℕ)) → AreLimits coding limits → round coding limits ≤ room → (1 < left → round coding limits + units coding limits.suffix ≤ room) → AllOf coding cs → AllByRecursion (Fit coding room) (texts coding room limits left cs)
texts_fit coding room limits zero cs a low high h = tt
texts_fit coding room limits (suc n) cs a low high h =
    elim (cases_Bool (last_test coding room limits (concat cs))) [
      | inl t ↦ rw t (wrapped_fits coding room limits (concat cs) a (of_concat coding cs h) (leb-true _ _ t), tt)
      | inr t ↦ elim (cases_Bool (eqb n 0)) [
        | inl e ↦
            let ps : List (List ℕ) = front coding (room - round coding limits) cs in
            let inside = front_fits coding (room - round coding limits) cs h in
            let of = all_first coding ps cs (front_first coding (room - round coding limits) cs) h in
            rw (t, e) (wrapped_fits coding room limits (concat ps) a (of_concat coding ps of.0) (omega arith), tt)
        | inr e ↦
            let not_none = eqb-false n 0 e in
            let more : 1 < suc n = elim (cases_lt 1 (suc n)) [ inl lt ↦ lt | inr ge ↦ absurd (not_none (omega arith)) ] in
            let around : ℕ = round coding limits + units coding limits.suffix in
            let enough : around ≤ room = high more in
            let fs : List (List ℕ) = front coding (room - around) cs in
            let ps : List (List ℕ) = broken (characters coding limits.split_chars) fs in
            let f : IsFront ps fs = broken_first (characters coding limits.split_chars) fs in
            let g : IsFront ps cs = first_first ps fs cs f (front_first coding (room - around) cs) in
            let inside = less_fits coding (room - around) ps fs f (front_fits coding (room - around) cs h) in
            let of = all_first coding ps cs g h in
            let of-ps = of_concat coding ps of.0 in
            let sum = units_append coding (concat ps) limits.suffix of-ps in
            let le : round coding limits + units coding (concat ps ++ limits.suffix) ≤ room = omega arith in
            rw (t, e) (wrapped_fits coding room limits (concat ps ++ limits.suffix) a (of_append coding (concat ps) limits.suffix of-ps a.suffix) le, texts_fit coding room limits n (drop (length ps) cs) a low (λ lt. enough) of.1)
      ]
    ]

-- ---- octets

-- what fits beside a header fits with it
cap_octets : (coding : Coding) (header : ℕ) (text : List ℕ) → header ≤ 140 → Fit coding (cap coding header) text → header + message_octets coding text ≤ 140
cap_octets Seven header text short h = omega (arith, h.1)
cap_octets Eight header text short h = omega (arith, h.1)
cap_octets Ucs2 header text short h = omega (arith, h.0, h.1)

part_fits : (coding : Coding) (udh header total k : ℕ) (limits : Limits) (text : List ℕ) → header_len udh total ≤ header → header ≤ 140
    → Fit coding (cap coding header) text → 1 ≤ k → k ≤ total → total ≤ limits.parts → IsPart coding udh limits (record { body = text; total = total; part = k })
part_fits coding udh header total k limits text le short f some among few =
    let whole = cap_octets coding header text short f in
    record { fits = omega arith; coded = f.0; among = (some, among); few = few }

numbered_fit : (coding : Coding) (udh header total k : ℕ) (limits : Limits) (ts : List (List ℕ)) → header_len udh total ≤ header → header ≤ 140
    → 1 ≤ k → k + length ts ≤ total + 1 → total ≤ limits.parts
    → AllByRecursion (Fit coding (cap coding header)) ts → AllByRecursion (IsPart coding udh limits) (numbered total k ts)
numbered_fit coding udh header total k limits [] le short some among few f = tt
numbered_fit coding udh header total k limits (t ∷ ts) le short some among few f =
    let one : k + suc (length ts) ≤ total + 1 = among in (
      part_fits coding udh header total k limits t le short f.0 some (omega arith) few,
      numbered_fit coding udh header total (k + 1) limits ts le short (omega arith) (omega arith) few f.1,
    )

alone_fit : (coding : Coding) (udh header : ℕ) (limits : Limits) (ts : List (List ℕ)) → udh ≤ header → header ≤ 140 → 1 ≤ limits.parts
    → AllByRecursion (Fit coding (cap coding header)) ts → AllByRecursion (IsPart coding udh limits) (alone ts)
alone_fit coding udh header limits [] le short some f = tt
alone_fit coding udh header limits (t ∷ ts) le short some f =
    (part_fits coding udh header 1 1 limits t le short f.0 (omega arith) (omega arith) some, alone_fit coding udh header limits ts le short some f.1)

-- the header that goes out with one of so many parts is none longer than with one of two
header_two : (udh total : ℕ) → header_len udh total ≤ header_len udh 2
header_two udh total =
    elim (cases_Bool (ltb 1 total)) [
      | inl e ↦ rw e (omega arith)
      | inr e ↦
          elim (cases_Bool (eqb udh 0)) [
            | inl z ↦ let none : udh ≡ 0 = eqb-true _ _ z in rw (e, z) (omega arith)
            | inr z ↦ rw (e, z) (omega arith)
          ]
    ]

header_short : (udh : ℕ) → udh ≤ 60 → (udh ≤ header_len udh 2) × (header_len udh 2 ≤ 140)
header_short udh short =
    elim (cases_Bool (eqb udh 0)) [
      | inl z ↦ let none : udh ≡ 0 = eqb-true _ _ z in rw z (omega arith, omega arith)
      | inr z ↦ rw z (omega arith, omega arith)
    ]

header_one : (udh total : ℕ) → total ≤ 1 → header_len udh total ≤ udh
header_one udh total le =
    let test : ltb 1 total ≡ false = le-ltb _ _ le in
    rw test (omega arith)

-- parts of these texts fit, whether they are joined or not
either_fit : (coding : Coding) (udh header : ℕ) (limits : Limits) (joined : Bool) (ts : List (List ℕ)) → (joined ≡ true → header_len udh (length ts) ≤ header)
    → udh ≤ header → header ≤ 140 → 1 ≤ length ts → length ts ≤ limits.parts
    → AllByRecursion (Fit coding (cap coding header)) ts → AreParts coding udh limits (cond joined (numbered (length ts) 1 ts) (alone ts))
either_fit coding udh header limits true ts le low short some few f =
    let same = length-numbered (length ts) 1 ts in
    record { some = omega arith; few = omega arith; each = numbered_fit coding udh header (length ts) 1 limits ts (le refl) short (omega arith) (omega arith) few f }
either_fit coding udh header limits false ts le low short some few f =
    let same = length-alone ts in
    record { some = omega arith; few = omega arith; each = alone_fit coding udh header limits ts low short (omega arith) f }

-- a text has a part
some_texts : (coding : Coding) (room : ℕ) (limits : Limits) (left : ℕ) (cs : List (List ℕ)) → 1 ≤ left → 1 ≤ length (texts coding room limits left cs)
some_texts coding room limits zero cs some = absurd (omega arith)
some_texts coding room limits (suc n) cs some =
    elim (cases_Bool (last_test coding room limits (concat cs))) [
      | inl t ↦ rw t (omega arith)
      | inr t ↦ elim (cases_Bool (eqb n 0)) [
        | inl e ↦ rw (t, e) (omega arith)
        | inr e ↦ rw (t, e) (omega arith)
      ]
    ]

pub parts_fit : (coding : Coding) (body : List ℕ) (udh : ℕ) (limits : Limits) → udh ≤ 60 → IsOfCoding coding body → AreLimits coding limits
    → (ps : List Part) → parts_of coding body udh limits ≡ Ok ps → AreParts coding udh limits ps
parts_fit coding body udh limits short of a ps e =
    let room : ℕ = room_of coding udh limits in
    let cs : List (List ℕ) = characters coding body in
    let ts : List (List ℕ) = texts coding room limits limits.parts cs in
    let goal : List Part → Type 0 = AreParts coding udh limits in
    let whole = characters_whole coding body of in
    let some = some_texts coding room limits limits.parts cs a.some in
    let few = length-texts coding room limits limits.parts cs in
    elim (split_cases coding body udh limits ps e) [
      | inl w ↦
          let fits = wrapped_fits coding (cap coding udh) limits body a of (leb-true _ _ w.0) in
          let at_least : 1 ≤ limits.parts = a.some in
          subst goal (sym w.1) (record {
            some = omega arith;
            few = omega arith;
            each = alone_fit coding udh udh limits (wrapped limits body ∷ []) (omega arith) (omega arith) at_least (fits, tt);
          })
      | inr w ↦
          let enough : around_of coding limits + 2 ≤ room = ltb-false _ _ w.0 in
          elim (cases_Bool (eqb limits.parts 1)) [
            | inl one ↦
                let parts-one : limits.parts ≡ 1 = eqb-true _ _ one in
                let room-is : room ≡ cap coding udh = rw one refl in
                let around-is : around_of coding limits ≡ round coding limits = rw one refl in
                let fits = texts_fit coding room limits limits.parts cs a (omega arith) (λ lt. absurd (omega arith)) whole in
                let there = subst (λ (r : ℕ). AllByRecursion (Fit coding r) ts) room-is fits in
                subst goal (sym w.1) (either_fit coding udh udh limits limits.concatenate ts (λ c. header_one udh (length ts) (omega arith)) (omega arith) (omega arith) some few there)
            | inr more ↦
                let header : ℕ = header_len udh (cond limits.concatenate 2 1) in
                let room-is : room ≡ cap coding header = rw more refl in
                let around-is : around_of coding limits ≡ round coding limits + units coding limits.suffix = rw more refl in
                let fits = texts_fit coding room limits limits.parts cs a (omega arith) (λ lt. omega arith) whole in
                let there = subst (λ (r : ℕ). AllByRecursion (Fit coding r) ts) room-is fits in
                let bounds = joined_header limits.concatenate (length ts) in
                subst goal (sym w.1) (either_fit coding udh header limits limits.concatenate ts bounds.0 bounds.1 bounds.2 some few there)
          ]
    ]
  where
    joined_header : (joined : Bool) (total : ℕ) → (joined ≡ true → header_len udh total ≤ header_len udh (cond joined 2 1)) × (udh ≤ header_len udh (cond joined 2 1)) × (header_len udh (cond joined 2 1) ≤ 140)
    joined_header true total = (λ c. header_two udh total, (header_short udh short).0, (header_short udh short).1)
    joined_header false total = (λ c. absurd cc, omega arith, omega arith)
