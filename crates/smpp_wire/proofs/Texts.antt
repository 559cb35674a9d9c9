-- Texts that end with 00 are read exactly.
use Rattle.std.proofs.Common.{◌≡◌, ◌≢◌, ℕ, zero, suc, ◌+◌, ◌-◌, ◌<◌, ◌≤◌, Bool, true, false, cond, eqb, List, [], ◌∷◌, ◌++◌, length, All, Result, Ok, Err, refl, sym, ap, subst, ◌∙◌, length-append, arith, inl, inr}
use Rattle.std.specs.List.{AllByRecursion}
use Rattle.std.proofs.lemmas.Bool.{cases_Bool, eqb-true, eqb-false, ne_eqb}
use Rattle.std.proofs.lemmas.List.Elements.{All-from_recursion, recursion_from_All}
use Rattle.exact_octets.specs.declared.read_fault.ReadFault.{ReadFault}
use Rattle.exact_octets.specs.Reading.{◌>>=◌, Reader, both, made, given, octet_at}
use Rattle.exact_octets.proofs.Readers.{Answers, IsReader, then_reads, made_reads, given_reads, octet_reads, reworded_reads}
use Rattle.smpp_wire.specs.declared.room.Room.{Room}
use Rattle.smpp_wire.specs.declared.text.Sizes.{Sizes}
use Rattle.smpp_wire.specs.Grammar.{ended}
use Rattle.smpp_wire.specs.Room.{may_end, may_go_on}
use Rattle.smpp_wire.specs.Reading.{text_from, text_at}
use Rattle.smpp_wire.proofs.Rooms.{Fits, IsSize, IsRoom, Ends, end_means, end_tests, ends_later, goes_on, ends_before}
use Rattle.smpp_wire.proofs.Parts.{Leaves, IsPart}

-- readers that give the same are exact alike
same_reads : {A : Type 0} {Good : A → Type 0} {spelled : A → List ℕ} {read read' : Reader A} → IsReader Good spelled read → ((octets : List ℕ) → read octets ≡ read' octets) → IsReader Good spelled read'
same_reads {Good = Good} {spelled = spelled} reads same = record {
  one = reads.one;
  again = λ a rest good. sym (same (spelled a ++ rest)) ∙ reads.again a rest good;
  answers = λ octets fits. subst (Answers Good spelled octets) (same octets) (reads.answers octets fits);
}

abbrev pub IsPlain : ℕ → Type 0
IsPlain octet = octet ≢ 0

-- so many octets that aren't 00
ones : ℕ → List ℕ
ones zero = []
ones (suc n) = 1 ∷ ones n

ones-are : (n : ℕ) → AllByRecursion IsPlain (ones n) × (length (ones n) ≡ n)
unfolding ones
ones-are zero = (tt, refl)
ones-are (suc n) = let o = ones-are n in ((λ e. omega arith, o.0), ap suc o.1)

-- ---- a text behind so many octets of it

module _ (ends goes : ℕ → Bool) (total : ℕ) (later : (before : ℕ) → goes before ≡ true → (n : ℕ) × (ends (suc before + n) ≡ true)) (earlier : (before n : ℕ) → ends (suc before + n) ≡ true → goes before ≡ true)
    (bounded : (before : ℕ) → ends before ≡ true → before < total) where
  abbrev Good : ℕ → List ℕ → Type 0
  Good before text = AllByRecursion IsPlain text × (ends (before + length text) ≡ true)

  abbrev allowed : ℕ → ℕ → Bool
  allowed before octet = cond (eqb octet 0) (ends before) (goes before)

  -- what is read behind an octet
  abbrev behind_at : ℕ → ℕ → Reader (List ℕ)
  behind_at before octet = cond (eqb octet 0) (given []) (text_from ends goes (suc before))

  abbrev joined : ℕ × List ℕ → List ℕ
  joined x = cond (eqb x.0 0) [] (x.0 ∷ x.1)

  abbrev longer : ℕ → Result (List ℕ × List ℕ) ReadFault → Result (List ℕ × List ℕ) ReadFault
  longer octet r = r >>= λ x. Ok (octet ∷ x.0, x.1)

  abbrev ok : List ℕ → List ℕ → Result (List ℕ × List ℕ) ReadFault
  ok text rest = Ok (text, rest)

  again : (octet : ℕ) (rest : List ℕ) (r : Result (List ℕ × List ℕ) ReadFault) → eqb octet 0 ≡ false → made joined (both (given octet) (λ o octets. r)) rest ≡ longer octet r
  again octet rest (Ok x) e = rw e refl
  again octet rest (Err fault) e = refl

  -- it is made of its first octet and what stands behind it
  made_of_steps : (before : ℕ) (octets : List ℕ) → made joined (both (octet_at (allowed before)) (behind_at before)) octets ≡ text_from ends goes before octets
  unfolding text_from
  made_of_steps before [] = refl
  made_of_steps before (octet ∷ rest) =
      elim (cases_Bool (eqb octet 0)) [
        | inl e ↦ elim (cases_Bool (ends before)) [ inl f ↦ rw (e, f) (rw e (ap (λ (b : Bool). ok (cond b [] (octet ∷ [])) rest) e)) | inr f ↦ rw (e, f) refl ]
        | inr e ↦ elim (cases_Bool (goes before)) [ inl f ↦ rw (e, f) (rw e (again octet rest (text_from ends goes (suc before) rest) e)) | inr f ↦ rw (e, f) refl ]
      ]

  -- what may stand behind an octet, and its octets
  abbrev GoodBehind : ℕ → ℕ → List ℕ → Type 0
  GoodBehind before octet text = cond (eqb octet 0) (text ≡ []) (Good (suc before) text)

  abbrev spelled_behind : ℕ → List ℕ → List ℕ
  spelled_behind octet text = cond (eqb octet 0) [] (ended text)

  abbrev IsAllowed : ℕ → ℕ → Type 0
  IsAllowed before octet = allowed before octet ≡ true

  -- an octet and what stands behind it are a text
  there : (before octet : ℕ) (text : List ℕ) (none : Bool) → eqb octet 0 ≡ none → cond none (ends before) (goes before) ≡ true → cond none (text ≡ []) (Good (suc before) text)
      → Good before (cond none [] (octet ∷ text)) × (ended (cond none [] (octet ∷ text)) ≡ (octet ∷ []) ++ cond none [] (ended text))
  there before octet text true is may good =
      let e : before ≡ before + 0 = omega arith in
      ((tt, ap ends (sym e) ∙ may), ap (λ (o : ℕ). o ∷ []) (sym (eqb-true octet 0 is)))
  there before octet text false is may good =
      let e : suc before + length text ≡ before + suc (length text) = omega arith in
      (((eqb-false octet 0 is, good.0), ap ends (sym e) ∙ good.1), refl)

  back : (before : ℕ) (text : List ℕ) → Good before text → (x : ℕ × List ℕ) × (IsAllowed before x.0 × GoodBehind before x.0 x.1) × (joined x ≡ text) × ((x.0 ∷ []) ++ spelled_behind x.0 x.1 ≡ ended text)
  back before [] good =
      let e : before + 0 ≡ before = omega arith in
      ((0, []), (ap ends (sym e) ∙ good.1, refl), refl, refl)
  back before (octet ∷ text) good =
      let some : eqb octet 0 ≡ false = ne_eqb octet 0 good.0.0 in
      let e : before + suc (length text) ≡ suc before + length text = omega arith in
      let rest : ends (suc before + length text) ≡ true = ap ends (sym e) ∙ good.1 in
      ((octet, text), (rw some (earlier before (length text) rest), rw some (good.0.1, rest)), rw some refl, rw some refl)

  example : (before : ℕ) (text : List ℕ) → Good before text → (octet : ℕ) × IsAllowed before octet
  example before text good = let b = back before text good in (b.0.0, b.1.0)

  behind_reads : (before octet : ℕ) → ((one : (text : List ℕ) × Good (suc before) text) → IsReader (Good (suc before)) ended (text_from ends goes (suc before))) → (none : Bool) → cond none (ends before) (goes before) ≡ true
      → IsReader (λ text. cond none (text ≡ []) (Good (suc before) text)) (λ text. cond none [] (ended text)) (cond none (given []) (text_from ends goes (suc before)))
  behind_reads before octet more true may = given_reads []
  behind_reads before octet more false may =
      let l = later before may in
      let o = ones-are l.0 in
      more (ones l.0, (o.0, ap (λ (n : ℕ). ends (suc before + n)) o.1 ∙ l.1))

  pub text_from_reads : (left before : ℕ) → before + left ≡ total → (one : (text : List ℕ) × Good before text) → IsReader (Good before) ended (text_from ends goes before)
  text_from_reads zero before is one = let b = bounded (before + length one.0) one.1.1 in absurd (omega (arith, b, is))
  text_from_reads (suc left) before is one =
      same_reads
      (made_reads joined
      (then_reads (octet_reads (allowed before) (IsAllowed before) (λ x fits e. e) (λ x e. e) (example before one.0 one.1)) (λ octet may. behind_reads before octet (text_from_reads left (suc before) (omega (arith, is))) (eqb octet 0) may))
      (record { there = λ x good. there before x.0 x.1 (eqb x.0 0) refl good.0 good.1; back = back before }))
      (made_of_steps before)

-- ---- a text, where so many octets are left for it and what stands behind it

-- a text without 00 of one of the sizes
abbrev pub IsSized : Sizes → List ℕ → Type 0
IsSized sizes text = All IsPlain text × IsSize sizes (suc (length text))

-- a text may end somewhere
abbrev pub Opens : Sizes → Room → ℕ → Type 0
Opens sizes room left = (n : ℕ) × Ends sizes room left n

module _ (sizes : Sizes) (room : Room) (some : sizes.least ≤ sizes.most) (one : 1 ≤ sizes.most) (is : IsRoom room) where
  abbrev ends : ℕ → ℕ → Bool
  ends = may_end sizes room

  abbrev goes : ℕ → ℕ → Bool
  goes = may_go_on sizes room

  whole_reads : (left : ℕ) → Opens sizes room left → IsReader (λ text. AllByRecursion IsPlain text × (ends left (0 + length text) ≡ true)) ended (text_at sizes room left)
  unfolding text_at
  whole_reads left opens =
      text_from_reads (ends left) (goes left) sizes.most
      (λ before e. let g = goes_on sizes room left before some is e in (g.0, end_tests sizes room left (suc before + g.0) g.1))
      (λ before n e. ends_later sizes room left before n (end_means sizes room left (suc before + n) e))
      (λ before e. ends_before sizes room left before one (end_means sizes room left before e))
      sizes.most 0 (omega arith)
      (let o = ones-are opens.0 in
      let e : 0 + length (ones opens.0) ≡ opens.0 = omega (arith, o.1) in
      (ones opens.0, (o.0, ap (ends left) e ∙ end_tests sizes room left opens.0 opens.1)))

  text_leaves : (left : ℕ) (text : List ℕ) → AllByRecursion IsPlain text × (ends left (0 + length text) ≡ true) → Leaves (IsSized sizes) ended (Fits room) left text
  text_leaves left text good =
      let same : 0 + length text ≡ length text = omega arith in
      let e = end_means sizes room left (length text) (ap (ends left) (sym same) ∙ good.1) in
      let len : length (text ++ 0 ∷ []) ≡ suc (length text) = omega (arith, length-append text (0 ∷ [])) in
      ((All-from_recursion IsPlain text good.0, e.0), omega (arith, len, e.1), subst (λ (n : ℕ). Fits room (left - n)) (sym len) e.2)

  text_back : (left : ℕ) (text : List ℕ) → Leaves (IsSized sizes) ended (Fits room) left text → AllByRecursion IsPlain text × (ends left (0 + length text) ≡ true)
  text_back left text l =
      let same : 0 + length text ≡ length text = omega arith in
      let len : length (text ++ 0 ∷ []) ≡ suc (length text) = omega (arith, length-append text (0 ∷ [])) in
      (recursion_from_All IsPlain text l.0.0, ap (ends left) same ∙ end_tests sizes room left (length text) (l.0.1, omega (arith, len, l.1), subst (λ (n : ℕ). Fits room (left - n)) len l.2))

  -- a text is read exactly
  pub text_part : IsPart (IsSized sizes) ended (text_at sizes room) (Opens sizes room) (Fits room)
  text_part = record {
    reads = λ left opens. reworded_reads (whole_reads left opens) (text_leaves left) (text_back left);
    can = λ text good n rest.
        let len : length (text ++ 0 ∷ []) ≡ suc (length text) = omega (arith, length-append text (0 ∷ [])) in
        let left : n ≡ length (text ++ 0 ∷ []) + n - suc (length text) = omega (arith, len) in
        (length text, (good.1, omega (arith, len), subst (Fits room) left rest));
  }
