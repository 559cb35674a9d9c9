-- The texts of parts, one after the other, as a loop makes them.
use Rattle.std.proofs.Common.{◌≡◌, ◌⊎◌, ℕ, zero, suc, ◌+◌, ◌-◌, ◌<◌, ◌≤◌, Bool, true, false, eqb, leb, List, [], ◌∷◌, ◌++◌, length, get_or, set, take, drop, map, refl, sym, ap, ◌∙◌, arith, inl, inr, append_assoc}
use Rattle.std.proofs.lemmas.Bool.{cases_Bool, eq-eqb, ne_eqb}
use Rattle.std.proofs.lemmas.List.{append-nil, drop_all, take_all, drop_more, length-map, length-take-le, get_or_at, set_at, map_more}
use Rattle.std.specs.List.{concat}
use Rattle.sms_record.specs.declared.coding.Coding.{Coding}
use Rattle.concat_split.specs.declared.limits.Limits.{Limits}
use Rattle.concat_split.specs.declared.part.Part.{Part}
use Rattle.concat_split.specs.Characters.{characters, units}
use Rattle.concat_split.specs.Parts.{front, broken, round, wrapped, texts, last_text, Takes, alone, numbered}
use Rattle.concat_split.proofs.Cuts.{concat-characters}

-- whether a text fits with header and footer
abbrev pub last_test : Coding → ℕ → Limits → List ℕ → Bool
last_test coding room limits text = leb (round coding limits + units coding text) room

same_test : (coding : Coding) (room : ℕ) (limits : Limits) (text : List ℕ) → last_test coding room limits (concat (characters coding text)) ≡ last_test coding room limits text
same_test coding room limits text = ap (last_test coding room limits) (concat-characters coding (length text) text (omega arith))

-- the last part
pub texts_last : (coding : Coding) (room : ℕ) (limits : Limits) (left : ℕ) (text : List ℕ) → 0 < left → (last_test coding room limits text ≡ true) ⊎ (left ≤ 1) → texts coding room limits left (characters coding text) ≡ wrapped limits (last_text coding room limits text) ∷ []
texts_last coding room limits zero text some last = absurd (omega arith)
texts_last coding room limits (suc n) text some last =
    let same = same_test coding room limits text in
    elim (cases_Bool (last_test coding room limits text)) [
      | inl fits ↦
          let t : last_test coding room limits (concat (characters coding text)) ≡ true = same ∙ fits in
          rw (t, fits) (ap (λ (w : List ℕ). wrapped limits w ∷ []) (concat-characters coding (length text) text (omega arith)))
      | inr over ↦
          let t : last_test coding room limits (concat (characters coding text)) ≡ false = same ∙ over in
          let one : n ≡ 0 = elim last [ inl e ↦ absurd (let bad : false ≡ true = sym over ∙ e in cc) | inr le ↦ omega arith ] in
          let test : eqb n 0 ≡ true = eq-eqb n 0 one in
          rw (t, over, test) refl
    ]

-- a part that another one follows
pub texts_more : (coding : Coding) (room : ℕ) (limits : Limits) (left : ℕ) (text : List ℕ) (len : ℕ) → 1 < left → last_test coding room limits text ≡ false → Takes coding room limits text len → texts coding room limits left (characters coding text) ≡ wrapped limits (take len text ++ limits.suffix) ∷ texts coding room limits (left - 1) (characters coding (drop len text))
texts_more coding room limits zero text len more over taken = absurd (omega arith)
texts_more coding room limits (suc n) text len more over taken =
    let t : last_test coding room limits (concat (characters coding text)) ≡ false = same_test coding room limits text ∙ over in
    let test : eqb n 0 ≡ false = ne_eqb n 0 (λ e. absurd (omega arith)) in
    let less : n ≡ suc n - 1 = omega arith in
    rw (t, test) (ap (λ (w : List ℕ). wrapped limits (w ++ limits.suffix) ∷ texts coding room limits n (drop (length (broken (characters coding limits.split_chars) (front coding (room - (round coding limits + units coding limits.suffix)) (characters coding text)))) (characters coding text))) (sym taken.front)
    ∙ ap (λ (cs : List (List ℕ)). wrapped limits (take len text ++ limits.suffix) ∷ texts coding room limits n cs) (sym taken.rest)
    ∙ ap (λ (m : ℕ). wrapped limits (take len text ++ limits.suffix) ∷ texts coding room limits m (characters coding (drop len text))) less)

-- there are no more texts than parts may be
pub length-texts : (coding : Coding) (room : ℕ) (limits : Limits) (left : ℕ) (cs : List (List ℕ)) → length (texts coding room limits left cs) ≤ left
length-texts coding room limits zero cs = omega arith
length-texts coding room limits (suc n) cs =
    elim (cases_Bool (last_test coding room limits (concat cs))) [
      | inl t ↦ rw t (omega arith)
      | inr t ↦ elim (cases_Bool (eqb n 0)) [
        | inl e ↦ rw (t, e) (omega arith)
        | inr e ↦
            let taken : List (List ℕ) = broken (characters coding limits.split_chars) (front coding (room - (round coding limits + units coding limits.suffix)) cs) in
            let h = length-texts coding room limits n (drop (length taken) cs) in
            rw (t, e) (omega arith)
      ]
    ]

pub alone-append : (xs ys : List (List ℕ)) → alone (xs ++ ys) ≡ alone xs ++ alone ys
alone-append [] ys = refl
alone-append (x ∷ xs) ys = ap (λ (w : List Part). record { body = x; total = 1; part = 1 } ∷ w) (alone-append xs ys)

pub length-alone : (xs : List (List ℕ)) → length (alone xs) ≡ length xs
length-alone [] = refl
length-alone (x ∷ xs) = ap suc (length-alone xs)

pub bodies-alone : (xs : List (List ℕ)) → map (λ (p : Part). p.body) (alone xs) ≡ xs
bodies-alone [] = refl
bodies-alone (x ∷ xs) = ap (λ (w : List (List ℕ)). x ∷ w) (bodies-alone xs)

pub length-numbered : (total k : ℕ) (xs : List (List ℕ)) → length (numbered total k xs) ≡ length xs
length-numbered total k [] = refl
length-numbered total k (x ∷ xs) = ap suc (length-numbered total (k + 1) xs)

pub numbered-append : (total k : ℕ) (xs : List (List ℕ)) (y : List ℕ) → numbered total k (xs ++ y ∷ []) ≡ numbered total k xs ++ record { body = y; total = total; part = k + length xs } ∷ []
numbered-append total k [] y = ap (λ (n : ℕ). record { body = y; total = total; part = n } ∷ []) (omega arith)
numbered-append total k (x ∷ xs) y =
    let same : k + 1 + length xs ≡ k + suc (length xs) = omega arith in
    ap (λ (w : List Part). record { body = x; total = total; part = k } ∷ w) (numbered-append total (k + 1) xs y ∙ ap (λ (n : ℕ). numbered total (k + 1) xs ++ record { body = y; total = total; part = n } ∷ []) same)

-- ---- the loop

-- what holds while a text is cut
pub record Cutting (coding : Coding) (room : ℕ) (limits : Limits) (text : List ℕ) (parts : List Part) (rest : List ℕ) (left : ℕ) : Type 0 where
  pub some : 0 < left
  pub few : left ≤ limits.parts
  pub all : parts ++ alone (texts coding room limits left (characters coding rest)) ≡ alone (texts coding room limits limits.parts (characters coding text))

pub cutting_none : (coding : Coding) (room : ℕ) (limits : Limits) (text : List ℕ) → 0 < limits.parts → Cutting coding room limits text [] text limits.parts
cutting_none coding room limits text some = record { some = some; few = omega arith; all = refl }

-- one part more
pub cutting_more : (coding : Coding) (room : ℕ) (limits : Limits) (text : List ℕ) (parts next : List Part) (rest : List ℕ) (left len : ℕ) → Cutting coding room limits text parts rest left → 1 < left → last_test coding room limits rest ≡ false → Takes coding room limits rest len → next ≡ parts ++ alone (wrapped limits (take len rest ++ limits.suffix) ∷ []) → Cutting coding room limits text next (drop len rest) (left - 1)
cutting_more coding room limits text parts next rest left len c more over taken pushed =
    let first : List Part = alone (wrapped limits (take len rest ++ limits.suffix) ∷ []) in
    let others : List Part = alone (texts coding room limits (left - 1) (characters coding (drop len rest))) in
    let opened : first ++ others ≡ alone (texts coding room limits left (characters coding rest)) = sym (ap alone (texts_more coding room limits left rest len more over taken)) in
    record {
      some = omega arith;
      few = omega (arith, c.few);
      all = ap (λ (w : List Part). w ++ others) pushed ∙ append_assoc parts first others ∙ ap (λ (w : List Part). parts ++ w) opened ∙ c.all;
    }

-- the last part
pub cutting_end : (coding : Coding) (room : ℕ) (limits : Limits) (text : List ℕ) (parts next : List Part) (rest : List ℕ) (left len : ℕ) → Cutting coding room limits text parts rest left → (last_test coding room limits rest ≡ true) ⊎ (left ≤ 1) → take len rest ≡ last_text coding room limits rest → next ≡ parts ++ alone (wrapped limits (take len rest ++ []) ∷ []) → next ≡ alone (texts coding room limits limits.parts (characters coding text))
cutting_end coding room limits text parts next rest left len c last taken pushed =
    pushed ∙ ap (λ (w : List ℕ). parts ++ alone (wrapped limits w ∷ [])) (append-nil (take len rest) ∙ taken) ∙ ap (λ (w : List (List ℕ)). parts ++ alone w) (sym (texts_last coding room limits left rest c.some last)) ∙ c.all

-- ---- numbers

-- what holds while parts are numbered: those before i are, and those from i on are as they were
pub record Numbering (before now : List Part) (i : ℕ) : Type 0 where
  pub within : i ≤ length before
  pub parts : now ≡ numbered (length before) 1 (map (λ (p : Part). p.body) (take i before)) ++ drop i before

pub numbering_none : (before : List Part) → Numbering before before 0
numbering_none before = record { within = omega arith; parts = refl }

pub numbering_all : (before now : List Part) → Numbering before now (length before) → now ≡ numbered (length before) 1 (map (λ (p : Part). p.body) before)
numbering_all before now n =
    let total : ℕ = length before in
    n.parts ∙ ap (λ (w : List Part). numbered total 1 (map (λ (p : Part). p.body) (take total before)) ++ w) (drop_all total before (omega arith)) ∙ append-nil (numbered total 1 (map (λ (p : Part). p.body) (take total before))) ∙ ap (λ (w : List Part). numbered total 1 (map (λ (p : Part). p.body) w)) (take_all total before (omega arith))

-- one more, written at its place
pub numbering_more : (before now : List Part) (i : ℕ) (old : Part) → Numbering before now i → i < length before → old ≡ get_or now i old → Numbering before (set now i (record { body = old.body; total = length before; part = i + 1 })) (i + 1)
numbering_more before now i old n lt is =
    let total : ℕ = length before in
    let body : Part → List ℕ = λ p. p.body in
    let done : List (List ℕ) = map body (take i before) in
    let front : List Part = numbered total 1 done in
    let done-len : length done ≡ i = length-map (take i before) body ∙ length-take-le i before (omega arith) in
    let front-len : length front ≡ i = length-numbered total 1 done ∙ done-len in
    let there : Part = get_or before i old in
    let opened : now ≡ front ++ there ∷ drop (i + 1) before = n.parts ∙ ap (λ (w : List Part). front ++ w) (drop_more before i old lt) in
    let same : old ≡ there = is ∙ ap (λ (w : List Part). get_or w i old) opened ∙ get_or_at front there (drop (i + 1) before) old i front-len in
    let new : Part = record { body = old.body; total = total; part = i + 1 } in
    let written : set now i new ≡ front ++ new ∷ drop (i + 1) before = ap (λ (w : List Part). set w i new) opened ∙ set_at front there (drop (i + 1) before) new i front-len in
    let bodies : map body (take (i + 1) before) ≡ done ++ there.body ∷ [] = map_more body before i old lt in
    let place : 1 + length done ≡ i + 1 = omega arith in
    let next : numbered total 1 (map body (take (i + 1) before)) ≡ front ++ new ∷ [] =
    ap (numbered total 1) bodies ∙ numbered-append total 1 done there.body ∙ ap (λ (k : ℕ). front ++ record { body = there.body; total = total; part = k } ∷ []) place ∙ ap (λ (p : Part). front ++ record { body = p.body; total = total; part = i + 1 } ∷ []) (sym same) in
    record {
      within = omega arith;
      parts = written ∙ sym (append_assoc front (new ∷ []) (drop (i + 1) before)) ∙ ap (λ (w : List Part). w ++ drop (i + 1) before) (sym next);
    }
