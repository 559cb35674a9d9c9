-- What the calls of a peer in memory come to.
use Rattle.std.proofs.Common.{◌≡◌, true, ℕ, ◌+◌, ◌<◌, ◌≤◌, min, List, [], ◌∷◌, ◌++◌, length, get_or, take, drop, Some, refl, ap, sym, ◌∙◌, append_assoc, subst, arith, length-drop}
use Rattle.std.proofs.lemmas.List.{append-nil, take_all, take-append-drop, drop-drop, drop-append-le}
use Rattle.kn_base.specs.declared.piece.Piece.{Piece}
use Rattle.kn_base.specs.declared.piece.Piece.TheVariants.{Heard, Said}
use Rattle.kn_base.specs.declared.mem_take.MemTake.{MemTake}
use Rattle.kn_base.specs.declared.mem_take.MemTake.TheVariants.{Bytes, Quiet}
use Rattle.kn_base.specs.declared.source.Take.TheVariants as take_is
use Rattle.kn_base.specs.Count.{Counts}
use Rattle.kn_base.specs.Course.{Course, Hears, Takes, Says}
use Rattle.kn_base.specs.Talk.{said_of}
use Rattle.kn_base.specs.Script.{octets_of, with_octets, some_answers, AreOctetsNext}
use Rattle.kn_base.specs.MemPeer.{answers_left, IsReady}
use Rattle.kn_base.proofs.Talks.{said_of-append}

-- an answer with octets in front of others
octets_of-with_octets : (octets : List ℕ) (answers : List MemTake) → octets_of (with_octets octets answers) ≡ octets ++ octets_of answers
octets_of-with_octets [] answers = refl
octets_of-with_octets (octet ∷ octets) answers = refl

-- what is passed over has no octets
octets_of-some_answers : (answers : List MemTake) → octets_of (some_answers answers) ≡ octets_of answers
octets_of-some_answers [] = refl
octets_of-some_answers (Bytes octets ∷ answers) = octets_of-with_octets octets (some_answers answers) ∙ ap (λ xs. octets ++ xs) (octets_of-some_answers answers)
octets_of-some_answers (Quiet ∷ answers) = octets_of-some_answers answers

-- before the first take all octets are left
pub octets_of-answers_left-zero : (answers : List MemTake) → octets_of (answers_left 0 answers) ≡ octets_of answers
octets_of-answers_left-zero [] = refl
octets_of-answers_left-zero (Bytes octets ∷ answers) = octets_of-some_answers (Bytes octets ∷ answers)
octets_of-answers_left-zero (Quiet ∷ answers) = octets_of-some_answers answers

-- octets stand in front where there are some
with_octets-some : (octets : List ℕ) (answers : List MemTake) → 0 < length octets → with_octets octets answers ≡ Bytes octets ∷ answers
with_octets-some [] answers some = absurd (omega arith)
with_octets-some (octet ∷ octets) answers some = refl

-- the answers left where the first has octets left
answers_left-some : (at : ℕ) (octets : List ℕ) (rest : List MemTake) → at < length octets
    → answers_left at (Bytes octets ∷ rest) ≡ Bytes (drop at octets) ∷ some_answers rest
answers_left-some at octets rest some = with_octets-some (drop at octets) (some_answers rest) (omega (arith, length-drop at octets))

-- where nothing is left and the first answer isn't used up, there is none
pub left_none : (at : ℕ) (answers : List MemTake) → IsReady at answers → answers_left at answers ≡ [] → answers ≡ []
left_none at [] ready nothing = refl
left_none at (Bytes octets ∷ rest) ready nothing = let some = answers_left-some at octets rest ready in cc
left_none at (Quiet ∷ rest) ready nothing = cc

-- the answers, where the first has these octets
pub front_rest : (answers : List MemTake) (first : MemTake) (octets : List ℕ) → 0 < length answers → first ≡ get_or answers 0 first → first ≡ Bytes octets
    → answers ≡ Bytes octets ∷ drop 1 answers
front_rest [] first octets some stands is = absurd (omega arith)
front_rest (answer ∷ rest) first octets some stands is = ap (λ x. x ∷ rest) (sym stands ∙ is)

-- the first answer isn't used up, where it has octets behind the place
pub ready_at : (at : ℕ) (octets : List ℕ) (answers rest : List MemTake) → answers ≡ Bytes octets ∷ rest → at < length octets → IsReady at answers
ready_at at octets answers rest front some = let P : List MemTake → Type 0 = λ xs. IsReady at xs in subst P (sym front) some

-- what is left before and after octets of the first answer were taken
pub next_octets : (at n : ℕ) (answers : List MemTake) (first : MemTake) (octets : List ℕ) → 0 < length answers → first ≡ get_or answers 0 first
    → first ≡ Bytes octets → IsReady at answers
    → (at < length octets) × (answers_left at answers ≡ Bytes (drop at octets) ∷ some_answers (drop 1 answers))
    × (answers_left (at + n) answers ≡ with_octets (drop n (drop at octets)) (some_answers (drop 1 answers)))
next_octets at n answers first octets some stands is ready =
    let rest = drop 1 answers in
    let front = front_rest answers first octets some stands is in
    let within : at < length octets = let P : List MemTake → Type 0 = λ xs. IsReady at xs in subst P front ready in (
      within,
      ap (answers_left at) front ∙ answers_left-some at octets rest within,
      ap (answers_left (at + n)) front ∙ ap (λ xs. with_octets xs (some_answers rest)) (sym (drop-drop n at octets)),
    )

-- octets are next
pub octets_next : (octets : List ℕ) (left rest : List MemTake) → left ≡ Bytes octets ∷ rest → AreOctetsNext left
octets_next octets left rest is = let P : List MemTake → Type 0 = λ xs. AreOctetsNext xs in subst P (sym is) tt

-- a peer in memory with these counts, these answers left and these pieces
abbrev pub course_of : Counts → List MemTake → List Piece → Course
course_of counts answers pieces = record { counts = counts; left = Some (octets_of answers); given = Some (said_of pieces); talk = Some pieces }

-- what was heard says nothing
said_of-heard : (pieces : List Piece) (octets : List ℕ) → said_of (pieces ++ Heard octets ∷ []) ≡ said_of pieces
said_of-heard pieces octets = said_of-append pieces (Heard octets ∷ []) ∙ append-nil (said_of pieces)

-- a take that gave octets of the first answer
hears_now : (counts : Counts) (n : ℕ) (octets : List ℕ) (left later rest : List MemTake) (pieces more : List Piece) (into : List ℕ)
    → left ≡ Bytes octets ∷ rest → later ≡ with_octets (drop n octets) rest → 0 < length octets → 0 < length into
    → n ≡ min (length into) (length octets) → take n into ≡ take n octets → more ≡ pieces ++ Heard (take n octets) ∷ []
    → Hears into n (course_of counts left pieces) (course_of counts later more)
hears_now counts n octets left later rest pieces more into left_is later_is some room count front grown =
    let before : octets_of left ≡ octets ++ octets_of rest = ap octets_of left_is in
    let after : octets_of later ≡ drop n octets ++ octets_of rest = ap octets_of later_is ∙ octets_of-with_octets (drop n octets) rest in
    let dropped : octets_of later ≡ drop n (octets_of left) = after ∙ sym (ap (drop n) before ∙ drop-append-le n octets (octets_of rest) (omega arith)) in
    let heard : more ≡ pieces ++ Heard (take n into) ∷ [] = grown ∙ ap (λ xs. pieces ++ Heard xs ∷ []) (sym front) in
    let silent : said_of (pieces ++ Heard (take n into) ∷ []) ≡ said_of pieces = said_of-heard pieces (take n into) in
    record {
      some = omega arith;
      within = omega arith;
      next = (
        octets_of later,
        before ∙ ap (λ xs. xs ++ octets_of rest) (sym (take-append-drop n octets)) ∙ append_assoc (take n octets) (drop n octets) (octets_of rest)
            ∙ ap (λ xs. take n octets ++ xs) (sym after) ∙ ap (λ xs. xs ++ octets_of later) (sym front),
      );
      after = cc;
    }

-- the same of a course that is known by what it comes to, of a peer that hasn't ended where answers are left
pub takes_now : (counts : Counts) (n : ℕ) (octets : List ℕ) (left later rest : List MemTake) (pieces more : List Piece) (into : List ℕ) (old : Course)
    → course_of counts left pieces ≡ old → (counts.ended ≡ true → left ≡ []) → left ≡ Bytes octets ∷ rest → later ≡ with_octets (drop n octets) rest
    → 0 < length octets → 0 < length into → n ≡ min (length into) (length octets) → take n into ≡ take n octets → more ≡ pieces ++ Heard (take n octets) ∷ []
    → Takes into (take_is.Bytes n) old (course_of counts later more)
takes_now counts n octets left later rest pieces more into old was over left_is later_is some room count front grown =
    let P : Course → Type 0 = λ before. Hears into n before (course_of counts later more) in
    record {
      so = subst P was (hears_now counts n octets left later rest pieces more into left_is later_is some room count front grown);
      for_ever = λ ended. let none : left ≡ [] = over (ap (λ (c : Course). c.counts.ended) was ∙ ended) in cc;
    }

-- a give that took all
pub said_now : (counts : Counts) (answers : List MemTake) (pieces more : List Piece) (octets : List ℕ)
    → 1 ≤ length octets → more ≡ pieces ++ Said octets ∷ []
    → Says octets (length octets) (course_of counts answers pieces) (course_of counts answers more)
said_now counts answers pieces more octets some grown =
    let whole : take (length octets) octets ≡ octets = take_all (length octets) octets (omega arith) in
    let said : said_of (pieces ++ Said octets ∷ []) ≡ said_of pieces ++ octets =
    said_of-append pieces (Said octets ∷ []) ∙ ap (λ x. said_of pieces ++ x) (append-nil octets) in
    record { some = some; within = omega arith; after = rw whole (cc) }
