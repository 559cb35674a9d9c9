-- Giving one text behind another.
use Rattle.std.proofs.Common.{◌≡◌, ℕ, ◌+◌, ◌≤◌, List, [], ◌∷◌, ◌++◌, length, take, ap, sym, ◌∙◌, append_assoc, length-append, arith, subst}
use Rattle.std.specs.Prelude.{Result, Ok, Err}
use Rattle.std.proofs.lemmas.List.{take-append-le}
use Rattle.std.proofs.Math.Seq.{take-append-add}
use Rattle.kn_base.specs.Course.{Course, with_more}
use Rattle.kn_base.specs.Talk.{said_of, heard_of, SaysAll, SaysFront}
use Rattle.kn_base.specs.declared.piece.Piece.{Piece}
use Rattle.kn_base.proofs.Talks.{said_of-append, heard_of-append, with_more-with_more}
use Rattle.boxes_main.specs.Giving.{GivesText}
use Rattle.boxes_main.specs.declared.giving.Cut.{Cut}

-- the same course reached in two steps, with the pieces of both
two_steps : (a : Course) (g₁ g₂ : List ℕ) (t₁ t₂ : List Piece)
    → record a { given = with_more (with_more a.given g₁) g₂; talk = with_more (with_more a.talk t₁) t₂ }
    ≡ record a { given = with_more a.given (g₁ ++ g₂); talk = with_more a.talk (t₁ ++ t₂) }
two_steps a g₁ g₂ t₁ t₂ =
    ap (λ g. record a { given = g; talk = with_more (with_more a.talk t₁) t₂ }) (with_more-with_more a.given g₁ g₂)
    ∙ ap (λ t. record a { given = with_more a.given (g₁ ++ g₂); talk = t }) (with_more-with_more a.talk t₁ t₂)

-- all of one text, and then all of another
pub SaysAll-append : (xs ys : List ℕ) (a b c : Course) → SaysAll xs a b → SaysAll ys b c → SaysAll (xs ++ ys) a c
SaysAll-append xs ys a b c s t = record {
  pieces = s.pieces ++ t.pieces;
  said = said_of-append s.pieces t.pieces ∙ ap (λ x. x ++ said_of t.pieces) s.said ∙ ap (λ y. xs ++ y) t.said;
  nothing_heard = heard_of-append s.pieces t.pieces ∙ ap (λ x. x ++ heard_of t.pieces) s.nothing_heard ∙ t.nothing_heard;
  after = t.after
      ∙ ap (λ (d : Course). record d { given = with_more d.given ys; talk = with_more d.talk t.pieces }) s.after
      ∙ two_steps a xs ys s.pieces t.pieces;
}

-- all of one text, and then a front of another
pub SaysFront-behind : (xs ys : List ℕ) (gone : ℕ) (a b c : Course) → SaysAll xs a b → SaysFront ys gone b c → SaysFront (xs ++ ys) (length xs + gone) a c
SaysFront-behind xs ys gone a b c s t = record {
  less = omega (arith, t.less, length-append xs ys);
  between = t.between;
  front = subst (λ x. SaysAll x a t.between) (sym (take-append-add xs ys gone)) (SaysAll-append xs (take gone ys) a b t.between s t.front);
  fails = t.fails;
}

-- a front of a text is a front of a longer one
pub SaysFront-longer : (xs ys : List ℕ) (gone : ℕ) (a c : Course) → SaysFront xs gone a c → SaysFront (xs ++ ys) gone a c
SaysFront-longer xs ys gone a c s = record {
  less = omega (arith, s.less, length-append xs ys);
  between = s.between;
  front =
      let less = s.less in
      let within : gone ≤ length xs = omega arith in
      subst (λ x. SaysAll x a s.between) (sym (take-append-le gone xs ys within)) s.front;
  fails = s.fails;
}

-- one text, and then what came of another
pub GivesText-behind : {A : Type 0} (xs ys : List ℕ) (outcome : Result A Cut) (a b c : Course) → SaysAll xs a b → GivesText ys outcome b c → GivesText (xs ++ ys) outcome a c
GivesText-behind xs ys (Ok all) a b c s g = SaysAll-append xs ys a b c s g
GivesText-behind xs ys (Err cut) a b c s g = (length xs + g.0, SaysFront-behind xs ys g.0 a b c s g.1)

-- a text in four parts, by two and two
abbrev rest_of : (between last : List ℕ) → List ℕ
rest_of between last = (between ++ last) ++ 10 ∷ []

two_and_two : (front first between last : List ℕ) → (front ++ first) ++ rest_of between last ≡ front ++ first ++ between ++ last ++ 10 ∷ []
two_and_two front first between last = simp append_assoc

-- a cut in the first of two texts is one in both
pub GivesText-longer : (xs ys : List ℕ) (a c : Course) → (gone : ℕ) × SaysFront xs gone a c → (gone : ℕ) × SaysFront (xs ++ ys) gone a c
GivesText-longer xs ys a c s = (s.0, SaysFront-longer xs ys s.0 a c s.1)

module _ (front first between last : List ℕ) (a b c d : Course) where
  -- a cut in the first two of four parts
  pub parts-cut : (gone : ℕ) × SaysFront (front ++ first) gone a b → (gone : ℕ) × SaysFront (front ++ first ++ between ++ last ++ 10 ∷ []) gone a b
  parts-cut s = subst (λ x. (gone : ℕ) × SaysFront x gone a b) (two_and_two front first between last) (GivesText-longer (front ++ first) (rest_of between last) a b s)

  -- a cut in the other two
  pub parts-cut_later : (cut : Cut) → SaysAll (front ++ first) a b → (gone : ℕ) × SaysFront (between ++ last) gone b c
      → (gone : ℕ) × SaysFront (front ++ first ++ between ++ last ++ 10 ∷ []) gone a c
  parts-cut_later cut s t =
      subst (λ x. (gone : ℕ) × SaysFront x gone a c) (two_and_two front first between last)
      (GivesText-behind {A = Unit {0}} (front ++ first) (rest_of between last) (Err cut) a b c s (GivesText-longer (between ++ last) (10 ∷ []) b c t))

  -- all four parts, and what came of LF
  pub parts-end : {A : Type 0} (outcome : Result A Cut) → SaysAll (front ++ first) a b → SaysAll (between ++ last) b c → GivesText (10 ∷ []) outcome c d
      → GivesText (front ++ first ++ between ++ last ++ 10 ∷ []) outcome a d
  parts-end outcome s t g =
      subst (λ x. GivesText x outcome a d) (two_and_two front first between last)
      (GivesText-behind (front ++ first) (rest_of between last) outcome a b d s (GivesText-behind (between ++ last) (10 ∷ []) outcome b c d t g))
