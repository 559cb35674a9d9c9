-- What giving octets in several gives comes to.
use Rattle.std.proofs.Common.{◌≡◌, ℕ, ◌+◌, List, [], ◌∷◌, ◌++◌, take, drop, Option, Some, None, refl, ap, sym, ◌∙◌, append_assoc}
use Rattle.std.proofs.lemmas.List.{append-nil}
use Rattle.std.proofs.Math.Seq.{take-add}
use Rattle.kn_base.specs.declared.piece.Piece.{Piece}
use Rattle.kn_base.specs.declared.piece.Piece.TheVariants.{Heard, Said}
use Rattle.kn_base.specs.Course.{Course, with_more, Says}
use Rattle.kn_base.specs.Talk.{said_of, heard_of, SaysAll}

-- what was said in two talks is what was said in the one and then in the other
pub said_of-append : (xs ys : List Piece) → said_of (xs ++ ys) ≡ said_of xs ++ said_of ys
said_of-append [] ys = refl
said_of-append (Said octets ∷ xs) ys = ap (λ s. octets ++ s) (said_of-append xs ys) ∙ sym (append_assoc octets (said_of xs) (said_of ys))
said_of-append (Heard octets ∷ xs) ys = said_of-append xs ys

-- what was heard in two talks is what was heard in the one and then in the other
pub heard_of-append : (xs ys : List Piece) → heard_of (xs ++ ys) ≡ heard_of xs ++ heard_of ys
heard_of-append [] ys = refl
heard_of-append (Said octets ∷ xs) ys = heard_of-append xs ys
heard_of-append (Heard octets ∷ xs) ys = ap (λ s. octets ++ s) (heard_of-append xs ys) ∙ sym (append_assoc octets (heard_of xs) (heard_of ys))

-- nothing more behind a list leaves it
pub with_more-nil : {A : Type 0} → (told : Option (List A)) → with_more told [] ≡ told
with_more-nil None = refl
with_more-nil (Some xs) = ap (λ ys. Some ys) (append-nil xs)

-- one list behind another, and a third behind both
pub with_more-with_more : {A : Type 0} → (told : Option (List A)) (xs ys : List A) → with_more (with_more told xs) ys ≡ with_more told (xs ++ ys)
with_more-with_more None xs ys = refl
with_more-with_more (Some front) xs ys = ap (λ zs. Some zs) (append_assoc front xs ys)

-- giving no octets
pub SaysAll-nil : (c : Course) → SaysAll [] c c
SaysAll-nil c = record {
  pieces = [];
  said = refl;
  nothing_heard = refl;
  after = ap (λ g. record c { given = g }) (sym (with_more-nil c.given))
      ∙ ap (λ t. record c { given = with_more c.given []; talk = t }) (sym (with_more-nil c.talk));
}

-- the same course reached in two steps, with the pieces of both
two_steps : (a : Course) (g₁ g₂ : List ℕ) (t₁ t₂ : List Piece)
    → record a { given = with_more (with_more a.given g₁) g₂; talk = with_more (with_more a.talk t₁) t₂ }
    ≡ record a { given = with_more a.given (g₁ ++ g₂); talk = with_more a.talk (t₁ ++ t₂) }
two_steps a g₁ g₂ t₁ t₂ =
    ap (λ g. record a { given = g; talk = with_more (with_more a.talk t₁) t₂ }) (with_more-with_more a.given g₁ g₂)
    ∙ ap (λ t. record a { given = with_more a.given (g₁ ++ g₂); talk = t }) (with_more-with_more a.talk t₁ t₂)

-- one give more
pub SaysAll-more : (octets : List ℕ) (gone n : ℕ) (a b c : Course) → SaysAll (take gone octets) a b
    → Says (drop gone octets) n b c → SaysAll (take (gone + n) octets) a c
SaysAll-more octets gone n a b c s g = record {
  pieces = s.pieces ++ Said (take n (drop gone octets)) ∷ [];
  said = said_of-append s.pieces (Said (take n (drop gone octets)) ∷ [])
      ∙ ap (λ front. front ++ (take n (drop gone octets) ++ [])) s.said
      ∙ ap (λ back. take gone octets ++ back) (append-nil (take n (drop gone octets)))
      ∙ sym (take-add gone n octets);
  nothing_heard = heard_of-append s.pieces (Said (take n (drop gone octets)) ∷ []) ∙ ap (λ front. front ++ []) s.nothing_heard;
  after = g.after
      ∙ ap (λ (d : Course). record d { given = with_more d.given (take n (drop gone octets)); talk = with_more d.talk (Said (take n (drop gone octets)) ∷ []) }) s.after
      ∙ two_steps a (take gone octets) (take n (drop gone octets)) s.pieces (Said (take n (drop gone octets)) ∷ [])
      ∙ ap (λ front. record a { given = with_more a.given front; talk = with_more a.talk (s.pieces ++ Said (take n (drop gone octets)) ∷ []) }) (sym (take-add gone n octets));
}
