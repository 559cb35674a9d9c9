-- Messages are put one after the other.
use Rattle.std.proofs.Common.{◌≡◌, ℕ, ◌+◌, ◌<◌, List, [], ◌∷◌, ◌++◌, length, take, map, get_or, ◌∙◌, sym, ap, append_assoc}
use Rattle.std.proofs.lemmas.List.{take_more, flat_map_more, map_more}
use Rattle.std.specs.List.{flat_map}

-- one more of a list whose images are put one after the other
pub one_more : {X Y : Type 0} (f : X → Y) (base before after : List Y) (xs : List X) (i : ℕ) (x : X) → i < length xs → x ≡ get_or xs i x
    → before ≡ base ++ map f (take i xs) → after ≡ before ++ f x ∷ [] → after ≡ base ++ map f (take (i + 1) xs)
one_more f base before after xs i x lt is e g =
    let more : map f (take (i + 1) xs) ≡ map f (take i xs) ++ f x ∷ [] = map_more f xs i x lt ∙ ap (λ y. map f (take i xs) ++ f y ∷ []) (sym is) in
    g ∙ ap (λ t. t ++ f x ∷ []) e ∙ append_assoc base (map f (take i xs)) (f x ∷ []) ∙ ap (λ t. base ++ t) (sym more)

-- several more, of a list whose lists are put one after the other
pub several_more : {X Y : Type 0} (f : X → List Y) (before after : List Y) (xs : List X) (i : ℕ) (x : X) → i < length xs → x ≡ get_or xs i x
    → before ≡ flat_map f (take i xs) → after ≡ before ++ f x → after ≡ flat_map f (take (i + 1) xs)
several_more f before after xs i x lt is e g =
    let more : take (i + 1) xs ≡ take i xs ++ x ∷ [] = take_more xs i x lt ∙ ap (λ y. take i xs ++ y ∷ []) (sym is) in
    rw more (g ∙ ap (λ t. t ++ f x) e ∙ flat_map_more f [] (take i xs) x)
