-- What stands after several things were put behind octets.
use Rattle.std.proofs.Common.{◌≡◌, ℕ, ◌+◌, ◌<◌, List, [], ◌∷◌, ◌++◌, length, take, get_or, ◌∙◌, sym, ap, append_assoc}
use Rattle.std.specs.List.{flat_map}
use Rattle.std.proofs.lemmas.List.{take_more, flat_map_more}

-- two things, one after the other
pub grown2 : (a b c x y : List ℕ) → b ≡ a ++ x → c ≡ b ++ y → c ≡ a ++ (x ++ y)
grown2 a b c x y p q = q ∙ ap (λ (t : List ℕ). t ++ y) p ∙ append_assoc a x y

-- three things, one after the other
pub grown3 : (a b c d x y z : List ℕ) → b ≡ a ++ x → c ≡ b ++ y → d ≡ c ++ z → d ≡ a ++ (x ++ (y ++ z))
grown3 a b c d x y z p q r = grown2 a b d x (y ++ z) p (grown2 b c d y z q r)

-- four things, one after the other
pub grown4 : (a b c d e x y z w : List ℕ) → b ≡ a ++ x → c ≡ b ++ y → d ≡ c ++ z → e ≡ d ++ w → e ≡ a ++ (x ++ (y ++ (z ++ w)))
grown4 a b c d e x y z w p q r s = grown2 a b e x (y ++ (z ++ w)) p (grown3 b c d e y z w q r s)

-- one item more of a list whose items are put one after the other
pub item_more : {X : Type 0} (f : X → List ℕ) (base before after : List ℕ) (xs : List X) (i : ℕ) (x : X) → i < length xs → x ≡ get_or xs i x → before ≡ base ++ flat_map f (take i xs) → after ≡ before ++ f x → after ≡ base ++ flat_map f (take (i + 1) xs)
item_more f base before after xs i x lt is e g =
    let more : take (i + 1) xs ≡ take i xs ++ x ∷ [] = take_more xs i x lt ∙ ap (λ y. take i xs ++ y ∷ []) (sym is) in
    rw more (g ∙ ap (λ (t : List ℕ). t ++ f x) e ∙ flat_map_more f base (take i xs) x)
