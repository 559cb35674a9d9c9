-- Whether a field of a head passes a test, as a loop over the fields finds it.
use Rattle.std.proofs.Common.{◌≡◌, ℕ, ◌+◌, ◌<◌, ◌≤◌, Bool, true, false, ◌||◌, List, length, map, take, get_or, ap, sym, ◌∙◌, take_all}
use Rattle.std.specs.List.{list_any}
use Rattle.std.proofs.lemmas.List.{take-map, get_or-map, length-map}
use Rattle.std.proofs.lemmas.List.Folds.{list_any_at, list_any_more}
use Rattle.http_text.specs.Head.{NamedValue}

-- the same name and the same value
pub same_field : (name value : List ℕ) {x y : List ℕ} → name ≡ x → value ≡ y → ◌≡◌ {A = NamedValue} (name, value) (x, y)
same_field name value e f = λ i. (e i, f i)

-- one that passes settles the answer
pub list_any-found : {X Y : Type 0} (test : Y → Bool) (view : X → Y) (xs : List X) (i : ℕ) (d : X) → i < length xs
    → test (view (get_or xs i d)) ≡ true → list_any test (map view xs) ≡ true
list_any-found test view xs i d h passes =
    let within : i < length (map view xs) = rw length-map h in
    list_any_at test (map view xs) i (view d) within (ap test (get_or-map view xs i d (view d) h) ∙ passes)

-- one more that fails
pub list_any-passed : {X Y : Type 0} (test : Y → Bool) (view : X → Y) (xs : List X) (i : ℕ) (d : X) → i < length xs
    → list_any test (map view (take i xs)) ≡ false → test (view (get_or xs i d)) ≡ false
    → list_any test (map view (take (i + 1) xs)) ≡ false
list_any-passed test view xs i d h before fails =
    let within : i < length (map view xs) = rw length-map h in
    ap (list_any test) (sym (take-map view (i + 1) xs))
    ∙ list_any_more test (map view xs) i (view d) within
    ∙ ap (λ b. b || test (get_or (map view xs) i (view d))) (ap (list_any test) (take-map view i xs) ∙ before)
    ∙ ap test (get_or-map view xs i d (view d) h)
    ∙ fails

-- none passed, once all were looked at
pub list_any-whole : {X Y : Type 0} (test : Y → Bool) (view : X → Y) (xs : List X) (i : ℕ) → length xs ≤ i
    → list_any test (map view (take i xs)) ≡ false → list_any test (map view xs) ≡ false
list_any-whole test view xs i h before = ap (λ ys. list_any test (map view ys)) (sym (take_all i xs h)) ∙ before
