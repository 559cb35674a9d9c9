-- Readings that were added to those before.
use Rattle.std.proofs.Common.{◌≡◌, ℕ, List, [], ◌++◌, Option, Some, None, IfSome, refl, ap, sym, ◌∙◌, append_assoc}
use Rattle.std.proofs.lemmas.List.{append-nil}
use Rattle.kn_base.specs.Clock.{AddsAll}

pub AddsAll-nil : (told : Option (List ℕ)) → AddsAll [] told told
AddsAll-nil None = tt
AddsAll-nil (Some xs) = (xs, refl, sym (append-nil xs))

-- some, and then more
pub AddsAll-append : (first more : List ℕ) (told between now : Option (List ℕ)) → AddsAll first told between → AddsAll more between now → AddsAll (first ++ more) told now
AddsAll-append first more told between None one two = tt
AddsAll-append first more told None (Some now) one two = absurd (let e : None ≡ Some two.0 = two.1 in cc)
AddsAll-append first more told (Some xs) (Some now) one two =
    let both : Some xs ≡ Some two.0 = two.1 in
    let same : two.0 ≡ xs = cc in
    (one.0, one.1, two.2 ∙ ap (λ (front : List ℕ). front ++ more) (same ∙ one.2) ∙ append_assoc one.0 first more)

-- a clock that wasn't read before was read so and no more
pub readings_first : (readings : List ℕ) (old new : Option (List ℕ)) → IfSome old (λ so_far. so_far ≡ []) → AddsAll readings old new → IfSome new (λ all. all ≡ readings)
readings_first readings old None none adds = tt
readings_first readings None (Some all) none adds = absurd (let e : None ≡ Some adds.0 = adds.1 in cc)
readings_first readings (Some so_far) (Some all) none adds =
    let same : so_far ≡ adds.0 = let e : Some so_far ≡ Some adds.0 = adds.1 in cc in
    adds.2 ∙ ap (λ (front : List ℕ). front ++ readings) (sym same ∙ none)
