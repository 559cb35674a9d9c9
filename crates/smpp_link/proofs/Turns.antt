-- The sequence numbers of what is said unasked go round once through all.
use Rattle.std.proofs.Common.{◌≡◌, ℕ, zero, suc, ◌+◌, ◌%◌, ◌<◌, ◌≤◌, ◌^◌, Some, refl, ap, ◌∙◌, arith, inl, inr}
use Rattle.std.proofs.lemmas.Bool.{cases_lt}
use Rattle.std.proofs.lemmas.Bool.Decides.{nat_tests}
use Rattle.link_core.specs.Tags.{nth_tag, AreTags}
use Rattle.smpp_link.specs.Tags.{last_tag, next_tag}

next_below : (tag : ℕ) → tag < 2147483647 → next_tag (Some tag) ≡ tag + 1
unfolding next_tag
next_below tag below = grind (arith, nat_tests, below)

next_last : (tag : ℕ) → 2147483647 ≤ tag → next_tag (Some tag) ≡ 1
unfolding next_tag
next_last tag last = grind (arith, nat_tests, last)

nth_is : (n : ℕ) → nth_tag next_tag n ≡ n % 2147483647 + 1
unfolding nth_tag next_tag
nth_is zero = refl
nth_is (suc n) =
    let before = nth_is n in
    ap (λ (t : ℕ). next_tag (Some t)) before ∙ elim (cases_lt (n % 2147483647 + 1) 2147483647) [
      | inl below ↦ next_below (n % 2147483647 + 1) below ∙ omega arith
      | inr last ↦ next_last (n % 2147483647 + 1) last ∙ omega arith
    ]

pub tags_turn : AreTags next_tag last_tag (λ tag. tag < 2 ^ 32)
tags_turn = record {
  held = λ n. let e = nth_is n in omega (arith, e);
  apart = λ n m before within same. let a = nth_is n in let b = nth_is m in omega (arith, a, b, before, within, same);
  around = λ n. let a = nth_is n in let b = nth_is (n + 2147483647) in omega (arith, a, b);
}
