use Rattle.std.proofs.Common.{◌≡◌, ◌++◌, ◌∷◌, drop}
use Rattle.std.specs.List.{flat_map}
use Rattle.url_escapes.specs.Value.{joined}
use Rattle.url_escapes.proofs.words.write_joined.Given as goal

-- what is written and what is left are the whole
abbrev pub invariant-loop-word : goal.invariant-loop-word
invariant-loop-word l = l.out ++ flat_map (λ next. 32 ∷ next) (drop l.word-index l.word-items) ≡ l.fn.out ++ joined l.words
