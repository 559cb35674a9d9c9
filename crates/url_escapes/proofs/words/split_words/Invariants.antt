use Rattle.std.proofs.Common.{◌≡◌, map, filter}
use Rattle.url_escapes.specs.Words.{is_filled}
use Rattle.url_escapes.proofs.words.split_words.Given as goal

-- the words so far
abbrev pub invariant-loop-piece : goal.invariant-loop-piece
invariant-loop-piece l = l.found ≡ filter is_filled (map (λ x. x.now) l.yielded)
