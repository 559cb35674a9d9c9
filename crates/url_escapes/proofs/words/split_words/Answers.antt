use Rattle.std.proofs.Common.{◌∙◌, ap, filter, rules, tests}
use Rattle.std.proofs.lemmas.Iterator.Consumers.{YieldsList-at, YieldsList-end}
use Rattle.std.proofs.lemmas.Iterator.Splits.{YieldsList-from_slice_split}
use Rattle.url_escapes.specs.Words.{is_filled, is_blank}
use Rattle.url_escapes.proofs.words.split_words.Goals as goal

pub returns : goal.returns
returns c =
    c.loop-piece.invariant
    ∙ ap (filter is_filled) (YieldsList-end
    (YieldsList-at c.into_iter-piece-iterator.ensures.into_iter_gives
    (YieldsList-from_slice_split _ is_blank c.args.text.now c.split-piece-items.ensures.rest c.split-piece-items.ensures.done c.split-piece-items.ensures.closure (λ x r q k. search (rules, tests))))
    c.loop-piece.yielded c.loop-piece.piece-iterator c.loop-piece.yielded_by c.next.result c.next.new.self c.in-None.is c.next.ensures.steps).0
