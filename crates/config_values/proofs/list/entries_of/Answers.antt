use Rattle.std.proofs.Common.{◌∙◌, ap, filter, rules, tests}
use Rattle.std.proofs.lemmas.Iterator.Consumers.{YieldsList-at, YieldsList-end}
use Rattle.std.proofs.lemmas.Iterator.Splits.{YieldsList-from_slice_split}
use Rattle.config_values.specs.Values.{is_filled, is_separator}
use Rattle.config_values.proofs.list.entries_of.Goals as goal

pub returns : goal.returns
returns c =
    c.loop-entry.invariant
    ∙ ap (filter is_filled) (YieldsList-end
    (YieldsList-at c.into_iter-entry-iterator.ensures.into_iter_gives
    (YieldsList-from_slice_split _ is_separator c.args.value.now c.split-entry-items.ensures.rest c.split-entry-items.ensures.done c.split-entry-items.ensures.closure (λ x r q k. search (rules, tests))))
    c.loop-entry.yielded c.loop-entry.entry-iterator c.loop-entry.yielded_by c.next.result c.next.new.self c.in-None.is c.next.ensures.steps).0
