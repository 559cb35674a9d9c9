use Rattle.std.proofs.Common.{◌∙◌, ap, map, filter, rules, tests}
use Rattle.std.proofs.lemmas.Iterator.Consumers.{YieldsList-at, YieldsList-end}
use Rattle.std.proofs.lemmas.Iterator.Splits.{YieldsList-from_slice_split}
use Rattle.config_values.specs.Values.{is_filled}
use Rattle.sendsms_form.specs.Variables.{is_space, address_of}
use Rattle.sendsms_form.proofs.addresses.numbers_of.Goals as goal

pub returns : goal.returns
returns c =
    c.loop-word.invariant
    ∙ ap (λ words. map address_of (filter is_filled words)) (YieldsList-end
    (YieldsList-at c.into_iter-word-iterator.ensures.into_iter_gives
    (YieldsList-from_slice_split _ is_space c.args.value.now c.split-word-items.ensures.rest c.split-word-items.ensures.done c.split-word-items.ensures.closure (λ x r q k. search (rules, tests))))
    c.loop-word.yielded c.loop-word.word-iterator c.loop-word.yielded_by c.next.result c.next.new.self c.in-None.is c.next.ensures.steps).0
