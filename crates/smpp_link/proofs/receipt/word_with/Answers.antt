use Rattle.std.proofs.Common.{rules, tests}
use Rattle.std.specs.Prelude.{◌==◌}
use Rattle.std.specs.List.{starts_with}
use Rattle.std.proofs.lemmas.Iterator.Search.{find_from_yields_List}
use Rattle.std.proofs.lemmas.Iterator.Splits.{YieldsList-from_slice_split}
use Rattle.smpp_link.specs.Receipts.{is_blank}
use Rattle.smpp_link.proofs.receipt.word_with.Goals as goal

pub returns : goal.returns
returns c =
    find_from_yields_List (λ word. starts_with ◌==◌ word c.args.name.now) _ _ _ c.find.ensures.ran
    (YieldsList-from_slice_split _ is_blank c.args.text.now c.split.ensures.rest c.split.ensures.done c.split.ensures.closure (λ x r q k. search (rules, tests)))
    (λ x b q k. search (rules, tests))
