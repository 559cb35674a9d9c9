use Rattle.std.proofs.Common.{◌≡◌, ◌∙◌, sym, ap, subst, rules, length}
use Rattle.std.specs.Prelude.{filter, is_some}
use Rattle.std.proofs.lemmas.Fn.{filter_same}
use Rattle.numbered_table.specs.Rows.{Ascend, pairs_of}
use Rattle.numbered_table.proofs.Places.{Ascend-filter, pairs-filter, full-filter}
use Rattle.numbered_table.proofs.rows.take_empty_out.Goals as goal

pub returns-clause-ascend : goal.returns-clause-ascend
returns-clause-ascend g c ascend =
    subst Ascend (sym (filter_same _ (λ row. is_some row.value) _ (λ x b f' k. search rules) _ _ c.retain.ensures.filtered)) (Ascend-filter (λ row. is_some row.value) c.args.rows.now.items ascend)

pub returns-clause-pairs : goal.returns-clause-pairs
returns-clause-pairs g c =
    ap pairs_of (filter_same _ (λ row. is_some row.value) _ (λ x b f' k. search rules) _ _ c.retain.ensures.filtered) ∙ pairs-filter c.args.rows.now.items

pub returns-clause-full : goal.returns-clause-full
returns-clause-full g c =
    let kept : c.retain.new.self.items ≡ filter (λ row. is_some row.value) c.args.rows.now.items = filter_same _ (λ row. is_some row.value) _ (λ x b f' k. search rules) _ _ c.retain.ensures.filtered in
    ap (λ xs. length (pairs_of xs)) kept ∙ ap length (pairs-filter c.args.rows.now.items) ∙ full-filter c.args.rows.now.items ∙ ap length (sym kept)
