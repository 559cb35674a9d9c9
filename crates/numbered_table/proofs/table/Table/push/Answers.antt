use Rattle.std.proofs.Common.{◌∙◌, sym, subst}
use Rattle.numbered_table.specs.Pairs.{AllBelow}
use Rattle.numbered_table.proofs.Places.{push_fits, push_pairs, push_kept}
use Rattle.numbered_table.proofs.table.Table.push.Goals as goal

pub overflow_sub-self-2 : goal.overflow_sub-self-2
overflow_sub-self-2 g c =
    push_fits c.as_slice.result.now c.self.inside.rows.items c.live_end-end.result c.len.result c.as_slice.ensures.value (c.len.ensures ∙ sym c.as_slice.ensures.len) c.live_end-end.ensures.within
    c.live_end-end.ensures.empty c.self.inside.first_live c.self.inside.empties c.self.invariant.places

pub invariant_of-self : goal.invariant_of-self
invariant_of-self g c =
    push_kept c.as_slice.result.now c.self.inside.rows.items c.live_end-end.result c.len.result c.as_slice.ensures.value (c.len.ensures ∙ sym c.as_slice.ensures.len) c.live_end-end.ensures.within
    c.live_end-end.ensures.empty c.args.number c.args.value c.truncate.new.self.items c.push_reserved.new.self.items c.truncate.ensures.items c.push_reserved.ensures.items
    c.self.inside.first_live c.self.inside.empties c.min-self-inside.result c.min-self-inside.ensures c.live_end-end.ensures.live
    (subst (λ table. AllBelow c.args.number table.pairs) (sym c.self.view_is) c.requires.above) c.self.invariant

pub returns-clause-pairs : goal.returns-clause-pairs
returns-clause-pairs g c =
    rw (← c.self.view_is)
    (push_pairs c.as_slice.result.now c.self.inside.rows.items c.live_end-end.result c.len.result c.as_slice.ensures.value (c.len.ensures ∙ sym c.as_slice.ensures.len) c.live_end-end.ensures.within
    c.live_end-end.ensures.empty c.args.number c.args.value c.truncate.new.self.items c.push_reserved.new.self.items c.truncate.ensures.items c.push_reserved.ensures.items)
