use Rattle.std.proofs.Common.{◌∙◌, sym}
use Rattle.numbered_table.proofs.Places.{found, found_taken, found_kept_taken, absent_value, absent_without}
use Rattle.numbered_table.proofs.table.Table.end.Goals as goal

-- no place has the number

pub returns-in_err-place-clause-was : goal.returns-in_err-place-clause-was
returns-in_err-place-clause-was g c =
    rw (← c.self.view_is) (c.from_residual.ensures ∙ sym (absent_value c.args.number _ c.self.inside.rows.items c.as_slice.ensures.value c.in_err-place.ensures.none))

pub returns-in_err-place-clause-pairs : goal.returns-in_err-place-clause-pairs
returns-in_err-place-clause-pairs g c =
    rw (← c.self.view_is) (sym (absent_without c.args.number _ c.self.inside.rows.items c.as_slice.ensures.value c.in_err-place.ensures.none))

-- the place of the number is empty

pub returns-in_err-value-clause-was : goal.returns-in_err-value-clause-was
returns-in_err-value-clause-was g c =
    rw (← c.self.view_is)
    (c.from_residual-in_err-value.ensures ∙ c.in_err-value.ensures.value
    ∙ sym (found c.args.number c.in_ok-place.place _ c.self.inside.rows.items c.index_mut.result.now c.as_slice.ensures.value c.self.invariant.places.ascend c.in_ok-place.ensures.within
    c.in_ok-place.ensures.some c.index_mut.ensures.value))

pub returns-in_err-value-clause-pairs : goal.returns-in_err-value-clause-pairs
returns-in_err-value-clause-pairs g c =
    rw (← c.self.view_is)
    (found_taken c.args.number c.in_ok-place.place _ c.self.inside.rows.items c.index_mut.result.now c.as_slice.ensures.value c.self.invariant.places.ascend c.in_ok-place.ensures.within
    c.in_ok-place.ensures.some c.index_mut.ensures.value c.take.new.self c.take.ensures.after)

-- a value stands there

pub settle-first_live-requires : goal.settle-first_live-requires
settle-first_live-requires g c =
    found_kept_taken c.args.number c.in_ok-place.place _ c.self.inside.rows.items c.index_mut.result.now c.as_slice.ensures.value c.self.invariant.places.ascend c.in_ok-place.ensures.within
    c.in_ok-place.ensures.some c.index_mut.ensures.value c.take.new.self c.take.ensures.after c.self.inside.first_live c.self.inside.empties c.in_ok-value.value c.in_ok-value.ensures.value
    c.self.invariant.places

pub returns-clause-was : goal.returns-clause-was
returns-clause-was g c =
    rw (← c.self.view_is)
    (c.in_ok-value.ensures.value
    ∙ sym (found c.args.number c.in_ok-place.place _ c.self.inside.rows.items c.index_mut.result.now c.as_slice.ensures.value c.self.invariant.places.ascend c.in_ok-place.ensures.within
    c.in_ok-place.ensures.some c.index_mut.ensures.value))

pub returns-clause-pairs : goal.returns-clause-pairs
returns-clause-pairs g c =
    rw (← c.self.view_is)
    (c.settle-first_live.ensures.pairs
    ∙ found_taken c.args.number c.in_ok-place.place _ c.self.inside.rows.items c.index_mut.result.now c.as_slice.ensures.value c.self.invariant.places.ascend c.in_ok-place.ensures.within
    c.in_ok-place.ensures.some c.index_mut.ensures.value c.take.new.self c.take.ensures.after)
