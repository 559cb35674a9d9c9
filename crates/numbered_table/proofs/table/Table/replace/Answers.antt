use Rattle.std.proofs.Common.{◌∙◌, sym, ap, Some}
use Rattle.numbered_table.proofs.Places.{found, found_changed, found_unchanged, found_kept_changed, absent_value, absent_with_value}
use Rattle.numbered_table.proofs.table.Table.replace.Goals as goal

-- no place has the number

pub returns-in_err-place-clause-was : goal.returns-in_err-place-clause-was
returns-in_err-place-clause-was g c =
    rw (← c.self.view_is) (c.from_residual.ensures ∙ sym (absent_value c.args.number _ c.self.inside.rows.items c.as_slice.ensures.value c.in_err-place.ensures.none))

pub returns-in_err-place-clause-pairs : goal.returns-in_err-place-clause-pairs
returns-in_err-place-clause-pairs g c =
    rw (← c.self.view_is) (sym (absent_with_value c.args.number _ c.self.inside.rows.items c.as_slice.ensures.value c.in_err-place.ensures.none c.args.value))

-- the place of the number is empty

pub returns-in_err-was-clause-was : goal.returns-in_err-was-clause-was
returns-in_err-was-clause-was g c =
    rw (← c.self.view_is)
    (c.from_residual-in_err-was.ensures ∙ c.in_err-was.ensures.value
    ∙ sym (found c.args.number c.in_ok-place.place _ c.self.inside.rows.items c.index_mut.result.now c.as_slice.ensures.value c.self.invariant.places.ascend c.in_ok-place.ensures.within
    c.in_ok-place.ensures.some c.index_mut.ensures.value))

pub returns-in_err-was-clause-pairs : goal.returns-in_err-was-clause-pairs
returns-in_err-was-clause-pairs g c =
    rw (← c.self.view_is)
    (found_unchanged c.args.number c.in_ok-place.place _ c.self.inside.rows.items c.index_mut.result.now c.as_slice.ensures.value c.self.invariant.places.ascend c.in_ok-place.ensures.within
    c.in_ok-place.ensures.some c.index_mut.ensures.value c.args.value c.in_err-was.ensures.value)

-- a value stands there

pub invariant_of-self-2 : goal.invariant_of-self-2
invariant_of-self-2 g c =
    found_kept_changed c.args.number c.in_ok-place.place _ c.self.inside.rows.items c.index_mut.result.now c.as_slice.ensures.value c.self.invariant.places.ascend c.in_ok-place.ensures.within
    c.in_ok-place.ensures.some c.index_mut.ensures.value c.self.inside.first_live c.self.inside.empties c.in_ok-was.was'.now c.replace.new.dest c.in_ok-was.ensures.value c.self.invariant

pub returns-clause-was : goal.returns-clause-was
returns-clause-was g c =
    rw (← c.self.view_is)
    (ap Some c.replace.ensures.value ∙ c.in_ok-was.ensures.value
    ∙ sym (found c.args.number c.in_ok-place.place _ c.self.inside.rows.items c.index_mut.result.now c.as_slice.ensures.value c.self.invariant.places.ascend c.in_ok-place.ensures.within
    c.in_ok-place.ensures.some c.index_mut.ensures.value))

pub returns-clause-pairs : goal.returns-clause-pairs
returns-clause-pairs g c =
    rw (← c.self.view_is)
    (found_changed c.args.number c.in_ok-place.place _ c.self.inside.rows.items c.index_mut.result.now c.as_slice.ensures.value c.self.invariant.places.ascend c.in_ok-place.ensures.within
    c.in_ok-place.ensures.some c.index_mut.ensures.value c.in_ok-was.was'.now c.args.value c.replace.new.dest c.in_ok-was.ensures.value c.replace.ensures.after)
