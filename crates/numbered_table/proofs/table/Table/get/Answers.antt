use Rattle.std.proofs.Common.{◌∙◌, sym, ap}
use Rattle.std.specs.Option.{option_copied}
use Rattle.numbered_table.proofs.Places.{found, absent_value}
use Rattle.numbered_table.proofs.table.Table.get.Goals as goal

pub returns-in_err-place : goal.returns-in_err-place
returns-in_err-place g c =
    rw (← c.self.view_is) (ap option_copied c.from_residual.ensures ∙ sym (absent_value c.args.number _ c.self.inside.rows.items c.as_slice.ensures.value c.in_err-place.ensures.none))

pub returns : goal.returns
returns g c =
    rw (← c.self.view_is)
    (c.as_ref.ensures.value
    ∙ sym (found c.args.number c.in_ok-place.place _ c.self.inside.rows.items c.index.result.now c.as_slice.ensures.value c.self.invariant.places.ascend c.in_ok-place.ensures.within
    c.in_ok-place.ensures.some c.index.ensures))
