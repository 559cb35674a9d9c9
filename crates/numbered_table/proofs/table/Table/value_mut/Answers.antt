use Rattle.std.proofs.Common.{◌∙◌, refl, sym, ap, subst}
use Rattle.std.specs.Prelude.{IsSome}
use Rattle.std.specs.Option.{option_copied_mut}
use Rattle.numbered_table.specs.Pairs.{value_under}
use Rattle.numbered_table.proofs.Places.{has_place, lent_value, lent_some, lent_changed, lent_kept, with_room}
use Rattle.numbered_table.proofs.table.Table.value_mut.Goals as goal

pub unwrap-place-requires : goal.unwrap-place-requires
unwrap-place-requires g c =
    has_place c.place_of.result c.args.number c.as_slice.result.now c.self.inside.rows.items c.as_slice.ensures.value c.place_of.ensures.none
    (subst (λ table. IsSome (value_under c.args.number table.pairs)) (sym c.self.view_is) c.requires)

pub unwrap-requires : goal.unwrap-requires
unwrap-requires g c =
    c.as_mut.ensures.variant
    ∙ lent_some c.args.number c.unwrap-place.result c.place_of.result c.as_slice.result.now c.self.inside.rows.items c.index_mut.result.now c.unwrap-place.ensures c.as_slice.ensures.value
    c.self.invariant.places.ascend c.place_of.ensures.within c.place_of.ensures.some c.index_mut.ensures.value
    (subst (λ table. IsSome (value_under c.args.number table.pairs)) (sym c.self.view_is) c.requires)

pub invariant_of-self-lent : goal.invariant_of-self-lent
invariant_of-self-lent g c w =
    lent_kept c.args.number c.unwrap-place.result c.place_of.result c.as_slice.result.now c.self.inside.rows.items c.index_mut.result.now c.unwrap-place.ensures c.as_slice.ensures.value
    c.self.invariant.places.ascend c.place_of.ensures.within c.place_of.ensures.some c.index_mut.ensures.value c.self.inside.first_live c.self.inside.empties c.unwrap.result.now w
    (ap option_copied_mut (sym c.unwrap.ensures) ∙ c.as_mut.ensures.value) c.self.invariant

pub returns : goal.returns
returns g c =
    let some = ap option_copied_mut (sym c.unwrap.ensures) ∙ c.as_mut.ensures.value in (
      (
        refl,
        λ w. rw (← c.self.view_is)
            (with_room _ _ _
            (lent_changed c.args.number c.unwrap-place.result c.place_of.result c.as_slice.result.now c.self.inside.rows.items c.index_mut.result.now c.unwrap-place.ensures
            c.as_slice.ensures.value c.self.invariant.places.ascend c.place_of.ensures.within c.place_of.ensures.some c.index_mut.ensures.value c.unwrap.result.now w some)),
      ),
      record {
        writes_back = tt;
        value = rw (← c.self.view_is)
            (lent_value c.args.number c.unwrap-place.result c.place_of.result c.as_slice.result.now c.self.inside.rows.items c.index_mut.result.now c.unwrap-place.ensures c.as_slice.ensures.value
            c.self.invariant.places.ascend c.place_of.ensures.within c.place_of.ensures.some c.index_mut.ensures.value ∙ sym some);
      },
    )
