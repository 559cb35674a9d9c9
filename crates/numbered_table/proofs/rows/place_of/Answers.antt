use Rattle.std.proofs.Common.{◌∙◌, ap, rules, ltb, arith}
use Rattle.std.proofs.lemmas.List.{get_or_default}
use Rattle.std.proofs.lemmas.List.Sorted.{IsPartitionPoint-from_clause, IsPartitionedBy-ltb}
use Rattle.numbered_table.proofs.Places.{never_falls, nowhere}
use Rattle.numbered_table.proofs.rows.place_of.Goals as goal
use Rattle.numbered_table.proofs.rows.place_of.Goals.{else-place-rows-via-then-place-rows+else-rows-place, else-place-rows-via-else-place-rows}

pub returns-else-place-rows-clause-none : goal.returns-else-place-rows-clause-none
returns-else-place-rows-clause-none g c =
    let rows = c.args.rows.now in
    let place = c.partition_point-place.result in
    let point = IsPartitionPoint-from_clause (λ row. ltb row.number c.args.number) rows place c.partition_point-place.ensures.partitioned
    (IsPartitionedBy-ltb (λ row. row.number) rows c.args.number (never_falls rows c.requires)) (λ a r f' k. search rules) in
    elim c.else-place-rows.branch [
      | else-place-rows-via-then-place-rows+else-rows-place w ↦
          nowhere rows c.args.number place c.requires point
          (λ there d is. w.if-rows-place.false (ap (λ r. r.number) (get_or_default rows place w.index-rows-place.result d there) ∙ is))
      | else-place-rows-via-else-place-rows w ↦ nowhere rows c.args.number place c.requires point (λ there d is. omega (arith, there, w.if-place-rows.false))
    ]
