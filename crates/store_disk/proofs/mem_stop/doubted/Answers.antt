use Rattle.std.proofs.Common.{◌∙◌, ◌++◌, ◌∷◌, [], List, ℕ, ap, arith, map, reverse, sym}
use Rattle.std.proofs.lemmas.List.FromFn.{map-range_with_len_more}
use Rattle.std.specs.List.{range_with_len}
use Rattle.store_disk.specs.Stop.{octet_left, ranges_in}
use Rattle.store_disk.proofs.mem_stop.doubted.Goals as goal

pub loop-place-preserved : goal.loop-place-preserved
loop-place-preserved c =
    let left = octet_left c.args.settled.now (ranges_in c.args.area (reverse c.args.log.now)) c.args.octet in
    c.in_ok-push.ensures.ok
    ∙ ap (λ (l : List ℕ). l ++ c.octet_at.result ∷ []) c.loop-place.invariant
    ∙ ap (λ (x : ℕ). map left (range_with_len 0 c.loop-place.place) ++ x ∷ []) c.octet_at.ensures
    ∙ sym (map-range_with_len_more left 0 c.loop-place.place c.loop-place.place (omega arith))
