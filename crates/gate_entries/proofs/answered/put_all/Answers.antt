use Rattle.std.proofs.Common.{get_or}
use Rattle.std.proofs.lemmas.List.{get_or_default}
use Rattle.exact_octets.specs.Numbers.{number}
use Rattle.exact_octets.proofs.Growing.{item_more}
use Rattle.gate_entries.proofs.answered.put_all.Goals as goal

pub loop-arrival-preserved : goal.loop-arrival-preserved
loop-arrival-preserved c =
    let arrival = get_or c.args.arrivals.now c.loop-arrival.arrival-index 0 in
    item_more (number 8) c.args.into.now c.loop-arrival.into c.put_number.new.into c.args.arrivals.now c.loop-arrival.arrival-index arrival c.loop-arrival-test.true (get_or_default c.args.arrivals.now c.loop-arrival.arrival-index 0 arrival c.loop-arrival-test.true) c.loop-arrival.invariant c.in_ok-put_number.ensures.ok
