use Rattle.std.proofs.lemmas.Result.{err_from_is_err_and}
use Rattle.exact_octets.proofs.Loops.{goes_on, ends, is_done}
use Rattle.gate_entries.specs.EntryReading.{number_at, numbers_of_count_at}
use Rattle.gate_entries.proofs.answered.numbers_of_count_at.Goals as goal

pub returns-in_err-arrival : goal.returns-in_err-arrival
returns-in_err-arrival c =
    let p = err_from_is_err_and c.from_residual.result c.from_residual.ensures.1 in
    rw (p.1, p.2) (ends number_at c.in_err-arrival.field-0.0 c.loop.arrivals c.args.count c.loop.counter c.loop.rest.now (numbers_of_count_at c.args.count c.args.octets.now) c.loop-test.true c.in_err-arrival.ensures c.loop.invariant)

pub loop-preserved : goal.loop-preserved
loop-preserved c = rw c.in_ok-push.ensures.ok (goes_on number_at c.loop.arrivals c.args.count c.loop.counter c.loop.rest.now c.in_ok-arrival.arrival c.in_ok-arrival.after.now (numbers_of_count_at c.args.count c.args.octets.now) c.loop-test.true c.in_ok-arrival.ensures c.loop.invariant)

pub returns : goal.returns
returns c = is_done number_at c.loop.arrivals c.args.count c.loop.counter c.loop.rest.now (numbers_of_count_at c.args.count c.args.octets.now) c.loop-test.false c.loop.invariant
