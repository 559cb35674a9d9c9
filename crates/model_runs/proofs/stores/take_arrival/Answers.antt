use Rattle.gate_store.proofs.Keeping.{takes_arrival_keeps}
use Rattle.model_runs.proofs.stores.take_arrival.Goals as goal

pub returns-clause-kept : goal.returns-clause-kept
returns-clause-kept g c =
    (takes_arrival_keeps g.D.Disk.meaning c.args.store.now c.take_arrival.new.self c.take_arrival.result c.requires.kept
    c.take_arrival.ensures).opened

pub returns-clause-ruled : goal.returns-clause-ruled
returns-clause-ruled g c =
    (takes_arrival_keeps g.D.Disk.meaning c.args.store.now c.take_arrival.new.self c.take_arrival.result c.requires.kept
    c.take_arrival.ensures).ruled
