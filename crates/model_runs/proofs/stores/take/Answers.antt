use Rattle.gate_store.proofs.Keeping.{takes_keeps}
use Rattle.model_runs.proofs.stores.take.Goals as goal

pub returns-clause-kept : goal.returns-clause-kept
returns-clause-kept g c =
    (takes_keeps g.D.Disk.meaning c.args.store.now c.take_next.new.self c.args.link c.args.now c.take_next.result
    c.requires.kept c.take_next.ensures).opened

pub returns-clause-ruled : goal.returns-clause-ruled
returns-clause-ruled g c =
    (takes_keeps g.D.Disk.meaning c.args.store.now c.take_next.new.self c.args.link c.args.now c.take_next.result
    c.requires.kept c.take_next.ensures).ruled
