use Rattle.gate_store.proofs.Keeping.{performs_keeps}
use Rattle.model_runs.proofs.stores.record.Goals as goal

pub returns-clause-kept : goal.returns-clause-kept
returns-clause-kept g c =
    (performs_keeps g.D.Disk.meaning c.args.store.now c.perform.new.self c.args.entry c.perform.result c.requires.kept
    c.perform.ensures).opened

pub returns-clause-ruled : goal.returns-clause-ruled
returns-clause-ruled g c = c.perform.ensures.ruled
