use Rattle.gate_store.proofs.Keeping.{takes_job_keeps}
use Rattle.model_runs.proofs.stores.take_job.Goals as goal

pub returns-clause-kept : goal.returns-clause-kept
returns-clause-kept g c =
    (takes_job_keeps g.D.Disk.meaning c.args.store.now c.take_job.new.self c.take_job.result c.requires.kept
    c.take_job.ensures).opened

pub returns-clause-ruled : goal.returns-clause-ruled
returns-clause-ruled g c =
    (takes_job_keeps g.D.Disk.meaning c.args.store.now c.take_job.new.self c.take_job.result c.requires.kept
    c.take_job.ensures).ruled
