use Rattle.gate_store.proofs.Keeping.{takes_job_keeps}
use Rattle.job_list.proofs.take.Goals as goal

pub returns : goal.returns
returns g c =
    (takes_job_keeps g.D.Disk.meaning c.args.store.now c.take_job.new.self c.take_job.result c.requires
    c.take_job.ensures).opened
