use Rattle.gate_store.specs.Store.{IsOpen}
use Rattle.job_list.proofs.put_jobs.Given as goal

-- it is a store still
abbrev pub invariant-loop : goal.invariant-loop
invariant-loop g l = IsOpen g.D.Disk.meaning l.store
