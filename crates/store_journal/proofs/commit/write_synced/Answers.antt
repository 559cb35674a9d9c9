use Rattle.store_journal.proofs.Keeping.{written_then, unwritten}
use Rattle.store_journal.proofs.commit.write_synced.Goals as goal

pub returns-in_err-write_at-clause-written : goal.returns-in_err-write_at-clause-written
returns-in_err-write_at-clause-written g c = unwritten g.D.Disk.meaning.tells c.args.area c.args.at c.args.octets.now _ c.from_residual.result _ _ c.in_err-write_at.ensures.written c.from_residual.ensures.0

pub returns-clause-written : goal.returns-clause-written
returns-clause-written g c = written_then g.D.Disk.meaning.tells c.args.area c.args.at c.args.octets.now c.in_ok-write_at.field-0 c.sync.result _ _ _ c.in_ok-write_at.ensures.written c.sync.ensures.synced
