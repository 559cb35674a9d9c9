use Rattle.store_journal.proofs.Bearing.{told_settled, told_then}
use Rattle.store_journal.proofs.found.load.Goals as goal

pub returns-in_err-settle-clause-stops : goal.returns-in_err-settle-clause-stops
returns-in_err-settle-clause-stops g c = told_settled g.D.Disk.meaning.tells c.args.birth _ _ c.settle.ensures.stops

pub returns-clause-stops : goal.returns-clause-stops
returns-clause-stops g c = told_then g.D.Disk.meaning.tells c.args.birth _ _ _ c.settle.ensures.stops c.load_at_rest.ensures.stops
