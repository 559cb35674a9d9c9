use Rattle.store_journal.proofs.Reopened.{hands_on}
use Rattle.store_journal.proofs.journal.Journal.close.Goals as goal

pub returns-clause-hands_on : goal.returns-clause-hands_on
returns-clause-hands_on g c = hands_on g.D.Disk.meaning c.args.self
