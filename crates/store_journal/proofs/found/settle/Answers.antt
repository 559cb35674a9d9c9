use Rattle.store_journal.proofs.Bearing.{settles_two, settles_stops}
use Rattle.store_journal.proofs.found.settle.Goals as goal

pub returns-in_err-sync-2-clause-stops : goal.returns-in_err-sync-2-clause-stops
returns-in_err-sync-2-clause-stops g c = settles_two g.D.Disk.meaning.tells _ _ _ _ _ c.sync.ensures.synced c.sync-2.ensures.synced

pub returns-clause-stops : goal.returns-clause-stops
returns-clause-stops g c = settles_stops g.D.Disk.meaning.tells _ _ _ _ _ _ _ c.in_ok-sync.ensures.synced c.in_ok-sync-2.ensures.synced c.sync-3.ensures.synced
