use Rattle.store_journal.proofs.Bearing.{bears_first, bears_second, bears_store}
use Rattle.store_journal.proofs.birth.write_fresh.Goals as goal

pub returns-in_err-write_synced-clause-stops : goal.returns-in_err-write_synced-clause-stops
returns-in_err-write_synced-clause-stops g c = bears_first g.D.Disk.meaning.tells c.args.birth _ c.fresh_area-octets.ensures _ _ _ c.requires.small c.write_synced.ensures.written

pub returns-in_err-write_synced-2-clause-stops : goal.returns-in_err-write_synced-2-clause-stops
returns-in_err-write_synced-2-clause-stops g c =
    bears_second g.D.Disk.meaning.tells c.args.birth _ c.fresh_area-octets.ensures _ _ _ _ _ c.requires.small c.write_synced.ensures.written c.write_synced-2.ensures.written

pub returns-clause-kept : goal.returns-clause-kept
returns-clause-kept g c =
    (bears_store g.D.Disk.meaning.tells c.args.birth _ c.fresh_area-octets.ensures _ _ _ _ _ _ _ c.ranges.birth.fits c.requires.small c.in_ok-write_synced.ensures.written c.in_ok-write_synced-2.ensures.written c.write_synced-3.ensures.written).0

pub returns-clause-stops : goal.returns-clause-stops
returns-clause-stops g c =
    (bears_store g.D.Disk.meaning.tells c.args.birth _ c.fresh_area-octets.ensures _ _ _ _ _ _ _ c.ranges.birth.fits c.requires.small c.in_ok-write_synced.ensures.written c.in_ok-write_synced-2.ensures.written c.write_synced-3.ensures.written).1
