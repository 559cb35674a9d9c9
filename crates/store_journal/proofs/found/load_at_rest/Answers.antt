use Rattle.std.proofs.Common.{◌∙◌}
use Rattle.store_journal.proofs.Bearing.{told_same}
use Rattle.store_journal.proofs.found.load_at_rest.Goals as goal

pub returns-in_err-area-clause-stops : goal.returns-in_err-area-clause-stops
returns-in_err-area-clause-stops g c = told_same g.D.Disk.meaning.tells c.args.birth _ _ c.read_pick.ensures.kept

pub returns-in-Some-clause-stops : goal.returns-in-Some-clause-stops
returns-in-Some-clause-stops g c = told_same g.D.Disk.meaning.tells c.args.birth _ _ (c.load_area.ensures.kept ∙ c.read_pick.ensures.kept)
