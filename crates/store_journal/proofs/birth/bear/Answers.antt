use Rattle.std.proofs.Common.{◌∙◌}
use Rattle.store_journal.proofs.Bearing.{told_same, told_born, told_unborn}
use Rattle.store_journal.proofs.birth.bear.Goals as goal

pub returns-in_err-refuse_more-clause-stops : goal.returns-in_err-refuse_more-clause-stops
returns-in_err-refuse_more-clause-stops g c = told_same g.D.Disk.meaning.tells c.args.birth _ _ c.refuse_more.ensures.kept

pub returns-in_err-refuse_more-2-clause-stops : goal.returns-in_err-refuse_more-2-clause-stops
returns-in_err-refuse_more-2-clause-stops g c = told_same g.D.Disk.meaning.tells c.args.birth _ _ (c.refuse_more-2.ensures.kept ∙ c.refuse_more.ensures.kept)

pub returns-in_err-write_fresh-clause-stops : goal.returns-in_err-write_fresh-clause-stops
returns-in_err-write_fresh-clause-stops g c =
    told_born g.D.Disk.meaning.tells c.args.birth _ _ _ (c.refuse_more-2.ensures.kept ∙ c.refuse_more.ensures.kept) (told_unborn g.D.Disk.meaning.tells _ _ c.refuse_more.ensures.kept c.requires.unpicked c.in_ok-refuse_more.ensures.small c.in_ok-refuse_more-2.ensures.small) c.write_fresh.ensures.stops

pub returns-clause-stops : goal.returns-clause-stops
returns-clause-stops g c =
    told_born g.D.Disk.meaning.tells c.args.birth _ _ _ (c.refuse_more-2.ensures.kept ∙ c.refuse_more.ensures.kept) (told_unborn g.D.Disk.meaning.tells _ _ c.refuse_more.ensures.kept c.requires.unpicked c.in_ok-refuse_more.ensures.small c.in_ok-refuse_more-2.ensures.small) c.write_fresh.ensures.stops
