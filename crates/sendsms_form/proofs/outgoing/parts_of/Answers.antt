use Rattle.std.proofs.Common.{sym, subst}
use Rattle.concat_split.specs.Parts.{AreLimits}
use Rattle.sendsms_form.proofs.SplitTexts.{are_limits}
use Rattle.sendsms_form.proofs.outgoing.parts_of.Goals as goal

pub split-requires-clause-limits : goal.split-requires-clause-limits
split-requires-clause-limits c =
    subst (AreLimits c.args.form.now.model.coding) (sym c.in_ok-limits.ensures.limits) (are_limits c.args.user.now c.args.form.now.model.coding c.requires.in_range)
