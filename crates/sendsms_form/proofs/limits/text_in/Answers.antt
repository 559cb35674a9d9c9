use Rattle.sendsms_form.proofs.SplitTexts.{no_none}
use Rattle.sendsms_form.proofs.limits.text_in.Goals as goal

pub unreachable-requires : goal.unreachable-requires
unreachable-requires c = no_none c.args.coding c.args.text.now c.in_ok-octets.field-0 c.requires.utf8 c.in_ok-octets.ensures.body c.in-None.is
