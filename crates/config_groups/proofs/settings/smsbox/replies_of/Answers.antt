use Rattle.std.proofs.Common.{refl}
use Rattle.config_groups.specs.Settings.{replies_of}
use Rattle.config_groups.proofs.settings.smsbox.replies_of.Goals as goal

pub returns : goal.returns
unfolding replies_of
returns c = rw (c.in_ok-couldnotfetch.ensures, c.in_ok-requestfailed.ensures, c.in_ok-emptymessage.ensures) refl
