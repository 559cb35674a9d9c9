use Rattle.std.proofs.Common.{refl}
use Rattle.config_groups.specs.Settings.{ways_of}
use Rattle.config_groups.proofs.settings.user.ways_of.Goals as goal

pub returns : goal.returns
unfolding ways_of
returns c = rw (c.in_ok-default_smsc.ensures.first, c.in_ok-default_smsc.ensures.second, c.in_ok-default_sender.ensures, c.in_ok-faked_sender.ensures) refl
