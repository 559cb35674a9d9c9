use Rattle.std.proofs.Common.{refl}
use Rattle.config_groups.specs.Settings.{smsbox_of}
use Rattle.config_groups.proofs.settings.smsbox.smsbox_of.Goals as goal

pub returns : goal.returns
unfolding smsbox_of
returns c = rw (c.in_ok-bearerbox_host.ensures, c.port.ensures, c.in_ok-sendsms_url.ensures, c.in_ok-global_sender.ensures, c.in_ok-replies.ensures) refl
