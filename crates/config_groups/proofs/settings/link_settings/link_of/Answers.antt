use Rattle.std.proofs.Common.{refl}
use Rattle.config_groups.specs.Settings.{link_of}
use Rattle.config_groups.proofs.settings.link_settings.link_of.Goals as goal

pub returns : goal.returns
unfolding link_of
returns c =
    rw (
      c.in_ok-smsc_id.ensures.first,
      c.in_ok-smsc_id.ensures.second,
      c.port.ensures,
      c.in_ok-smsc_username.ensures.first,
      c.in_ok-smsc_username.ensures.second,
      c.in_ok-system_type.ensures,
      c.window_of.ensures,
      c.small.ensures,
      c.keepalive_of.ensures,
      c.small-2.ensures,
    ) refl
