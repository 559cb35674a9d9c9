use Rattle.std.proofs.Common.{◌≡◌, drop}
use Rattle.config_groups.specs.Roles.{whole_room}
use Rattle.config_groups.specs.Passed.{passed_of}
use Rattle.config_groups.specs.Settings.{no_settings, settings_in}
use Rattle.config_groups.proofs.settings.settings_of.Given as goal

-- the settings so far, and the groups that are left, give those of all
abbrev pub invariant-loop-group : goal.invariant-loop-group
invariant-loop-group l = settings_in whole_room (no_settings (passed_of l.groups)) l.groups ≡ settings_in l.room l.settings (drop l.group-index l.groups)
