use Rattle.std.proofs.Common.{◌≡◌, ℕ, List, refl}
use Rattle.std.specs.Prelude.{codes}
use Rattle.config_groups.specs.Ranges.{IsLogin}
use Rattle.config_values.proofs.Forms.{printable}
use Rattle.route_rules.specs.declared.link_kind.LinkKind.TheVariants.{Smpp}
use Rattle.link_runs.proofs.say.settings_of.Goals as goal

-- the name and the password that these lines log in with
gate : (username password : List ℕ) → username ≡ codes "gate" → password ≡ codes "secret" → IsLogin Smpp username password
gate username password a b = rw a (rw b (printable 15 (codes "gate") refl, printable 8 (codes "secret") refl))

pub returns-clause-login : goal.returns-clause-login
returns-clause-login c = gate _ _ c.in_ok-smsc_username.ensures c.in_ok-smsc_password.ensures
