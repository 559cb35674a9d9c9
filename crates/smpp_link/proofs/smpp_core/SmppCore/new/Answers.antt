use Rattle.smpp_link.proofs.Frames.{bind_as}
use Rattle.smpp_link.proofs.smpp_core.SmppCore.new.Goals as goal

pub invariant_of-result : goal.invariant_of-result
invariant_of-result c =
    let settings = c.args.settings.now in
    bind_as c.in_ok-system_id.system_id c.in_ok-password.password c.in_ok-system_type.system_type settings.smsc_username settings.smsc_password settings.system_type
    (cc c.in_ok-system_id.ensures) (cc c.in_ok-password.ensures) (cc c.in_ok-system_type.ensures) c.requires.login c.requires.system_type
