use Rattle.std.proofs.Common.{All, List, subst, sym}
use Rattle.config_groups.specs.Ranges.{IsUser}
use Rattle.config_groups.specs.declared.settings.user.User.{User}
use Rattle.sendsms_http.proofs.Heads.{user_found}
use Rattle.sendsms_http.proofs.request.asked_of.Goals as goal

pub asked_by-requires-clause-user : goal.asked_by-requires-clause-user
asked_by-requires-clause-user c =
    user_found c.as_slice.result.now c.as_slice-2.result.now c.in-Some.user.now
    (subst (λ (users : List User). All IsUser users) (sym c.as_slice.ensures) c.requires.in_range.users) c.in-Some.ensures
