use Rattle.link_turn.proofs.Pigeons.{free_test}
use Rattle.link_turn.proofs.session.Session.is_free.Goals as goal

pub returns : goal.returns
returns g c = free_test c.is_in_use.result c.args.tag c.args.self.now.in_use.items c.is_in_use.ensures
