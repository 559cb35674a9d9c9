use Rattle.link_turn.proofs.Looking.{none_late, late_some}
use Rattle.link_turn.proofs.session.Session.overdue_message.Goals as goal

pub returns-clause-none : goal.returns-clause-none
returns-clause-none g c = λ none. none_late c.args.self.now c.deref.result.now c.late_message.result c.deref.ensures.value c.late_message.ensures none

pub returns-clause-some : goal.returns-clause-some
returns-clause-some g c = late_some c.args.self.now c.deref.result.now c.late_message.result c.deref.ensures.value c.late_message.ensures
