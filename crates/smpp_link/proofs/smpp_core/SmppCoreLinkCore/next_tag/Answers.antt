use Rattle.smpp_link.proofs.Turns.{tags_turn}
use Rattle.smpp_link.proofs.smpp_core.SmppCoreLinkCore.next_tag.Goals as goal

pub returns-clause-turns : goal.returns-clause-turns
returns-clause-turns c = tags_turn
