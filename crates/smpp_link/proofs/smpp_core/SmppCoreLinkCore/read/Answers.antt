use Rattle.smpp_link.proofs.Commands.{smpp_grammar}
use Rattle.smpp_link.proofs.smpp_core.SmppCoreLinkCore.read.Goals as goal

pub returns-clause-grammar : goal.returns-clause-grammar
returns-clause-grammar c = smpp_grammar
