use Rattle.std.proofs.Common.{subst}
use Rattle.smpp_wire.specs.Ids.{deliver_sm}
use Rattle.smpp_wire.specs.declared.pdu.Body.{Body}
use Rattle.smpp_wire.specs.Command.{fields_of}
use Rattle.smpp_wire.specs.Grammar.{IsOf, row_of}
use Rattle.smpp_link.proofs.delivery.delivered.Goals as goal

pub reported-requires : goal.reported-requires
reported-requires c = (subst (λ (b : Body). IsOf (row_of deliver_sm) (fields_of b)) c.in-Message.is c.requires).tlvs
