use Rattle.std.proofs.Common.{rules}
use Rattle.std.proofs.lemmas.Result.{on_ok_weaker}
use Rattle.exact_octets.specs.Numbers.{number}
use Rattle.exact_octets.proofs.Growing.{grown4}
use Rattle.smpp_wire.proofs.write.put_header.Goals as goal

pub returns-clause-ok : goal.returns-clause-ok
returns-clause-ok c = on_ok_weaker c.extend_from_slice-4.result (grown4 c.args.into.now c.extend_from_slice.new.self c.extend_from_slice-2.new.self c.extend_from_slice-3.new.self c.extend_from_slice-4.new.self (number 4 c.args.len) (number 4 c.args.pdu.now.id) (number 4 c.args.pdu.now.status) (number 4 c.args.pdu.now.sequence) (search rules) (search rules) (search rules)) (search rules)
