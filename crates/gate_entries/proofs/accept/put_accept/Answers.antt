use Rattle.std.proofs.Common.{rules, [], ◌∷◌}
use Rattle.std.proofs.lemmas.Result.{on_ok_weaker}
use Rattle.exact_octets.proofs.Growing.{grown2}
use Rattle.gate_entries.specs.Entry.{accept_fields}
use Rattle.gate_entries.proofs.accept.put_accept.Goals as goal

pub returns-clause-ok : goal.returns-clause-ok
returns-clause-ok c = on_ok_weaker c.put_accept_fields.result (grown2 c.args.into.now c.push.new.self c.put_accept_fields.new.into (1 ∷ []) (accept_fields c.args.accept.now) (search rules)) (search rules)
