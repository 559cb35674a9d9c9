use Rattle.std.proofs.Common.{◌∙◌, ap, length, ◌+◌, length-append}
use Rattle.std.proofs.lemmas.Result.{on_ok_weaker}
use Rattle.gate_entries.specs.Entry.{accept_octets}
use Rattle.gate_entries.proofs.Accepts.{length-accept_octets}
use Rattle.gate_entries.proofs.accept.write_accept.Goals as goal

pub returns-else-is_err-clause-size : goal.returns-else-is_err-clause-size
returns-else-is_err-clause-size c = on_ok_weaker c.put_accept-put.result (λ e. ap length e ∙ length-append c.args.into.now (accept_octets c.args.accept.now) ∙ ap (λ n. length c.args.into.now + n) (length-accept_octets c.args.accept.now)) c.put_accept-put.ensures.ok
