use Rattle.std.proofs.Common.{◌≡◌, ◌+◌, take, length}
use Rattle.std.specs.List.{flat_map}
use Rattle.sms_record.specs.Record.{sms_octets}
use Rattle.gate_entries.specs.Size.{capped}
use Rattle.gate_entries.proofs.size.with_parts.Given as goal

abbrev pub invariant-loop-sms : goal.invariant-loop-sms
invariant-loop-sms l = l.sum ≡ capped (l.fn.before + length (flat_map sms_octets (take l.sms-index l.parts)))
