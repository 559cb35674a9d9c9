use Rattle.std.proofs.Common.{◌≡◌, ◌++◌, take}
use Rattle.std.specs.List.{flat_map}
use Rattle.sms_record.specs.Record.{sms_octets}
use Rattle.gate_entries.proofs.messages.put_parts.Given as goal

abbrev pub invariant-loop-sms : goal.invariant-loop-sms
invariant-loop-sms l = l.into ≡ l.fn.into ++ flat_map sms_octets (take l.sms-index l.parts)
