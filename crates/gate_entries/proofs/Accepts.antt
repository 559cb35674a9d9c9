-- An entry of messages that were taken together has as many octets as its size says.
use Rattle.std.proofs.Common.{◌≡◌, length, arith}
use Rattle.std.proofs.lemmas.List.Concat.{length-flat_map}
use Rattle.sms_record.specs.Record.{sms_octets}
use Rattle.gate_entries.specs.declared.accept.Accept.{Accept}
use Rattle.gate_entries.specs.Entry.{accept_octets, accept_size}

pub length-accept_octets : (accept : Accept) → length (accept_octets accept) ≡ accept_size accept
length-accept_octets accept = omega (arith, length-flat_map sms_octets accept.parts)
