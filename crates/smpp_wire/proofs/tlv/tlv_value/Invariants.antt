use Rattle.std.proofs.Common.{length}
use Rattle.exact_octets.proofs.Readers.{AreOctets}
use Rattle.smpp_wire.proofs.TlvValues.{Remains}
use Rattle.smpp_wire.proofs.tlv.tlv_value.Given as goal

abbrev pub invariant-loop-rest : goal.invariant-loop-rest
invariant-loop-rest l = Remains l.tag l.tlvs l.rest × AreOctets l.rest

abbrev pub decreases-loop-rest : goal.decreases-loop-rest
decreases-loop-rest l = length l.rest
