use Rattle.std.proofs.Common.{List}
use Rattle.exact_octets.specs.Reading.{filled_at}
use Rattle.exact_octets.proofs.Loops.{Filling}
use Rattle.smpp_wire.specs.Grammar.{Tlv, tlv}
use Rattle.smpp_wire.specs.Reading.{tlv_at}
use Rattle.smpp_wire.proofs.tlv.behind_tlvs.Given as goal

abbrev pub invariant-loop-left : goal.invariant-loop-left
invariant-loop-left l = (front : List Tlv) × Filling tlv_at tlv (filled_at tlv_at tlv l.fn.left l.fn.octets) front l.left l.rest

abbrev pub decreases-loop-left : goal.decreases-loop-left
decreases-loop-left l = l.left
