use Rattle.std.proofs.Common.{◌≡◌, take}
use Rattle.smpp_link.specs.Saying.{speakable}
use Rattle.smpp_link.proofs.smpp_core.speakable.Given as goal

abbrev pub invariant-loop-octet : goal.invariant-loop-octet
invariant-loop-octet l = l.text ≡ speakable (take l.octet-index l.octets)
