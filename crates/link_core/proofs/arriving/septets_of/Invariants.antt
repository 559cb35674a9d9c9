use Rattle.std.proofs.Common.{◌≡◌, ◌%◌, map, take}
use Rattle.link_core.proofs.arriving.septets_of.Given as goal

abbrev pub invariant-loop-octet : goal.invariant-loop-octet
invariant-loop-octet l = l.septets ≡ map (λ octet. octet % 128) (take l.octet-index l.octets)
