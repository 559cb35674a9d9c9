use Rattle.std.proofs.Common.{◌≡◌, take, ◌%◌}
use Rattle.std.specs.List.{sum}
use Rattle.exact_text.proofs.sum.checksum.Given as goal

abbrev pub invariant-loop-octet : goal.invariant-loop-octet
invariant-loop-octet l = l.sum ≡ sum (take l.octet-index l.octets) % 256
