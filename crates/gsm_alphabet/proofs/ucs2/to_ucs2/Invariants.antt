use Rattle.std.proofs.Common.{◌≡◌, flat_map}
use Rattle.gsm_alphabet.specs.Ucs2.{ucs2_of}
use Rattle.gsm_alphabet.proofs.ucs2.to_ucs2.Given as goal

abbrev pub invariant-loop-c : goal.invariant-loop-c
invariant-loop-c l = l.octets ≡ flat_map ucs2_of l.yielded
