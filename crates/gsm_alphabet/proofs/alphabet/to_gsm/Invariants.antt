use Rattle.std.proofs.Common.{◌≡◌, flat_map}
use Rattle.gsm_alphabet.specs.Alphabet.{septets_of}
use Rattle.gsm_alphabet.proofs.alphabet.to_gsm.Given as goal

abbrev pub invariant-loop-c : goal.invariant-loop-c
invariant-loop-c l = l.septets ≡ flat_map septets_of l.yielded
