use Rattle.std.proofs.Common.{◌≡◌, ◌+◌, ◌*◌, length, drop}
use Rattle.gsm_alphabet.specs.Packing.{number_of, octets_for, packed}
use Rattle.gsm_alphabet.specs.Bits.{bits_then, completed}
use Rattle.gsm_alphabet.proofs.packing.pack.Given as goal

abbrev pub invariant-loop-septet : goal.invariant-loop-septet
invariant-loop-septet l = record {
  parts : completed 256 (octets_for (length l.septets)) l.octets (bits_then l.waiting (number_of 128 (drop l.septet-index l.septets))) ≡ packed l.septets;
  count : 8 * length l.octets + l.waiting.count ≡ 7 * l.septet-index;
}
