use Rattle.std.proofs.Common.{◌≡◌, ◌+◌, ◌-◌, ◌*◌, ◌≤◌, length, drop}
use Rattle.gsm_alphabet.specs.Packing.{number_of, unpacked}
use Rattle.gsm_alphabet.specs.Bits.{bits_then, completed}
use Rattle.gsm_alphabet.proofs.packing.unpack.Given as goal

abbrev pub invariant-loop-waiting : goal.invariant-loop-waiting
invariant-loop-waiting l = record {
  parts : completed 128 l.count l.septets (bits_then l.waiting (number_of 256 (drop l.next l.packed))) ≡ unpacked l.packed l.count;
  bits : l.waiting.count + 7 * length l.septets ≡ 8 * l.next;
  within : length l.septets ≤ l.count;
}

abbrev pub decreases-loop-waiting : goal.decreases-loop-waiting
decreases-loop-waiting l = l.count - length l.septets
