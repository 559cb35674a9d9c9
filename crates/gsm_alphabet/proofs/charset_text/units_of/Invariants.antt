use Rattle.std.proofs.Common.{◌≡◌, ◌*◌, ◌++◌, drop}
use Rattle.gsm_alphabet.specs.Ucs2.{units_of}
use Rattle.gsm_alphabet.proofs.charset_text.units_of.Given as goal

abbrev pub invariant-loop-i : goal.invariant-loop-i
invariant-loop-i l = l.units.items ++ units_of (drop (2 * l.i) l.octets) ≡ units_of l.octets
