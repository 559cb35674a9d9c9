use Rattle.std.proofs.Common.{◌≡◌, ◌++◌, take, flat_map}
use Rattle.std.specs.Int.{w16, to_be_bytes}
use Rattle.gsm_alphabet.proofs.ucs2.push_units.Given as goal

abbrev pub invariant-loop-unit : goal.invariant-loop-unit
invariant-loop-unit l = l.octets ≡ l.fn.octets ++ flat_map (to_be_bytes w16) (take l.unit-index l.units)
