use Rattle.std.proofs.Common.{◌≡◌, ℕ, ◌<◌, true, get_or}
use Rattle.exact_octets.specs.Alphabet.{is_in}
use Rattle.exact_octets.proofs.text.octets_at.Given as goal

abbrev pub invariant-loop-index : goal.invariant-loop-index
invariant-loop-index l = (k : ℕ) → k < l.index → is_in l.alphabet (get_or l.octets k 0) ≡ true
