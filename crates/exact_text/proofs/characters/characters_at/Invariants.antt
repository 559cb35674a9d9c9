use Rattle.std.proofs.Common.{◌≡◌, ℕ, ◌<◌, true, get_or}
use Rattle.exact_text.specs.Text.{is_of}
use Rattle.exact_text.proofs.characters.characters_at.Given as goal

abbrev pub invariant-loop-index : goal.invariant-loop-index
invariant-loop-index l = (k : ℕ) → k < l.index → is_of l.characters (get_or l.octets k 0) ≡ true
