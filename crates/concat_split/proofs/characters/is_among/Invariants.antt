use Rattle.std.proofs.Common.{◌≡◌, ◌≤◌, ◌-◌, length, drop}
use Rattle.concat_split.specs.Characters.{characters}
use Rattle.concat_split.specs.Parts.{is_among}
use Rattle.concat_split.proofs.characters.is_among.Given as goal

abbrev pub invariant-loop-at : goal.invariant-loop-at
invariant-loop-at l =
    (l.at ≤ length l.separators) × (is_among (characters l.coding (drop l.at l.separators)) l.character ≡ is_among (characters l.coding l.separators) l.character)

abbrev pub decreases-loop-at : goal.decreases-loop-at
decreases-loop-at l = length l.separators - l.at
