use Rattle.std.proofs.Common.{◌-◌, length}
use Rattle.concat_split.specs.Characters.{characters}
use Rattle.concat_split.proofs.Fronts.{Scans}
use Rattle.concat_split.proofs.characters.broken_len.Given as goal

abbrev pub invariant-loop-at : goal.invariant-loop-at
invariant-loop-at l = Scans l.coding l.text l.room (characters l.coding l.separators) l.at l.left l.found

abbrev pub decreases-loop-at : goal.decreases-loop-at
decreases-loop-at l = length l.text - l.at
