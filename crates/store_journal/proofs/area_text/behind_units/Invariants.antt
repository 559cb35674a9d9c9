use Rattle.std.proofs.Common.{◌≡◌, length}
use Rattle.store_journal.specs.Area.{behind_units}
use Rattle.store_journal.proofs.area_text.behind_units.Given as goal

abbrev pub invariant-units : goal.invariant-units
invariant-units l = behind_units l.octets ≡ behind_units l.rest

abbrev pub decreases-units : goal.decreases-units
decreases-units l = length l.rest
