-- How a command ends: by its stages, with its status and the line on standard error.
use Rattle.std.specs.Prelude.{◌≡◌, ℕ, Option, Some, None, Result}
use Rattle.kn_base.specs.Course.{Course}
use Rattle.boxes_main.specs.Giving.{GivesText}
use Rattle.boxes_main.specs.Line.{Row}
use Rattle.boxes_main.specs.OpeningFault.{opening_row}
use Rattle.boxes_main.specs.declared.giving.Cut.{Cut}
use Rattle.boxes_main.specs.declared.failure.Failure.{Failure}
use Rattle.boxes_main.specs.declared.failure.Failure.TheVariants.{Opening, Own}
use Rattle.boxes_main.specs.declared.opening_fault.OpeningFault.{OpeningFault}

-- how the program ends by what went wrong, given the rows of what only this command fails by
abbrev pub row_of : {F : Type 0} → (own : F → Row) → Failure F → Row
row_of own (Opening fault) = opening_row fault
row_of own (Own fault) = own fault

-- the status where something went wrong or nothing did
abbrev pub status_of : {F : Type 0} → (says : F → Row) → Option F → ℕ
status_of says None = 0
status_of says (Some fault) = (says fault).0

-- the line of what went wrong is given to a sink, or a front of it where the sink fails; where nothing went wrong, nothing is
abbrev pub Tells : {F : Type 0} → (says : F → Row) → Option F → Course → Course → Type 0
Tells says None old new = new ≡ old
Tells says (Some fault) old new = (gave : Result Unit Cut) × GivesText (says fault).1 gave old new

-- what a command comes to, by its stages: no store stood open, for this fault; or its own work was done, and failed so or didn't fail
abbrev pub ComesTo : {F : Type 0} → (unopened : OpeningFault → Type 0) → (done : Option F → Type 0) → Option (Failure F) → Type 0
ComesTo unopened done None = done None
ComesTo unopened done (Some (Opening fault)) = unopened fault
ComesTo unopened done (Some (Own fault)) = done (Some fault)
