-- Giving a text in pieces.
use Rattle.std.specs.Prelude.{ℕ, List, Result, Ok, Err}
use Rattle.kn_base.specs.Course.{Course}
use Rattle.kn_base.specs.Talk.{SaysAll, SaysFront}
use Rattle.boxes_main.specs.declared.giving.Cut.{Cut}

-- what giving a text does, by its answer: all of it went out, or a front of it, and then a give failed
abbrev pub GivesText : {A : Type 0} → List ℕ → Result A Cut → Course → Course → Type 0
GivesText text (Ok all) old new = SaysAll text old new
GivesText text (Err cut) old new = (gone : ℕ) × SaysFront text gone old new
