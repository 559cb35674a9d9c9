use Rattle.std.proofs.Common.{ap, sym, ◌∙◌, List, ℕ}
use Rattle.store_journal.specs.Opening.{IsFirstUnit}
use Rattle.store_journal.proofs.Units.{unit_shorter}
use Rattle.store_journal.proofs.area_text.behind_units.Goals as goal
use Rattle.store_journal.proofs.area_text.behind_units.Goals.{In-Some}

first : (c : In-Some) → IsFirstUnit c.units.rest.now c.in-Some._payload.now c.in-Some.behind.now
first c = rw c.in-Some.is at c.in_ok-_payload.ensures

pub units-smaller : goal.units-smaller
units-smaller c = unit_shorter c.units.rest.now c.in-Some._payload.now c.in-Some.behind.now (first c)

pub units-preserved : goal.units-preserved
units-preserved c = c.units.invariant ∙ (first c).rest

pub returns : goal.returns
returns c = sym (c.units.invariant ∙ ap (λ (found : List (List ℕ) × List ℕ). found.1) (rw c.in_default.is at c.in_ok-_payload.ensures))
