-- What the store keeps: the entries that were recorded, and the state that they make.
use Rattle.std.specs.Prelude.{◌≡◌, ℕ, ⊤, List, [], ◌∷◌, ◌++◌, length, map}
use Rattle.gate_entries.specs.declared.recorded.Recorded.{Recorded}
use Rattle.gate_entries.specs.Entry.{entry_octets}
use Rattle.gate_model.specs.Fold.{after, does, recorded}
use Rattle.gate_model.specs.Loading.{ComesNext, IsOutside}
use Rattle.gate_model.specs.State.{State, empty}
use Rattle.route_rules.specs.declared.rules.Rules.{Rules}
use Rattle.store_journal.specs.Area.{Standing, unborn, born, foreign, gate_place}
use Rattle.store_disk.specs.declared.area.Area.{Area}

-- the payloads that entries are kept as, in their order
abbrev pub payloads : List Recorded → List (List ℕ)
payloads entries = map entry_octets entries

-- a store under these rules in which nothing was recorded
abbrev pub start : Rules → State
start rules = empty (length rules.links)

-- the state that entries make of it, in the store of this birth
abbrev pub state_of : (birth : ℕ) → Rules → List Recorded → State
state_of birth rules entries = after birth (start rules) (map recorded entries)

-- each entry is one that may come next in the state that those before it left
abbrev pub AreInTurn : (birth : ℕ) → State → List Recorded → Type 0
AreInTurn birth state [] = ⊤
AreInTurn birth state (kept ∷ entries) = ComesNext state (entry_octets kept) kept × AreInTurn birth (does birth state (recorded kept)) entries

-- areas that stand so are the store of this birth with these entries; one that isn't born has none
abbrev pub StandsFor : Standing → ℕ → List Recorded → Type 0
StandsFor unborn birth entries = entries ≡ []
StandsFor (born birth_there area there) birth entries = (birth_there ≡ birth) × (there ≡ payloads entries)
StandsFor (foreign area at) birth entries = ⊥

-- Behind entries in their turn stands a payload that is none which may come next. Its gate is the first place that doesn't fit.
pub record StopsAt (birth : ℕ) (rules : Rules) (there : List (List ℕ)) (at : ℕ) : Type 0 where
  pub entries : List Recorded
  pub payload : List ℕ
  pub rest : List (List ℕ)
  pub split : there ≡ payloads entries ++ payload ∷ rest
  pub in_turn : AreInTurn birth (start rules) entries
  pub outside : IsOutside payload (state_of birth rules entries)
  pub place : at ≡ gate_place (payloads entries)

-- areas that stand so are no store, from this place of this area on: it is outside a journal's grammar, or the gate of a payload that is no
-- entry which may come next
abbrev pub IsForeign : Rules → Standing → Area → ℕ → Type 0
IsForeign rules unborn area at = ⊥
IsForeign rules (born birth area_there there) area at = (area ≡ area_there) × StopsAt birth rules there at
IsForeign rules (foreign area_there at_there) area at = (area ≡ area_there) × (at ≡ at_there)
