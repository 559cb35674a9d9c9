-- What a store's payloads are read as: the fold of their entries.
use Rattle.std.specs.Prelude.{◌≡◌, ℕ, ◌<◌, List}
use Rattle.gate_entries.specs.declared.recorded.Recorded.{Recorded}
use Rattle.gate_entries.specs.Entry.{IsEntry, entry_octets}
use Rattle.gate_model.specs.declared.loader.Loader.{Loader}
use Rattle.gate_model.specs.declared.gate.Gate.{Gate}
use Rattle.gate_model.specs.Fold.{does, recorded}
use Rattle.gate_model.specs.Gate.{model_of}
use Rattle.gate_model.specs.Lawful.{IsSound, most_entries}
use Rattle.gate_model.specs.State.{State}

-- A payload is an entry, and it may come next: it is sound, and fewer were recorded than ever may be.
pub record ComesNext (state : State) (payload : List ℕ) (kept : Recorded) : Type 0 where
  pub spelled : payload ≡ entry_octets kept
  pub sound : IsSound state kept
  pub few : state.entries < most_entries

-- A payload is an entry that comes next, and the state is what that makes of it.
pub record IsTaken (birth : ℕ) (payload : List ℕ) (old new : State) : Type 0 where
  pub kept : Recorded
  pub next : ComesNext old payload kept
  pub holds : new ≡ does birth old (recorded kept)

-- a payload is no entry at all
abbrev pub IsNoEntry : (payload : List ℕ) → Type 0
IsNoEntry payload = (kept : Recorded) → IsEntry kept → payload ≡ entry_octets kept → ⊥

-- a payload is no entry that may come next
abbrev pub IsOutside : (payload : List ℕ) → State → Type 0
IsOutside payload state = (kept : Recorded) → ComesNext state payload kept → ⊥

-- the gate that was read so far
abbrev pub gate_in : Loader → Gate
gate_in loader = loader.gate

abbrev pub loaded : Loader → State
loaded loader = model_of (gate_in loader)

-- the birth of the store that it is read for
abbrev pub birth_in : Loader → ℕ
birth_in loader = loader.birth
