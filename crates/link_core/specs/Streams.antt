-- The frames of a stream, as far as it was heard, and how it is heard in pieces.
use Rattle.std.specs.Prelude.{◌≡◌, List, [], ◌∷◌, ◌++◌, ℕ}
use Rattle.std.specs.List.{flat_map}
use Rattle.link_core.specs.declared.heard.Heard.{Heard}
use Rattle.link_core.specs.Grammar.{IsFrame, HasFirst}

-- frames stand one after the other at the front, which say this in their order, and behind them stands a rest
abbrev pub AreFrames : (List ℕ → Heard → Type 0) → List ℕ → List Heard → List ℕ → Type 0
AreFrames hears octets [] rest = octets ≡ rest
AreFrames hears octets (heard ∷ later) rest =
    (frame : List ℕ) × (behind : List ℕ) × hears frame heard × (octets ≡ frame ++ behind) × AreFrames hears behind later rest

-- these are all of them: no frame stands at the front of the rest
pub record IsStream (hears : List ℕ → Heard → Type 0) (octets : List ℕ) (heard : List Heard) (rest : List ℕ) : Type 0 where
  pub frames : AreFrames hears octets heard rest
  pub none : ¬ HasFirst (IsFrame hears) rest

-- pieces that are heard one after the other, each behind what is kept of those before it, say this, and leave a rest
abbrev pub AreHeard : (List ℕ → Heard → Type 0) → List ℕ → List (List ℕ) → List Heard → List ℕ → Type 0
AreHeard hears kept [] heard rest = (heard ≡ []) × (rest ≡ kept)
AreHeard hears kept (piece ∷ pieces) heard rest =
    (here : List Heard) × (later : List Heard) × (kept' : List ℕ) × IsStream hears (kept ++ piece) here kept' × AreHeard hears kept' pieces later rest × (heard ≡ here ++ later)

-- the octets of the pieces
abbrev pub joined : List (List ℕ) → List ℕ
joined pieces = flat_map (λ piece. piece) pieces
