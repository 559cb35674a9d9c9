-- The frames of a stream, as far as it was heard, and how it is heard in pieces.
use Rattle.std.specs.Prelude.{◌≡◌, ◌≢◌, List, [], ◌∷◌, ◌++◌, ℕ}
use Rattle.std.specs.List.{flat_map, AllByRecursion}
use Rattle.smpp_wire.specs.Command.{Command}
use Rattle.smpp_wire.specs.Grammar.{IsCommand, frame}

-- no frame stands at the front
abbrev pub HasNone : List ℕ → Type 0
HasNone octets = (command : Command) (behind : List ℕ) → IsCommand command → octets ≢ frame command ++ behind

-- the frames of these commands stand one after the other at the front, and behind them stands what holds no frame yet
pub record IsStream (octets : List ℕ) (commands : List Command) (rest : List ℕ) : Type 0 where
  pub good : AllByRecursion IsCommand commands
  pub parts : octets ≡ flat_map frame commands ++ rest
  pub none : HasNone rest

-- pieces that are heard one after the other, each behind what is kept of those before it, hold the frames of these commands, and leave a rest
abbrev pub AreHeard : List ℕ → List (List ℕ) → List Command → List ℕ → Type 0
AreHeard kept [] commands rest = (commands ≡ []) × (rest ≡ kept)
AreHeard kept (piece ∷ pieces) commands rest =
    (here : List Command) × (later : List Command) × (kept' : List ℕ) × IsStream (kept ++ piece) here kept' × AreHeard kept' pieces later rest × (commands ≡ here ++ later)

-- the octets of the pieces
abbrev pub joined : List (List ℕ) → List ℕ
joined pieces = flat_map (λ piece. piece) pieces
