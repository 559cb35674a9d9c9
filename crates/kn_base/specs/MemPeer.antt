-- What a peer in memory has still to answer.
use Rattle.std.specs.Prelude.{ℕ, List, [], ◌∷◌, ◌<◌, length, drop}
use Rattle.kn_base.specs.Script.{with_octets, some_answers}
use Rattle.kn_base.specs.declared.mem_take.MemTake.{MemTake}
use Rattle.kn_base.specs.declared.mem_take.MemTake.TheVariants.{Bytes, Quiet}

-- the answers left, where so many octets of the first were taken
abbrev pub answers_left : ℕ → List MemTake → List MemTake
answers_left at [] = []
answers_left at (Bytes octets ∷ answers) = with_octets (drop at octets) (some_answers answers)
answers_left at (Quiet ∷ answers) = Quiet ∷ some_answers answers

-- how many octets the first answer has
abbrev pub front_len : List MemTake → ℕ
front_len [] = 0
front_len (Bytes octets ∷ answers) = length octets
front_len (Quiet ∷ answers) = 0

-- the first answer isn't used up
abbrev pub IsReady : ℕ → List MemTake → Type 0
IsReady at [] = Unit {0}
IsReady at (Bytes octets ∷ answers) = at < length octets
IsReady at (Quiet ∷ answers) = Unit {0}
