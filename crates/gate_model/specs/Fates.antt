-- What becomes of messages.
use Rattle.std.specs.Prelude.{◌≡◌, ◌↔◌, ◌⊎◌, ℕ, ◌+◌, ◌<◌, ◌≤◌, ◌==◌, Bool, false, List, [], ◌∷◌, count_by, ⊤, if◌then◌else◌}
use Rattle.std.specs.Option.{option_map_or}
use Rattle.route_rules.specs.declared.rules.Rules.{Rules}
use Rattle.gate_entries.specs.Entry.{ended_message}
use Rattle.gate_entries.specs.declared.cause.Cause.{Cause}
use Rattle.gate_entries.specs.declared.recorded.Recorded.{Recorded}
use Rattle.gate_entries.specs.declared.recorded.Recorded.TheVariants as entry
use Rattle.gate_model.specs.Lawful.{IsLawful, IsSound}
use Rattle.gate_model.specs.State.{State, totals_of}
use Rattle.gate_model.specs.declared.totals.Totals.{Totals}
use Rattle.gate_model.specs.Fold.{Entry, recorded, passing, does, after}
use Rattle.gate_model.specs.Numbers.{Has}

-- a message was taken by its centre, or given up for a cause, or is still stored
pub data Fate : Type 0 where
  taken : Fate
  given_up : Cause → Fate
  stored : Fate

-- the entries are lawful, each in the state that those before it left
abbrev pub AreLawful : (birth : ℕ) → Rules → State → List Entry → Type 0
AreLawful birth rules state [] = ⊤
AreLawful birth rules state (entry ∷ entries) = IsLawful rules state entry × AreLawful birth rules (does birth state entry) entries

-- an entry that a store keeps is sound; of one that passes nothing is asked
abbrev pub IsSoundIn : State → Entry → Type 0
IsSoundIn state (recorded kept) = IsSound state kept
IsSoundIn state (passing brief) = ⊤

-- the entries are sound, each in the state that those before it left
abbrev pub AreSound : (birth : ℕ) → State → List Entry → Type 0
AreSound birth state [] = ⊤
AreSound birth state (entry ∷ entries) = IsSoundIn state entry × AreSound birth (does birth state entry) entries

-- what becomes of a message by an entry that ends one, and else
abbrev pub ended_by : (message : ℕ) → Recorded → Fate → Fate
ended_by message (entry.Acked acked) fate = if acked.message == message then taken else fate
ended_by message (entry.Rejected rejected) fate = if rejected.message == message then given_up rejected.cause else fate
ended_by message other fate = fate

-- what becomes of a message by entries
abbrev pub fate : List Entry → (message : ℕ) → Fate
fate [] message = stored
fate (recorded kept ∷ entries) message = ended_by message kept (fate entries message)
fate (passing brief ∷ entries) message = fate entries message

-- an entry ends this message
abbrev pub is_end_of : (message : ℕ) → Entry → Bool
is_end_of message (recorded kept) = option_map_or (λ ended. ended == message) (ended_message kept) false
is_end_of message (passing brief) = false

-- each message that was accepted was taken, given up, or waits
abbrev pub AddUp : Totals → Type 0
AddUp totals = totals.accepted ≡ totals.acked + totals.rejected + totals.waiting

abbrev pub IsCounted : State → Type 0
IsCounted state = AddUp (totals_of state)

-- a message waits before the entries, or they accept it
abbrev pub IsKnown : (birth : ℕ) → State → List Entry → (message : ℕ) → Type 0
IsKnown birth state entries message = Has state.waiting message ⊎ ((state.last_message < message) × (message ≤ (after birth state entries).last_message))

-- The law of fates: no message ends twice; one that is known is stored exactly where it still waits; and all of them are counted.
pub record HaveFates (birth : ℕ) (state : State) (entries : List Entry) : Type 0 where
  pub once : (message : ℕ) → count_by (is_end_of message) entries ≤ 1
  pub stored : (message : ℕ) → IsKnown birth state entries message → ((fate entries message ≡ stored) ↔ Has (after birth state entries).waiting message)
  pub counted : IsCounted (after birth state entries)
