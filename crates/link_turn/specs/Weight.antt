-- How much a session has still to do by itself, and what its end comes of. By these a turn comes to its end, and for its cause.
use Rattle.std.specs.Prelude.{◌≡◌, ⊤, ℕ, ◌+◌, ◌*◌, ◌<◌, ◌≤◌, Bool, length, Option, Some, None, IfSome, Result, Ok, Err, if◌then◌else◌}
use Rattle.gate_model.specs.declared.reply.Refusal.{Refusal}
use Rattle.gate_store.specs.declared.taken.Taken.{Taken}
use Rattle.link_turn.specs.declared.end_cause.EndCause.{EndCause}
use Rattle.link_turn.specs.declared.end_cause.EndCause.TheVariants as end_is
use Rattle.link_turn.specs.declared.given.Given.{Given}
use Rattle.link_turn.specs.declared.given.Given.TheVariants as given_is
use Rattle.link_turn.specs.declared.session.Phase.{Phase}
use Rattle.link_turn.specs.declared.session.Phase.TheVariants.{Fresh, Listening, ComingUp, GivingBack, Taking, Leaving, Done}
use Rattle.link_turn.specs.declared.session.Phase.TheVariants as phase_is
use Rattle.link_turn.specs.declared.session.Saying.{Saying}
use Rattle.link_turn.specs.declared.session.Saying.TheVariants as saying_is
use Rattle.link_turn.specs.declared.session.Session.{Session}
use Rattle.link_turn.specs.declared.wish.Wish.{Wish}
use Rattle.link_turn.specs.declared.wish.Wish.TheVariants as wish_is

-- ---- how much there is to do

-- one, where it holds
abbrev pub one_if : Bool → ℕ
one_if holds = if holds then 1 else 0

-- one, where the store may still be asked for a message
abbrev pub one_unless : Bool → ℕ
one_unless searched = if searched then 0 else 1

-- one, where there is a message
abbrev pub count_of : Option ℕ → ℕ
count_of None = 0
count_of (Some message) = 1

-- how much more there is to do with what it says: a message may be taken in among those that it holds
abbrev pub weight_saying : Saying → ℕ
weight_saying (saying_is.Submit tag message) = 4
weight_saying (saying_is.Login tag) = 3
weight_saying saying_is.Answer = 3
weight_saying saying_is.Farewell = 3
weight_saying saying_is.Keep = 3

-- Something has passed. A message that is given back weighs three more, since it may be taken again.
abbrev pub GetsLighterBehind : Phase → (old new : ℕ) → Type 0
GetsLighterBehind (GivingBack message) old new = new + 3 < old
GetsLighterBehind ComingUp old new = new < old
GetsLighterBehind (Leaving cause one) old new = new < old
GetsLighterBehind phase old new = ⊤

-- The store answered to the wish for a message. One that is taken weighs three less, since the store has one less that may be taken.
abbrev pub GetsLighterByTaken : Result (Option Taken) Refusal → (old new : ℕ) → Type 0
GetsLighterByTaken (Ok None) old new = new < old
GetsLighterByTaken (Ok (Some taken)) old new = new < old + 3
GetsLighterByTaken (Err refusal) old new = new < old

module _ {C : Type 0} where
  -- What it has to do whatever it does at the moment: octets that it keeps may become frames, the store may still be asked, and at the end
  -- what it holds is given back and the link goes down.
  abbrev pub load : Session C → ℕ
  load session = 8 * length session.kept + 2 * one_unless session.searched + length session.in_use.items + one_if session.up

  -- what it has to do once it leaves: what it holds is given back, with this message that has no tag, if there is one, and the link goes down
  abbrev pub weight_left : Option ℕ → Session C → ℕ
  weight_left one session = length session.in_use.items + count_of one + one_if session.up

  -- the same in each phase: a thing weighs more than what may come behind it
  abbrev pub weight_in : Phase → Session C → ℕ
  weight_in Done session = 0
  weight_in (Leaving cause one) session = weight_left one session + 1
  weight_in Listening session = load session + 2
  weight_in Taking session = load session + 2
  weight_in (phase_is.Saying saying) session = load session + weight_saying saying
  weight_in (phase_is.Recording recording) session = load session + 5
  weight_in ComingUp session = load session + 6
  weight_in (GivingBack message) session = load session + 7
  weight_in Fresh session = load session + 8

  abbrev pub weight : Session C → ℕ
  weight session = weight_in session.phase session

  -- what it has to do behind a frame: it wished something, or it goes on
  abbrev pub WeighsThen : Option Wish → Session C → Session C → Type 0
  WeighsThen None old new = load new ≤ load old
  WeighsThen (Some wish) old new = weight new ≤ load old + 7

  -- It has less to do by what it was given, but for what it hears.
  abbrev pub GetsLighter : Session C → Given → Session C → Type 0
  GetsLighter old given_is.Begin new = ⊤
  GetsLighter old (given_is.Heard octets) new = ⊤
  GetsLighter old given_is.Quiet new = ⊤
  GetsLighter old given_is.End new = weight new < weight old
  GetsLighter old given_is.Fault new = weight new < weight old
  GetsLighter old given_is.Said new = weight new < weight old
  GetsLighter old given_is.SayFault new = weight new < weight old
  GetsLighter old given_is.Starved new = weight new < weight old
  GetsLighter old (given_is.Answered outcome) new = weight new < weight old
  GetsLighter old given_is.Passed new = GetsLighterBehind old.phase (weight old) (weight new)
  GetsLighter old (given_is.Taken outcome) new = GetsLighterByTaken outcome (weight old) (weight new)
  GetsLighter old given_is.Stop new = weight new < weight old

-- ---- what its end comes of

-- the cause for which a session leaves or is over, where it does
abbrev pub cause_in : Wish → Phase → Option EndCause
cause_in (wish_is.Over cause) phase = Some cause
cause_in wish (Leaving cause one) = Some cause
cause_in wish phase = None

-- a cause that a session comes to by itself: neither by its peer nor because it is told to stop
abbrev pub IsOwn : EndCause → Type 0
IsOwn end_is.PeerEnd = ⊥
IsOwn end_is.PeerFault = ⊥
IsOwn (end_is.LoginRefused code) = ⊤
IsOwn (end_is.BadFrame at code) = ⊤
IsOwn (end_is.NoReply tag sent now) = ⊤
IsOwn end_is.Disk = ⊤
IsOwn end_is.Full = ⊤
IsOwn end_is.Memory = ⊤
IsOwn end_is.Bye = ⊤
IsOwn end_is.Closed = ⊥
IsOwn (end_is.Budget taken) = ⊥
IsOwn (end_is.QuietLimit turns) = ⊥

module _ {C : Type 0} where
  -- it leaves or is over, for this cause
  abbrev pub EndsFor : EndCause → Wish → Session C → Type 0
  EndsFor cause wish session = cause_in wish session.phase ≡ Some cause

  -- where it ends, it does so by itself
  abbrev pub EndsItself : Wish → Session C → Type 0
  EndsItself wish session = IfSome (cause_in wish session.phase) IsOwn

  -- the same, where it wishes something
  abbrev pub EndsItselfThen : Option Wish → Session C → Type 0
  EndsItselfThen None session = ⊤
  EndsItselfThen (Some wish) session = EndsItself wish session

  -- something has passed: a session that was leaving leaves for the same cause still
  abbrev pub EndsBehind : Phase → Wish → Session C → Type 0
  EndsBehind (Leaving cause one) wish session = EndsFor cause wish session
  EndsBehind phase wish session = EndsItself wish session

  -- what its end comes of, by what it was given
  abbrev pub EndsBy : Session C → Given → Wish → Session C → Type 0
  EndsBy old given_is.End wish new = EndsFor end_is.PeerEnd wish new
  EndsBy old given_is.Fault wish new = EndsFor end_is.PeerFault wish new
  EndsBy old given_is.SayFault wish new = EndsFor end_is.PeerFault wish new
  EndsBy old given_is.Starved wish new = EndsFor end_is.Memory wish new
  EndsBy old given_is.Stop wish new = EndsFor end_is.Closed wish new
  EndsBy old given_is.Passed wish new = EndsBehind old.phase wish new
  EndsBy old given wish new = EndsItself wish new
