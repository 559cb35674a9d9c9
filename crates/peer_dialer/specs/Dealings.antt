-- What a dialer has dealt with so far, as far as it tells that.
use Rattle.std.specs.Prelude.{◌≡◌, ℕ, zero, suc, ◌≤◌, List, [], ◌∷◌, ◌++◌, Option, Some, None, IfSome}
use Rattle.kn_base.specs.Count.{Rose, next_count}
use Rattle.kn_base.specs.Course.{Course, IsFresh}
use Rattle.peer_dialer.specs.Closed.{IsClosed}
use Rattle.peer_dialer.specs.declared.asked.Asked.{Asked}
use Rattle.peer_dialer.specs.declared.closed.Closed.{Closed}
use Rattle.peer_dialer.specs.declared.dialer.Dialed.{Dialed}
use Rattle.peer_dialer.specs.declared.dialer.Dialed.TheVariants as dial_is

-- How many dials failed, and how many gave a peer. Each where it is told: how many peers are left, what was asked for, and what became of the
-- peers that came back.
pub record Dealings : Type 0 where
  pub faults : ℕ
  pub given : ℕ
  pub left : Option ℕ
  pub dials : Option (List Asked)
  pub pasts : Option (List Closed)

-- a host and a port
abbrev pub asked_for : List ℕ → ℕ → Asked
asked_for host port = record { host = host; port = port }

-- where a list is told now, it was told before, and this was put last
abbrev pub Adds : {A : Type 0} → A → Option (List A) → Option (List A) → Type 0
Adds {A} item old new = IfSome new (λ now. (before : List A) × (old ≡ Some before) × (now ≡ before ++ item ∷ []))

-- where a list is told now, it was told before, and is the same
abbrev pub Stays : {A : Type 0} → Option (List A) → Option (List A) → Type 0
Stays old new = IfSome new (λ now. old ≡ Some now)

-- What was asked for was put last, and no past. A dialer that can't tell what was asked for tells no pasts either.
pub record KeepsDial (asked : Asked) (old new : Dealings) : Type 0 where
  pub dials : Adds asked old.dials new.dials
  pub pasts : Stays old.pasts new.pasts
  pub together : new.dials ≡ None → new.pasts ≡ None

-- one peer less is left, where that is told
abbrev pub OneLess : Option ℕ → Option ℕ → Type 0
OneLess None new = new ≡ None
OneLess (Some zero) new = ⊥
OneLess (Some (suc rest)) new = new ≡ Some rest

-- A peer was given that has made no call.
pub record GivesPeer (course : Course) (old new : Dealings) : Type 0 where
  pub fresh : IsFresh course
  pub left : OneLess old.left new.left
  pub same : new ≡ record old { given = next_count old.given; left = new.left; dials = new.dials; pasts = new.pasts }

-- A fault was counted, and no peer used up. It comes only where one is left.
pub record FailsToDial (old new : Dealings) : Type 0 where
  pub some : old.left ≡ Some 0 → ⊥
  pub cause : Rose old.faults new.faults
  pub kept : old.faults ≤ new.faults
  pub same : new ≡ record old { faults = new.faults; dials = new.dials; pasts = new.pasts }

-- No peer was left.
pub record IsGone (old new : Dealings) : Type 0 where
  pub none : old.left ≡ Some 0
  pub same : new ≡ record old { dials = new.dials; pasts = new.pasts }

-- what a dial does, by its answer
abbrev pub DialsSo : {P : Type 0} → (P → Course) → Dialed P → Dealings → Dealings → Type 0
DialsSo course (dial_is.Peer peer) old new = GivesPeer (course peer) old new
DialsSo course dial_is.Failed old new = FailsToDial old new
DialsSo course dial_is.Gone old new = IsGone old new

-- A dial.
pub record Dials {P : Type 0} (course : P → Course) (host : List ℕ) (port : ℕ) (answer : Dialed P) (old new : Dealings) : Type 0 where
  pub so : DialsSo course answer old new
  pub keeps : KeepsDial (asked_for host port) old new

-- A peer with this course came back: what it was is given, its counts always; where the pasts are told it was put last among them.
pub record Parts (course : Course) (result : Closed) (old new : Dealings) : Type 0 where
  pub closed : IsClosed course result
  pub pasts : Adds result old.pasts new.pasts
  pub same : new ≡ record old { pasts = new.pasts }
