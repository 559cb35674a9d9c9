-- What a dialer in memory tells, and what its dials are to answer.
use Rattle.std.specs.Prelude.{◌≡◌, ◌≢◌, ℕ, List, [], ◌∷◌, length, Some}
use Rattle.kn_base.specs.Calls.{Calls, IsFailing}
use Rattle.kn_base.specs.Count.{next_count}
use Rattle.kn_base.specs.declared.meter.Meter.{Ghosts}
use Rattle.peer_dialer.specs.Dealings.{Dealings}
use Rattle.peer_dialer.specs.Told.{dials_in, pasts_in}
use Rattle.peer_dialer.specs.declared.dialer.Dialed.{Dialed}
use Rattle.peer_dialer.specs.declared.dialer.Dialed.TheVariants as dial_is
use Rattle.peer_dialer.specs.declared.mem_dialer.MemDialer.{MemDialer}

module _ {P : Type 0} {meter : Ghosts P} where
  -- all is told, but what no memory was found for
  abbrev pub mem_dealings : MemDialer P meter → Dealings
  mem_dealings d = record {
    faults = d.faults;
    given = d.given;
    left = Some (length d.peers.items);
    dials = dials_in d.told;
    pasts = pasts_in d.told;
  }

  -- the peers that are still to be given, in their order
  abbrev pub peers_of : MemDialer P meter → List P
  peers_of d = d.peers.items

  -- its dials, and which of them are to fail
  abbrev pub dials_of : MemDialer P meter → Calls
  dials_of d = d.calls

-- before the first dial, with so many peers
abbrev pub fresh_dealings : ℕ → Dealings
fresh_dealings count = record { faults = 0; given = 0; left = Some count; dials = Some []; pasts = Some [] }

-- A dial gives the next peer, unless it is to fail. Without peers left it is Gone, whether it is to fail or not.
abbrev pub AnswersDial : {P : Type 0} → Calls → Dialed P → List P → List P → Type 0
AnswersDial calls (dial_is.Peer peer) old new = (¬ IsFailing calls) × (old ≡ peer ∷ new)
AnswersDial calls dial_is.Failed old new = (old ≢ []) × (new ≡ old)
AnswersDial calls dial_is.Gone old new = (old ≡ []) × (new ≡ [])

-- how many dials failed, after one with this answer
abbrev pub faults_after : {P : Type 0} → Dialed P → ℕ → ℕ
faults_after (dial_is.Peer peer) faults = faults
faults_after dial_is.Failed faults = next_count faults
faults_after dial_is.Gone faults = faults
