-- What a house in memory shows.
use Rattle.std.specs.Prelude.{ℕ, List, [], ◌∷◌, Some}
use Rattle.kn_base.specs.MemClock.{answers_of}
use Rattle.kn_base.specs.declared.mem_clock.MemClock.{MemClock}
use Rattle.kn_base.specs.declared.mem_peer.MemPeer.{MemPeer}
use Rattle.kn_base.specs.declared.mem_shelf.MemShelf.{MemShelf}
use Rattle.kn_base.specs.declared.meter.Meter.{Ghosts}
use Rattle.peer_dialer.specs.MemDialer.{peers_of, dials_of}
use Rattle.peer_dialer.specs.declared.mem_dialer.MemDialer.{MemDialer}
use Rattle.store_disk.specs.Story.{untold}
use Rattle.store_disk.specs.declared.mem_disk.MemDisk.{MemDisk}
use Rattle.boxes_main.specs.House.{Rooms, Stock}
use Rattle.boxes_main.specs.Disks.{disk_under, areas_in}
use Rattle.boxes_main.specs.declared.mem_house.MemHouse.{MemHouse}

-- the answers of the first of some clocks, and none where there is none
abbrev pub next_answers : List MemClock → List ℕ
next_answers [] = []
next_answers (clock ∷ clocks) = answers_of clock

module _ {P : Type 0} {meter : Ghosts P} where
  -- what it lends
  abbrev pub mem_rooms : MemHouse P meter → Rooms MemPeer MemShelf MemPeer MemPeer
  mem_rooms h = record { visitor = h.visitor; shelf = h.shelf; output = h.output; errors = h.errors }

  -- what it hands out
  abbrev pub mem_stock : MemHouse P meter → Stock
  mem_stock h = record { disks = λ name. untold (areas_in (disk_under name h.disks.items)); word = Some h.word; made = h.made }

  -- the clocks that it hasn't handed out
  abbrev pub clocks_of : MemHouse P meter → List MemClock
  clocks_of h = h.clocks.items

  -- the dialers that it hasn't handed out
  abbrev pub dialers_of : MemHouse P meter → List (MemDialer P meter)
  dialers_of h = h.dialers.items

  -- the disks that it hasn't handed out, by their names
  abbrev pub disks_of : MemHouse P meter → List (List ℕ × MemDisk)
  disks_of h = h.disks.items

  -- the peers of the first of some dialers, and none where there is none
  abbrev pub next_peers : List (MemDialer P meter) → List P
  next_peers [] = []
  next_peers (dialer ∷ dialers) = peers_of dialer

  -- the numbers of its dials that are to fail
  abbrev pub next_failing : List (MemDialer P meter) → List ℕ
  next_failing [] = []
  next_failing (dialer ∷ dialers) = (dials_of dialer).failing
