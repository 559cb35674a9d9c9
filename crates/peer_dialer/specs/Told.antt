-- What a dialer in memory keeps to be told, as lists.
use Rattle.std.specs.Prelude.{List, Option, None, Some, option_map}
use Rattle.peer_dialer.specs.declared.asked.Asked.{Asked}
use Rattle.peer_dialer.specs.declared.closed.Closed.{Closed}
use Rattle.peer_dialer.specs.declared.told.Told.{Told}

-- what was asked for
abbrev pub dials_in : Option Told → Option (List Asked)
dials_in told = option_map (λ (kept : Told). kept.dials.items) told

-- what became of the peers that came back
abbrev pub pasts_in : Option Told → Option (List Closed)
pasts_in None = None
pasts_in (Some kept) = option_map (λ pasts. pasts.items) kept.pasts
