use Rattle.std.proofs.Common.{◌++◌, take}
use Rattle.http_text.specs.Place.{EndsAt}
use Rattle.http_text.proofs.head.place.place_behind.Given as goal

-- the octets so far end there
abbrev pub invariant-loop-octet : goal.invariant-loop-octet
invariant-loop-octet l = EndsAt l.found (take l.before l.octets ++ take l.octet-index l.octet-items)
