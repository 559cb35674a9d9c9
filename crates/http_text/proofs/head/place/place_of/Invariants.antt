use Rattle.std.proofs.Common.{◌≡◌, drop}
use Rattle.http_text.specs.PlaceSteps.{place_from}
use Rattle.http_text.specs.declared.head.place.Place.TheVariants.{Blank}
use Rattle.http_text.proofs.head.place.place_of.Given as goal

-- the octets that are left lead to the same place
abbrev pub invariant-loop-octet : goal.invariant-loop-octet
invariant-loop-octet l = place_from Blank l.octets ≡ place_from l.place (drop l.octet-index l.octets)
