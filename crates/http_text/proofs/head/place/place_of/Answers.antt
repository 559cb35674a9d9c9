use Rattle.std.proofs.Common.{◌≤◌, length, ap, ◌∙◌, subst, arith}
use Rattle.std.proofs.lemmas.List.{drop_all}
use Rattle.http_text.specs.Place.{EndsAt}
use Rattle.http_text.specs.PlaceSteps.{place_from}
use Rattle.http_text.proofs.PlaceWalk.{ends_at}
use Rattle.http_text.proofs.head.place.place_of.Goals as goal

pub returns : goal.returns
returns c =
    let octets = c.args.octets.now in
    let whole : length octets ≤ c.loop-octet.octet-index = omega arith in
    let place = c.loop-octet.invariant ∙ ap (place_from c.loop-octet.place) (drop_all c.loop-octet.octet-index octets whole) in
    subst (λ p. EndsAt p octets) place (ends_at octets c.requires)
