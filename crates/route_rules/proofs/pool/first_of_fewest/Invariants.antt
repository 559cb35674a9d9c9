use Rattle.std.proofs.Common.{◌≡◌, ◌<◌, drop, length, IfSome}
use Rattle.route_rules.specs.Routes.{first_of_fewest, numbers_from}
use Rattle.route_rules.specs.Steps.{fewer}
use Rattle.route_rules.proofs.pool.first_of_fewest.Given as goal

-- the best link so far, and the best of those that are left, give the best of all
abbrev pub invariant-loop-link : goal.invariant-loop-link
invariant-loop-link l =
    (first_of_fewest l.flight (numbers_from 0 l.least l.links l.up l.sms) ≡
    fewer l.flight l.best (first_of_fewest l.flight (numbers_from l.link l.least (drop l.link l.links) (drop l.link l.up) l.sms))) ×
    IfSome l.best (λ best. best < length l.flight)
