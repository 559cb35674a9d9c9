use Rattle.std.proofs.Common.{◌≡◌, take}
use Rattle.route_rules.proofs.copies.copy_links.Given as goal

-- the copies so far
abbrev pub invariant-loop-link : goal.invariant-loop-link
invariant-loop-link l = l.copies ≡ take l.link-index l.links
