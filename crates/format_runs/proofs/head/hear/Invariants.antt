use Rattle.std.proofs.Common.{◌≤◌, ◌-◌, length, take}
use Rattle.http_text.specs.Place.{EndsAt}
use Rattle.format_runs.proofs.head.hear.Given as goal

-- the octets heard so far end there
abbrev pub invariant-loop-heard : goal.invariant-loop-heard
invariant-loop-heard l = record { within : l.heard ≤ length l.octets; place : EndsAt l.place (take l.heard l.octets) }

abbrev pub decreases-loop-heard : goal.decreases-loop-heard
decreases-loop-heard l = length l.octets - l.heard
