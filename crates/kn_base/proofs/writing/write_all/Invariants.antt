use Rattle.std.proofs.Common.{length, take, ◌-◌, ◌≤◌}
use Rattle.kn_base.specs.Talk.{SaysAll}
use Rattle.kn_base.proofs.writing.write_all.Given as goal

-- the first octets have gone out
abbrev pub invariant-loop-gone : goal.invariant-loop-gone
invariant-loop-gone g l =
    let course = g.S.Meter.course in
    (l.gone ≤ length l.bytes) × SaysAll (take l.gone l.bytes) (course l.initial.sink) (course l.sink)

abbrev pub decreases-loop-gone : goal.decreases-loop-gone
decreases-loop-gone g l = length l.bytes - l.gone
