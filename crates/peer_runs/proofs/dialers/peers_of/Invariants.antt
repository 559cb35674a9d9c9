use Rattle.std.proofs.Common.{All}
use Rattle.kn_base.specs.Course.{IsFresh}
use Rattle.kn_base.specs.MemCourse.{mem_course}
use Rattle.peer_runs.proofs.dialers.peers_of.Given as goal

-- each has made no call
abbrev pub invariant-loop-word : goal.invariant-loop-word
invariant-loop-word l = All (λ peer. IsFresh (mem_course peer)) l.peers.items
