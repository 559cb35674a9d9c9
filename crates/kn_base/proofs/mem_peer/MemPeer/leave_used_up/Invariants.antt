use Rattle.std.proofs.Common.{◌≡◌, length}
use Rattle.kn_base.specs.MemCourse.{mem_course, mem_script}
use Rattle.kn_base.proofs.mem_peer.MemPeer.leave_used_up.Given as goal

abbrev pub invariant-loop-octets : goal.invariant-loop-octets
invariant-loop-octets l = (mem_course l.self ≡ mem_course l.initial.self) × (mem_script l.self ≡ mem_script l.initial.self)

abbrev pub decreases-loop-octets : goal.decreases-loop-octets
decreases-loop-octets l = length l.self.answers.items
