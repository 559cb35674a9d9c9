use Rattle.std.proofs.Common.{◌≡◌, []}
use Rattle.kn_base.proofs.MemPeers.{octets_of-answers_left-zero}
use Rattle.kn_base.proofs.mem_peer.MemPeer.new.Goals as goal

pub returns-clause-course : goal.returns-clause-course
returns-clause-course c =
    let items : c.from.result.items ≡ c.args.takes.items = c.from.ensures.0 in
    let none : c.new-2.result.items ≡ [] = c.new-2.ensures.items in
    rw (items, octets_of-answers_left-zero, none)
