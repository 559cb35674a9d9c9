use Rattle.std.proofs.Common.{drop, arith}
use Rattle.kn_base.proofs.MemPeers.{front_rest, ready_at, left_none}
use Rattle.kn_base.proofs.mem_peer.MemPeer.leave_used_up.Goals as goal

pub returns-then-self-len-clause-none : goal.returns-then-self-len-clause-none
returns-then-self-len-clause-none c =
    let p = c.loop-octets.self in
    let first = c.in-Some-Bytes in
    let front = front_rest p.answers.items first.field-0.now first.octets first.ensures.item.3.0 first.ensures.lookup first.field-0-is in
    left_none p.at p.answers.items (ready_at p.at first.octets p.answers.items (drop 1 p.answers.items) front (omega arith))
