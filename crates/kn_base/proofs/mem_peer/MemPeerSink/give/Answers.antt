use Rattle.kn_base.specs.MemCourse.{mem_counts}
use Rattle.kn_base.specs.MemPeer.{answers_left}
use Rattle.kn_base.proofs.MemPeers.{said_now}
use Rattle.kn_base.proofs.mem_peer.MemPeerSink.give.Goals as goal

pub returns-in-Ok-clause-gives : goal.returns-in-Ok-clause-gives
returns-in-Ok-clause-gives c =
    let p = c.args.self.now in
    said_now (mem_counts p) (answers_left p.at p.answers.items) p.pieces.items c.say.new.pieces.items c.args.bytes.now c.requires c.in-Ok.ensures.ok
