use Rattle.std.proofs.Common.{sym, subst, length}
use Rattle.kn_base.specs.Count.{Counts}
use Rattle.kn_base.specs.Course.{Says}
use Rattle.fake_centre.specs.CentrePeer.{counts_of, told_course}
use Rattle.fake_centre.proofs.CentrePeers.{said_now}
use Rattle.fake_centre.proofs.centre_peer.CentrePeerSink.give.Goals as goal

pub returns-in-Ok-clause-gives : goal.returns-in-Ok-clause-gives
returns-in-Ok-clause-gives c =
    let p = c.args.self.now in
    let more = c.say.new.self.pieces.items in
    let octets = c.args.bytes.now in
    let P : Counts → Type 0 = λ counts. Says octets (length octets) (told_course (counts_of p) p.pieces.items) (told_course counts more) in
    subst P (sym c.in-Ok.ensures.counts) (said_now (counts_of p) p.pieces.items more octets c.requires c.in-Ok.ensures.ok)
