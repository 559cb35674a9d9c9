use Rattle.fake_centre.specs.CentrePeer.{counts_of}
use Rattle.fake_centre.proofs.CentrePeers.{hears_now}
use Rattle.fake_centre.proofs.centre_peer.CentrePeerSource.take.Goals as goal

pub returns-in-Ok : goal.returns-in-Ok
returns-in-Ok c =
    let p = c.args.self.now in
    record {
      so = hears_now (counts_of p) c.in-Ok.count p.pieces.items c.hear.new.pieces.items c.hear.new.into c.in-Ok.ensures.some c.in-Ok.ensures.within c.in-Ok.ensures.ok;
      for_ever = λ ended. cc (c.if-self.false);
    }
