use Rattle.std.proofs.Common.{refl}
use Rattle.gate_store.proofs.Passing.{passed}
use Rattle.gate_store.proofs.store.Store.pass.Goals as goal

pub returns : goal.returns
returns g c =
    let meaning = g.D.Disk.meaning in
    let old = c.args.self.now in
    passed meaning old (record old { gate = c.pass.new.self }) c.args.entry refl c.pass.new.self.whole c.pass.ensures.rules c.pass.ensures.state
