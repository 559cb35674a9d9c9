use Rattle.std.proofs.Common.{None, Ok, Err, refl}
use Rattle.gate_store.proofs.Committing.{repairs_as, repairs_few, settles_ok, settles_err}
use Rattle.gate_store.proofs.store.Store.repair.Goals as goal

pub returns-in-Err : goal.returns-in-Err
returns-in-Err g c =
    let meaning = g.D.Disk.meaning in
    let old = c.args.self.now in
    let r = c.repair in
    let new = record old { journal = r.new.self } in
    settles_err meaning old new c.requires.kept refl r.ensures.birth r.ensures.left r.ensures.reserved r.ensures.faults
    (repairs_few meaning old new c.requires.kept r.ensures.idle r.ensures.calls)
    c.in-Err.failed (repairs_as meaning old.journal r.new.self r.result (Err c.in-Err.failed) c.in-Err.is r.ensures.repaired) refl c.in-Err.ensures.failed

pub returns-in-Ok : goal.returns-in-Ok
returns-in-Ok g c =
    let meaning = g.D.Disk.meaning in
    let old = c.args.self.now in
    let r = c.repair in
    let new = record old { journal = r.new.self; unsure = None } in
    settles_ok meaning old new c.requires.kept refl r.ensures.birth r.ensures.left r.ensures.reserved r.ensures.faults
    (repairs_few meaning old new c.requires.kept r.ensures.idle r.ensures.calls)
    tt (repairs_as meaning old.journal r.new.self r.result (Ok tt) c.in-Ok.is r.ensures.repaired) refl c.in-Ok.ensures.unfailed
