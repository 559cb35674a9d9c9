use Rattle.std.proofs.Common.{Result, subst}
use Rattle.gate_model.specs.Gate.{entry_of}
use Rattle.store_disk.specs.declared.disk.DiskFailed.{DiskFailed}
use Rattle.gate_store.specs.StoreSteps.{Settles}
use Rattle.gate_store.proofs.Composing.{commits_not, commits_behind}
use Rattle.gate_store.proofs.store.Store.repair_and_append.Goals as goal

pub returns-in-Err : goal.returns-in-Err
returns-in-Err g c =
    let meaning = g.D.Disk.meaning in
    let old = c.args.self.now in
    let P : Result (Unit {0}) DiskFailed → Type 0 = λ r. Settles meaning old r c.repair.new.self in
    commits_not meaning old c.repair.new.self c.repair.new.self (entry_of c.args.ready) c.in-Err.failed (subst P c.in-Err.is c.repair.ensures)

pub append-requires-clause-kept : goal.append-requires-clause-kept
append-requires-clause-kept g c =
    let kept = c.requires.kept in
    (kept.0, kept.1, c.repair.ensures.holds kept.0 kept.1 kept.2)

pub returns-in-Ok : goal.returns-in-Ok
returns-in-Ok g c =
    let meaning = g.D.Disk.meaning in
    let old = c.args.self.now in
    let P : Result (Unit {0}) DiskFailed → Type 0 = λ r. Settles meaning old r c.repair.new.self in
    commits_behind meaning old c.repair.new.self c.append.new.self (entry_of c.args.ready) tt c.append.result (subst P c.in-Ok.is c.repair.ensures) c.append.ensures
