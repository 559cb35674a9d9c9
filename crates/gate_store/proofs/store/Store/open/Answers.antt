use Rattle.std.proofs.Common.{sym, subst}
use Rattle.std.specs.Bool.{OnTrue}
use Rattle.store_journal.specs.Journal.{OpensOver}
use Rattle.std.proofs.lemmas.Result.{IfOk-weaker, IfErr-weaker}
use Rattle.gate_store.proofs.Opening.{opened_by, given_back, unopened}
use Rattle.gate_store.proofs.store.Store.open.Goals as goal

pub returns-in-Ok-clause-ok : goal.returns-in-Ok-clause-ok
returns-in-Ok-clause-ok g c =
    let j = c.in-Ok.ensures in
    IfOk-weaker c.load.result _ _
    (opened_by g.D.Disk.meaning c.args.disk c.args.rules c.args.birth c.in-Ok.journal j.stood j.stops j.unfailed j.calls)
    c.load.ensures.ok

pub returns-in-Ok-clause-err : goal.returns-in-Ok-clause-err
returns-in-Ok-clause-err g c =
    let j = c.in-Ok.ensures in
    IfErr-weaker c.load.result _ _
    (λ fault. given_back g.D.Disk.meaning c.args.disk c.args.rules c.args.birth c.in-Ok.journal j.stood j.stops j.unfailed j.calls
    j.untouched fault.0 fault.1)
    c.load.ensures.err

pub returns-in-Err-clause-err : goal.returns-in-Err-clause-err
returns-in-Err-clause-err g c =
    let j = c.in-Err.ensures in
    unopened g.D.Disk.meaning c.args.disk c.args.rules c.args.birth c.in-Err.disk c.in-Err.fault c.into.result c.into.ensures
    j.cause j.spared j.failed j.faults j.untouched_back j.stops_back j.calls_back

pub returns-in-Ok-clause-births : goal.returns-in-Ok-clause-births
returns-in-Ok-clause-births g c =
    IfOk-weaker c.load.result _ _
    (λ store loads. subst (λ disk. OnTrue g.D.Disk.meaning.tells (OpensOver c.args.birth (g.D.Disk.meaning.story c.args.disk) (g.D.Disk.meaning.story disk))) (sym loads.disk) c.in-Ok.ensures.stops)
    c.load.ensures.ok

pub returns-in-Ok-clause-births_back : goal.returns-in-Ok-clause-births_back
returns-in-Ok-clause-births_back g c =
    IfErr-weaker c.load.result _ _
    (λ fault none. subst (λ disk. OnTrue g.D.Disk.meaning.tells (OpensOver c.args.birth (g.D.Disk.meaning.story c.args.disk) (g.D.Disk.meaning.story disk))) (sym none.same) c.in-Ok.ensures.stops)
    c.load.ensures.err
