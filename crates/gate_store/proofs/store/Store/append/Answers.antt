use Rattle.std.proofs.Common.{Some, Ok, Err, refl, true, false, ap, sym, ◌∙◌}
use Rattle.gate_model.specs.Fold.{does, recorded}
use Rattle.gate_model.specs.Gate.{entry_of}
use Rattle.gate_store.specs.Store.{state_in}
use Rattle.gate_store.proofs.Committing.{appends_as, commits_ok, commits_err}
use Rattle.gate_store.proofs.store.Store.append.Goals as goal

pub returns-in-Ok : goal.returns-in-Ok
returns-in-Ok g c =
    let meaning = g.D.Disk.meaning in
    let old = c.args.self.now in
    let a = c.append in
    let new = record old { journal = a.new.self; gate = c.apply.new.self } in
    commits_ok meaning old new (entry_of c.args.ready) c.requires.kept c.requires.sure c.requires.reserved c.requires.may c.requires.few
    c.apply.ensures.rules a.ensures.birth a.ensures.ended c.apply.new.self.whole a.ensures.faults a.ensures.calls
    tt c.apply.result (appends_as meaning old.journal a.new.self a.result (Ok tt) c.in-Ok.is a.ensures.appended) c.requires.sure (c.apply.ensures.state ∙ ap (λ b. does b (state_in old) (recorded (entry_of c.args.ready))) c.requires.born) c.apply.ensures.reply c.in-Ok.ensures.unfailed

pub returns-then-unsure : goal.returns-then-unsure
returns-then-unsure g c =
    let meaning = g.D.Disk.meaning in
    let old = c.args.self.now in
    let a = c.append in
    let new = record old { journal = a.new.self; unsure = Some c.into_entry.result } in
    commits_err meaning old new (entry_of c.args.ready) c.requires.kept c.requires.sure c.requires.reserved c.requires.may c.requires.few
    refl a.ensures.birth a.ensures.ended c.requires.kept.2.whole a.ensures.faults a.ensures.calls
    c.in-Err.failed true (appends_as meaning old.journal a.new.self a.result (Err c.in-Err.failed) c.in-Err.is a.ensures.appended) (sym c.unsure.ensures ∙ c.if-unsure.true) (ap Some c.into_entry.ensures) refl c.in-Err.ensures.failed

pub returns-else-unsure : goal.returns-else-unsure
returns-else-unsure g c =
    let meaning = g.D.Disk.meaning in
    let old = c.args.self.now in
    let a = c.append in
    let new = record old { journal = a.new.self } in
    commits_err meaning old new (entry_of c.args.ready) c.requires.kept c.requires.sure c.requires.reserved c.requires.may c.requires.few
    refl a.ensures.birth a.ensures.ended c.requires.kept.2.whole a.ensures.faults a.ensures.calls
    c.in-Err.failed false (appends_as meaning old.journal a.new.self a.result (Err c.in-Err.failed) c.in-Err.is a.ensures.appended) (sym c.unsure.ensures ∙ c.if-unsure.false) c.requires.sure refl c.in-Err.ensures.failed
