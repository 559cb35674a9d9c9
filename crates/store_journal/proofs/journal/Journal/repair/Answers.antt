use Rattle.std.proofs.Common.{refl, None}
use Rattle.store_journal.proofs.Kept.{repair_none, repair_closed, repair_failed}
use Rattle.store_journal.proofs.journal.Journal.repair.Goals as goal

pub returns-then-not-self-clause-repaired : goal.returns-then-not-self-clause-repaired
returns-then-not-self-clause-repaired g c = λ birth payloads unsure is. repair_none g.D.Disk.meaning c.args.self.now birth payloads unsure tt is c.if-not-self.true

pub returns-in_err-write_synced-clause-repaired : goal.returns-in_err-write_synced-clause-repaired
returns-in_err-write_synced-clause-repaired g c = λ birth payloads unsure is.
    (repair_failed g.D.Disk.meaning c.args.self.now _ birth payloads unsure c.from_residual.result _ c.from_residual.ensures.0 refl is c.if-not-self.false refl refl refl is.place refl refl refl
    c.in_err-write_synced.ensures.written).1

pub returns-in_err-write_synced-clause-kept : goal.returns-in_err-write_synced-clause-kept
returns-in_err-write_synced-clause-kept g c =
    let kept = c.requires.kept in
    let is = kept.3 in (
      kept.0,
      kept.1,
      kept.2,
      (repair_failed g.D.Disk.meaning c.args.self.now _ kept.0 kept.1 kept.2 c.from_residual.result _ c.from_residual.ensures.0 refl is c.if-not-self.false refl refl refl is.place refl refl refl
          c.in_err-write_synced.ensures.written).0,
    )

pub returns-clause-repaired : goal.returns-clause-repaired
returns-clause-repaired g c = λ birth payloads unsure is.
    repair_closed g.D.Disk.meaning c.args.self.now _ birth payloads unsure tt is c.if-not-self.false refl refl refl is.place refl refl refl c.in_ok-write_synced.ensures.written

pub returns-clause-kept : goal.returns-clause-kept
returns-clause-kept g c =
    let kept = c.requires.kept in
    let now = (returns-clause-repaired g c kept.0 kept.1 kept.2 kept.3).ok in
    (kept.0, kept.1, None, now)
