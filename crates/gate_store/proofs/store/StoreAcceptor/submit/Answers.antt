use Rattle.std.proofs.Common.{List, ◌++◌, refl, sym, subst}
use Rattle.gate_entries.specs.declared.recorded.Recorded.TheVariants as entry
use Rattle.sms_record.specs.declared.sms.Sms.{Sms}
use Rattle.gate_store.specs.Deeds.{Performs, put_behind}
use Rattle.gate_store.specs.StoreSteps.{MayRecord}
use Rattle.gate_store.proofs.Handed.{handed_in}
use Rattle.gate_store.proofs.store.StoreAcceptor.submit.Goals as goal

pub perform-requires-clause-may : goal.perform-requires-clause-may
perform-requires-clause-may g c =
    subst (λ (parts : List Sms). MayRecord c.args.self.now (entry.Accept (record { time = c.args.time; parts = parts }))) (sym c.from_vec.ensures)
    (handed_in c.args.self.now c.args.parts.items c.args.time c.requires.fits)

pub returns-clause-deed : goal.returns-clause-deed
returns-clause-deed g c =
    let new = c.perform.new.self in
    let P : List Sms → Type 0 = λ parts.
    Performs g.D.Disk.meaning c.args.self.now (entry.Accept (record { time = c.args.time; parts = parts })) c.perform.result new in
    (new, subst P c.from_vec.ensures c.perform.ensures, refl)

pub returns-clause-ready : goal.returns-clause-ready
returns-clause-ready g c =
    let held = c.requires.ready in
    (held.0, held.1 ++ put_behind _ c.perform.result, c.perform.ensures.holds held.0 held.1 held.2)
