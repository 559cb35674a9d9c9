use Rattle.std.proofs.Common.{List, ℕ, None, refl, sym, ◌∙◌, subst}
use Rattle.gate_model.specs.Loading.{birth_in, loaded, IsTaken}
use Rattle.store_journal.specs.Journal.{left}
use Rattle.gate_store.proofs.Loading.{HasLoaded-nil, HasLoaded-more, handed_first, loads_all, moved_on}
use Rattle.gate_store.specs.declared.store.Store.{Store}
use Rattle.gate_store.proofs.store.entries.load.Goals as goal

pub loop-payload-init : goal.loop-payload-init
loop-payload-init g c =
    HasLoaded-nil g.D.Disk.meaning c.args.rules c.args.journal c.in-Ok.loader c.requires.journal c.requires.gate c.in-Ok.loader.gate.whole c.in-Ok.ensures.rules c.in-Ok.ensures.state (c.in-Ok.ensures.birth ∙ c.birth.ensures)

pub loop-payload-preserved : goal.loop-payload-preserved
loop-payload-preserved g c =
    let payload = c.in-Ok-Some.payload in
    let now = c.loop-payload.journal in
    let next = c.next.new.self in
    HasLoaded-more g.D.Disk.meaning c.args.rules c.args.journal now next c.loop-payload.loader c.put.new.self payload c.loop-payload.invariant
    (handed_first (left now) (left next) c.in-Ok-Some.field-0 payload c.in-Ok-Some.ensures.next c.in-Ok-Some.field-0-is)
    c.next.ensures.same c.next.ensures.disk c.next.ensures.area
    (moved_on now next c.in-Ok-Some.field-0 payload c.in-Ok-Some.ensures.gate c.in-Ok-Some.field-0-is).1
    (subst (λ (p : List ℕ). IsTaken (birth_in c.loop-payload.loader) p (loaded c.loop-payload.loader) (loaded c.put.new.self)) c.as_slice.ensures c.in-Ok-put.ensures.taken)
    c.put.new.self.gate.whole c.put.ensures.rules c.put.ensures.birth

pub returns-clause-ok : goal.returns-clause-ok
returns-clause-ok g c =
    let now = c.loop-payload.journal in
    let next = c.next.new.self in
    let store : Store g.row.D.Denot = record { alloc = c.args.alloc; journal = next; gate = c.in-Some.gate; unsure = None } in
    loads_all g.D.Disk.meaning c.args.rules c.args.journal now next c.loop-payload.loader store c.in-Ok-None.field-0 c.loop-payload.invariant
    c.in-Ok-None.ensures.next c.in-Ok-None.field-0-is c.next.ensures.same c.next.ensures.disk c.next.ensures.birth refl (sym c.in-Some.is ∙ c.whole.ensures) refl
