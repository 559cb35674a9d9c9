use Rattle.std.proofs.Common.{sym, subst}
use Rattle.std.specs.Bool.{OnTrue}
use Rattle.store_disk.specs.Disk.{Areas}
use Rattle.store_disk.specs.Story.{IsImage}
use Rattle.gate_store.specs.Reopening.{MayReopen, MayStandFor}
use Rattle.gate_store.specs.Store.{MayHoldLeft, birth_in, rules_in, state_in, unsure_in}
use Rattle.gate_store.proofs.Closing.{left_now}
use Rattle.gate_store.proofs.Recording.{stops_now}
use Rattle.gate_store.proofs.Standing.{stands_now}
use Rattle.gate_store.proofs.store.Store.close.Goals as goal

pub returns-clause-stands : goal.returns-clause-stands
returns-clause-stands g c = λ birth entries is.
    let store = c.args.self in
    subst (λ d. OnTrue g.D.Disk.meaning.tells ((image : Areas) → IsImage (g.D.Disk.meaning.story d) image → MayStandFor birth entries (unsure_in store) image)) (sym c.close.ensures.disk)
    (stands_now g.D.Disk.meaning store birth entries is)

pub returns-clause-stops : goal.returns-clause-stops
returns-clause-stops g c = λ birth entries is.
    let store = c.args.self in
    subst (λ d. OnTrue g.D.Disk.meaning.tells ((image : Areas) → IsImage (g.D.Disk.meaning.story d) image → MayReopen (birth_in store) (rules_in store) (state_in store) (unsure_in store) image)) (sym c.close.ensures.disk)
    (stops_now g.D.Disk.meaning store birth entries is)

pub returns-clause-left : goal.returns-clause-left
returns-clause-left g c = λ birth entries is.
    let store = c.args.self in
    subst (λ d. OnTrue g.D.Disk.meaning.tells ((image : Areas) → IsImage (g.D.Disk.meaning.story d) image
    → MayHoldLeft g.D.Disk.meaning (birth_in store) (rules_in store) (state_in store) (unsure_in store) image)) (sym c.close.ensures.disk)
    (left_now g.D.Disk.meaning store birth entries is)
