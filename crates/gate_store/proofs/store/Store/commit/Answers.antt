use Rattle.std.proofs.Common.{◌≡◌, ◌+◌, ◌<◌, Ok, Err, None, Result, refl, ap, sym, subst}
use Rattle.gate_model.specs.Gate.{entry_of}
use Rattle.gate_model.specs.Lawful.{refusal, most_entries}
use Rattle.gate_model.proofs.RefusalLemmas.{few_where_unrefused}
use Rattle.gate_model.specs.declared.reply.Refusal.TheVariants as refusal_is
use Rattle.gate_model.specs.declared.reply.Reply.{Reply}
use Rattle.store_disk.specs.declared.disk.DiskFailed.{DiskFailed}
use Rattle.gate_store.specs.Deeds.{repair_calls}
use Rattle.gate_store.specs.Store.{rules_in, state_in, unsure_in}
use Rattle.gate_store.specs.StoreSteps.{Commits}
use Rattle.gate_store.specs.declared.store.Store.{Store}
use Rattle.gate_store.proofs.Composing.{performs_ok, performs_err}
use Rattle.gate_store.proofs.Recording.{performed_on, unmoved}
use Rattle.gate_store.proofs.store.Store.commit.Goals as goal

pub returns-in-Err : goal.returns-in-Err
returns-in-Err g c =
    let meaning = g.D.Disk.meaning in
    let old = c.args.self.now in
    let mid = c.reserve.new.self in
    let r = c.reserve.ensures.reserves in
    let same = c.reserve.ensures.same in
    unmoved meaning old mid (entry_of c.args.ready) refusal_is.Memory refl c.requires.taken (ap rules_in same) r.born (ap state_in same) (ap unsure_in same) r.disk r.holds c.requires.kept

pub repair_and_append-requires-clause-kept : goal.repair_and_append-requires-clause-kept
repair_and_append-requires-clause-kept g c =
    let kept = c.requires.kept in
    (kept.0, kept.1, c.reserve.ensures.reserves.holds kept.0 kept.1 kept.2)

pub repair_and_append-requires-clause-few : goal.repair_and_append-requires-clause-few
repair_and_append-requires-clause-few g c =
    let old = c.args.self.now in
    let P : Store g.row.D.Denot → Type 0 = λ s. (state_in s).entries < most_entries in
    subst P (sym c.reserve.ensures.same) (few_where_unrefused (rules_in old) (state_in old) (entry_of c.args.ready) c.requires.taken)

pub returns-in-Ok : goal.returns-in-Ok
returns-in-Ok g c =
    let meaning = g.D.Disk.meaning in
    let old = c.args.self.now in
    let mid = c.reserve.new.self in
    let new = c.repair_and_append.new.self in
    let kept = entry_of c.args.ready in
    let r = c.reserve.ensures.reserves in
    let same = c.reserve.ensures.same in
    let P : Result Reply DiskFailed → Type 0 = λ x. Commits meaning (repair_calls (unsure_in mid) + 4) mid kept x new in
    let Q : Store g.row.D.Denot → Type 0 = λ s. refusal (rules_in s) (state_in s) kept ≡ None in
    performed_on meaning old mid new kept (Ok c.in-Ok.reply) (ap rules_in same) r.born (ap state_in same) (ap unsure_in same) r.disk r.holds
    (performs_ok meaning mid mid new kept c.in-Ok.reply (subst Q (sym same) c.requires.taken) (subst P c.in-Ok.is c.repair_and_append.ensures))

pub returns-in-Err-repair_and_append : goal.returns-in-Err-repair_and_append
returns-in-Err-repair_and_append g c =
    let meaning = g.D.Disk.meaning in
    let old = c.args.self.now in
    let mid = c.reserve.new.self in
    let new = c.repair_and_append.new.self in
    let kept = entry_of c.args.ready in
    let r = c.reserve.ensures.reserves in
    let same = c.reserve.ensures.same in
    let P : Result Reply DiskFailed → Type 0 = λ x. Commits meaning (repair_calls (unsure_in mid) + 4) mid kept x new in
    let Q : Store g.row.D.Denot → Type 0 = λ s. refusal (rules_in s) (state_in s) kept ≡ None in
    performed_on meaning old mid new kept (Err refusal_is.Disk) (ap rules_in same) r.born (ap state_in same) (ap unsure_in same) r.disk r.holds
    (performs_err meaning mid mid new kept c.in-Err-repair_and_append.field-0 (subst Q (sym same) c.requires.taken) (subst P c.in-Err-repair_and_append.is c.repair_and_append.ensures))
