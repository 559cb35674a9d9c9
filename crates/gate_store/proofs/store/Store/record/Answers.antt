use Rattle.std.proofs.Common.{refl, subst}
use Rattle.gate_entries.specs.declared.recorded.Recorded.{Recorded}
use Rattle.gate_model.proofs.SoundLaws.{timed_where_suits}
use Rattle.gate_store.specs.Deeds.{Performs}
use Rattle.gate_store.specs.Store.{state_in}
use Rattle.gate_store.proofs.Recording.{performed_on, prepared_on, unremembered}
use Rattle.gate_store.proofs.store.Store.record.Goals as goal

pub prepare-requires : goal.prepare-requires
prepare-requires g c = record { timed = timed_where_suits (state_in c.args.self.now) c.args.entry c.requires.may.sound.1 }

pub commit-requires-clause-kept : goal.commit-requires-clause-kept
commit-requires-clause-kept g c =
    let old = c.args.self.now in
    let mid = record old { gate = c.prepare.new.self } in
    let kept = c.requires.kept in
    (kept.0, kept.1, prepared_on g.D.Disk.meaning old mid refl c.in-Ok.ensures.state kept.0 kept.1 kept.2)

pub returns-in-Ok : goal.returns-in-Ok
returns-in-Ok g c =
    let meaning = g.D.Disk.meaning in
    let old = c.args.self.now in
    let mid = record old { gate = c.prepare.new.self } in
    let new = c.commit.new.self in
    let keeps = c.in-Ok.ensures.state in
    let done = subst (λ (kept : Recorded). Performs meaning mid kept c.commit.result new) c.in-Ok.ensures.entry c.commit.ensures in
    performed_on meaning old mid new c.args.entry c.commit.result keeps.rules refl keeps.holds refl refl (prepared_on meaning old mid refl keeps) done

pub returns : goal.returns
returns g c =
    let meaning = g.D.Disk.meaning in
    let old = c.args.self.now in
    unremembered meaning old (record old { gate = c.prepare.new.self }) c.args.entry c.requires.kept refl c.prepare.ensures.state c.requires.taken
