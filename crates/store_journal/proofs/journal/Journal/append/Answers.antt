use Rattle.std.proofs.Common.{◌≡◌, ℕ, ◌-◌, List, [], ◌∷◌, ◌++◌, length, length-drop, take, drop, refl, arith, ap, ◌∙◌, None}
use Rattle.std.proofs.lemmas.List.{take_rest}
use Rattle.store_journal.specs.Journal.{reserved}
use Rattle.store_journal.proofs.Kept.{append_unput, append_unopened, append_opened, body_put, gate_put, kept_sure}
use Rattle.store_journal.proofs.journal.Journal.append.Goals as goal

bytes : (all items : List ℕ) → all ≡ items → take (length all - 1) (drop 1 all) ≡ drop 1 items
bytes all items is = take_rest all 1 ∙ ap (drop 1) is

pub returns-in-Err-clause-appended : goal.returns-in-Err-clause-appended
returns-in-Err-clause-appended g c = λ birth payloads is.
    let old = c.args.self.now in
    let meaning = g.D.Disk.meaning in
    append_unput meaning old _ birth payloads c.in-Err.failed c.write_synced.result is c.requires.ended refl refl is.place c.clear.ensures.items refl c.requires.sure
    (body_put meaning old (meaning.story c.write_synced.new.disk) birth payloads _ _ c.write_synced.result is c.requires.reserved refl (bytes c.deref.result.now old.unit.items c.deref.ensures.value) c.write_synced.ensures.written)

pub returns-in-Err-clause-kept : goal.returns-in-Err-clause-kept
returns-in-Err-clause-kept g c =
    let is = kept_sure g.D.Disk.meaning c.args.self.now c.requires.kept c.requires.sure in
    let now = (returns-in-Err-clause-appended g c is.0 is.1 is.2).failed in
    (is.0, is.1, _, now)

pub returns-in-Err-write_synced-clause-appended : goal.returns-in-Err-write_synced-clause-appended
returns-in-Err-write_synced-clause-appended g c = λ birth payloads is.
    let old = c.args.self.now in
    let meaning = g.D.Disk.meaning in
    let put = body_put meaning old (meaning.story c.write_synced.new.disk) birth payloads _ _ c.write_synced.result is c.requires.reserved refl (bytes c.deref.result.now old.unit.items c.deref.ensures.value) c.write_synced.ensures.written in
    append_unopened meaning old _ (meaning.story c.write_synced.new.disk) birth payloads c.in-Err-write_synced.failed c.write_synced.result is c.requires.ended refl refl is.place c.clear-in-Err-write_synced.ensures.items refl refl put
    (gate_put meaning old (meaning.story c.write_synced.new.disk) (meaning.story c.write_synced-2.new.disk) birth payloads _ c.write_synced.result _ is refl c.in_default.field-0 c.in_default.is put c.in-Err-write_synced.ensures.written)

pub returns-in-Err-write_synced-clause-kept : goal.returns-in-Err-write_synced-clause-kept
returns-in-Err-write_synced-clause-kept g c =
    let is = kept_sure g.D.Disk.meaning c.args.self.now c.requires.kept c.requires.sure in
    let now = (returns-in-Err-write_synced-clause-appended g c is.0 is.1 is.2).failed in
    (is.0, is.1, _, now)

pub returns-clause-appended : goal.returns-clause-appended
returns-clause-appended g c = λ birth payloads is.
    let old = c.args.self.now in
    let meaning = g.D.Disk.meaning in
    let put = body_put meaning old (meaning.story c.write_synced.new.disk) birth payloads _ _ c.write_synced.result is c.requires.reserved refl (bytes c.deref.result.now old.unit.items c.deref.ensures.value) c.write_synced.ensures.written in
    append_opened meaning old _ (meaning.story c.write_synced.new.disk) birth payloads tt c.write_synced.result is c.requires.reserved c.requires.ended refl refl is.place c.clear-2.ensures.items
    (omega (arith, c.len.ensures, c.deref.ensures.len, ap length c.deref.ensures.value))
    (omega (arith, c.len.ensures, c.deref.ensures.len, ap length c.deref.ensures.value, c.in_default.ensures.end, ap length (bytes c.deref.result.now old.unit.items c.deref.ensures.value), length-drop 1 old.unit.items))
    c.requires.sure put
    (gate_put meaning old (meaning.story c.write_synced.new.disk) (meaning.story c.write_synced-2.new.disk) birth payloads _ c.write_synced.result _ is refl c.in_default.field-0 c.in_default.is put c.in_default-write_synced.ensures.written)

pub returns-clause-kept : goal.returns-clause-kept
returns-clause-kept g c =
    let is = kept_sure g.D.Disk.meaning c.args.self.now c.requires.kept c.requires.sure in
    let now = (returns-clause-appended g c is.0 is.1 is.2).ok in
    (is.0, is.1 ++ reserved c.args.self.now ∷ [], None, now)
