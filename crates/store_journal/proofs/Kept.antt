-- What the calls of a journal keep.
use Rattle.std.proofs.Common.{◌≡◌, ℕ, ◌+◌, ◌-◌, ◌<◌, ◌≤◌, ◌^◌, true, false, cond, List, [], ◌∷◌, ◌++◌, length, take, drop, sym, ◌∙◌, ap, subst, arith, refl, length-append, length-take, append_assoc, Some, None, Option, Result, Ok, Err}
use Rattle.std.specs.Prelude.{All, IsErr, OnOk, is_some}
use Rattle.std.specs.Bool.{OnTrue}
use Rattle.std.proofs.lemmas.Bool.{OnTrue_at, OnTrue_from, true≢false}
use Rattle.std.proofs.lemmas.List.{append-nil}
use Rattle.exact_octets.specs.Spelling.{counted}
use Rattle.store_disk.specs.Disk.{Areas, octets_of, IsWithin}
use Rattle.store_disk.specs.Meaning.{Meaning}
use Rattle.store_disk.specs.Story.{Story, IsImage, past_of, reads}
use Rattle.store_disk.specs.declared.area.Area.{Area}
use Rattle.store_disk.specs.declared.disk.DiskFailed.{DiskFailed}
use Rattle.store_disk.proofs.Leaving.{leaves_both, leaves_first}
use Rattle.store_disk.proofs.Pasts.{octets_of-reads}
use Rattle.store_journal.specs.Area.{gate_place, unit, IsPayload}
use Rattle.store_journal.specs.Keeping.{IsKeptBy, WritesSynced}
use Rattle.store_journal.specs.Journal.{IsJournal, IsKept, MayHold, Appends, Repairs, disk_of, area_of, is_unsure, left, reserved}
use Rattle.store_journal.specs.declared.journal.Journal.{Journal}
use Rattle.store_journal.proofs.Keeping.{PutsBody, WritesGate, kept_image, reads_image, puts_body, writes_gate, sizes_more, gate_more}

-- nothing is unsure
pub none_of : (unsure : Option (List ℕ)) → is_some unsure ≡ false → unsure ≡ None
none_of None is = refl
none_of (Some payload) is = absurd (true≢false is)

-- what a disk keeps reaches its closed gate
kept_within : (story : Story) (area : Area) (birth : ℕ) (payloads : List (List ℕ)) (unsure : Option (List ℕ)) → IsKeptBy story area birth payloads unsure → gate_place payloads < length (octets_of (reads story) area)
kept_within story area birth payloads None kept = omega (arith, kept.text.firm.within, ap length (octets_of-reads story area))
kept_within story area birth payloads (Some unsure) kept =
    let place = gate_place payloads in
    let past = past_of story area in
    let but = kept.text.doubt.reads in
    omega (arith, kept.text.doubt.inside, ap length but.1, length-append (take place past.settled) (but.0 ∷ drop (place + 1) past.settled), length-take place past.settled, ap length (octets_of-reads story area))

module _ {D : Type 0} (meaning : Meaning D) where
  -- Of the disk of a journal a stop leaves areas that hold its payloads, and that is how it reads.
  pub holds : (journal : Journal D) (birth : ℕ) (payloads : List (List ℕ)) (unsure : Option (List ℕ)) → IsJournal meaning journal birth payloads unsure
      → OnTrue meaning.tells ((image : Areas) → IsImage (meaning.story (disk_of journal)) image → MayHold birth (area_of journal) payloads unsure image)
  holds journal birth payloads unsure is =
      OnTrue_from meaning.tells _ (λ told image. kept_image (meaning.story journal.disk) journal.area birth payloads unsure image is.small is.sizes (OnTrue_at told is.kept))

  pub reads_hold : (journal : Journal D) (birth : ℕ) (payloads : List (List ℕ)) (unsure : Option (List ℕ)) → IsJournal meaning journal birth payloads unsure
      → OnTrue meaning.tells (MayHold birth (area_of journal) payloads unsure (reads (meaning.story (disk_of journal))))
  reads_hold journal birth payloads unsure is =
      OnTrue_from meaning.tells _ (λ told. OnTrue_at told (holds journal birth payloads unsure is) (reads (meaning.story journal.disk)) (reads_image (meaning.story journal.disk)))

  -- the closed gate lies within the area
  pub gate_within : (journal : Journal D) (birth : ℕ) (payloads : List (List ℕ)) (unsure : Option (List ℕ)) → IsJournal meaning journal birth payloads unsure → OnTrue meaning.tells (IsWithin (reads (meaning.story journal.disk)) journal.area (journal.end + 1))
  gate_within journal birth payloads unsure is =
      OnTrue_from meaning.tells _ (λ told. omega (arith, is.end, kept_within (meaning.story journal.disk) journal.area birth payloads unsure (OnTrue_at told is.kept)))

  -- a journal that is one unit further on
  pub handed_on : (old new : Journal D) (birth : ℕ) (payloads : List (List ℕ)) (unsure : Option (List ℕ)) → IsJournal meaning old birth payloads unsure
      → (payload : List ℕ) → left old ≡ payload ∷ left new
      → new.birth ≡ old.birth → new.area ≡ old.area → new.place ≤ length new.octets.items
      → new.end ≡ old.end → new.unit.items ≡ old.unit.items → new.disk ≡ old.disk → new.unsure ≡ old.unsure
      → IsJournal meaning new birth payloads unsure
  handed_on old new birth payloads unsure is payload next same_birth same_area place on same_unit same_disk same_unsure =
      let same : reserved new ≡ reserved old = ap (λ (l : List ℕ). take (length l - 6) (drop 5 l)) same_unit in
      record {
        handed = is.handed ++ payload ∷ [];
        born = same_birth ∙ is.born;
        small = is.small;
        sizes = is.sizes;
        split = is.split ∙ ap (λ (l : List (List ℕ)). is.handed ++ l) next ∙ sym (append_assoc is.handed (payload ∷ []) (left new));
        place = place;
        end = on ∙ is.end;
        bounded = omega (arith, on, is.bounded);
        ready = λ more. same_unit ∙ is.ready (subst (λ (l : List ℕ). 0 < length l) same more) ∙ ap (λ (l : List ℕ). unit l ++ 0 ∷ []) (sym same);
        fits = λ more. subst IsPayload (sym same) (is.fits (subst (λ (l : List ℕ). 0 < length l) same more));
        doubt = same_unsure ∙ is.doubt;
        kept = subst (λ area. OnTrue meaning.tells (IsKeptBy (meaning.story new.disk) area birth payloads unsure)) (sym same_area)
            (subst (λ disk. OnTrue meaning.tells (IsKeptBy (meaning.story disk) old.area birth payloads unsure)) (sym same_disk) is.kept);
      }

  -- a journal behind a repair: the disk has gone on
  repaired : (old new : Journal D) (birth : ℕ) (payloads : List (List ℕ)) (unsure then : Option (List ℕ)) → IsJournal meaning old birth payloads unsure
      → left new ≡ left old → new.birth ≡ old.birth → new.place ≤ length new.octets.items → new.end ≡ old.end → new.unit.items ≡ old.unit.items
      → new.unsure ≡ is_some then → OnTrue meaning.tells (IsKeptBy (meaning.story new.disk) new.area birth payloads then)
      → IsJournal meaning new birth payloads then
  repaired old new birth payloads unsure then is same_left same_birth place on same_unit doubt kept =
      let same : reserved new ≡ reserved old = ap (λ (l : List ℕ). take (length l - 6) (drop 5 l)) same_unit in
      record {
        handed = is.handed;
        born = same_birth ∙ is.born;
        small = is.small;
        sizes = is.sizes;
        split = is.split ∙ ap (λ (l : List (List ℕ)). is.handed ++ l) (sym same_left);
        place = place;
        end = on ∙ is.end;
        bounded = omega (arith, on, is.bounded);
        ready = λ more. same_unit ∙ is.ready (subst (λ (l : List ℕ). 0 < length l) same more) ∙ ap (λ (l : List ℕ). unit l ++ 0 ∷ []) (sym same);
        fits = λ more. subst IsPayload (sym same) (is.fits (subst (λ (l : List ℕ). 0 < length l) same more));
        doubt = doubt;
        kept = kept;
      }

  -- a journal behind an append: nothing is reserved, and the disk has gone on
  pub cleared : (old new : Journal D) (birth : ℕ) (payloads then : List (List ℕ)) (unsure : Option (List ℕ)) → IsJournal meaning old birth payloads None
      → All IsPayload then → left new ≡ [] → new.birth ≡ old.birth → new.place ≤ length new.octets.items → new.unit.items ≡ []
      → new.end ≡ gate_place then → new.end < 2 ^ 63 → new.unsure ≡ is_some unsure → OnTrue meaning.tells (IsKeptBy (meaning.story new.disk) new.area birth then unsure)
      → IsJournal meaning new birth then unsure
  cleared old new birth payloads then unsure is sizes ended same_birth place empty end bounded doubt kept =
      let none : reserved new ≡ [] = ap (λ (l : List ℕ). take (length l - 6) (drop 5 l)) empty in
      record {
        handed = then;
        born = same_birth ∙ is.born;
        small = is.small;
        sizes = sizes;
        split = sym (ap (λ (l : List (List ℕ)). then ++ l) ended ∙ append-nil then);
        place = place;
        end = end;
        bounded = bounded;
        ready = λ more. absurd (omega (arith, ap length none));
        fits = λ more. absurd (omega (arith, ap length none));
        doubt = doubt;
        kept = kept;
      }

  -- the body of the reserved payload
  pub body_of : (journal : Journal D) (birth : ℕ) (payloads : List (List ℕ)) (unsure : Option (List ℕ)) → IsJournal meaning journal birth payloads unsure → 0 < length (reserved journal)
      → drop 1 journal.unit.items ≡ counted 4 (reserved journal) ++ 0 ∷ []
  body_of journal birth payloads unsure is some = ap (drop 1) (is.ready some)

  -- its body is put down
  pub body_put : {T : Type 0} (old : Journal D) (now : Story) (birth : ℕ) (payloads : List (List ℕ)) (bytes : List ℕ) (at : ℕ) (result : Result T DiskFailed) → IsJournal meaning old birth payloads None → 0 < length (reserved old)
      → at ≡ old.end + 1 → bytes ≡ drop 1 old.unit.items → OnTrue meaning.tells (WritesSynced old.area at bytes result (meaning.story old.disk) now) → OnTrue meaning.tells (PutsBody (meaning.story old.disk) now old.area birth payloads (reserved old) result)
  body_put old now birth payloads bytes at result is some place are commit =
      OnTrue_from meaning.tells _ (λ told. puts_body (meaning.story old.disk) now old.area birth payloads (reserved old) bytes result is.small is.sizes (is.fits some) (are ∙ body_of old birth payloads None is some) (OnTrue_at told is.kept)
      (subst (λ n. WritesSynced old.area n bytes result (meaning.story old.disk) now) (place ∙ ap (λ n. n + 1) is.end) (OnTrue_at told commit)))

  -- its gate is opened
  pub gate_put : {T S : Type 0} (old : Journal D) (mid now : Story) (birth : ℕ) (payloads : List (List ℕ)) (at : ℕ) (before : Result S DiskFailed) (result : Result T DiskFailed) → IsJournal meaning old birth payloads None
      → at ≡ old.end → (done : S) → before ≡ Ok done → OnTrue meaning.tells (PutsBody (meaning.story old.disk) mid old.area birth payloads (reserved old) before)
      → OnTrue meaning.tells (WritesSynced old.area at (1 ∷ []) result mid now) → OnTrue meaning.tells (WritesGate mid now old.area birth payloads (reserved old) 1 result)
  gate_put old mid now birth payloads at before result is place done good put commit =
      OnTrue_from meaning.tells _ (λ told. writes_gate mid now old.area birth payloads (reserved old) 1 result is.small is.sizes
      (subst (λ r. OnOk r (IsKeptBy mid old.area birth payloads (Some (reserved old)))) good (OnTrue_at told put).put)
      (subst (λ n. WritesSynced old.area n (1 ∷ []) result mid now) (place ∙ is.end) (OnTrue_at told commit)))

  -- ---- an append

  -- the body isn't put down
  pub append_unput : {T S : Type 0} (old new : Journal D) (birth : ℕ) (payloads : List (List ℕ)) (failed : DiskFailed) (before : Result S DiskFailed) → IsJournal meaning old birth payloads None
      → left new ≡ [] → new.birth ≡ old.birth → new.area ≡ old.area → new.place ≤ length new.octets.items → new.unit.items ≡ [] → new.end ≡ old.end → new.unsure ≡ false
      → OnTrue meaning.tells (PutsBody (meaning.story old.disk) (meaning.story new.disk) old.area birth payloads (reserved old) before)
      → Appends {T = T} meaning old new (Err failed) birth payloads
  append_unput old new birth payloads failed before is ended same_birth same_area place empty end sure put =
      let kept : OnTrue meaning.tells (IsKeptBy (meaning.story new.disk) new.area birth payloads None) =
      OnTrue_from meaning.tells _ (λ told. subst (λ area. IsKeptBy (meaning.story new.disk) area birth payloads None) (sym same_area) (OnTrue_at told put).kept) in
      record {
        ok = tt;
        failed = subst (λ b. IsJournal meaning new birth payloads (cond b (Some (reserved old)) None)) (sym sure)
            (cleared old new birth payloads payloads None is is.sizes ended same_birth place empty (end ∙ is.end) (omega (arith, end, is.bounded)) sure kept);
        stops = OnTrue_from meaning.tells _ (λ told. (OnTrue_at told put).stops);
      }

  -- the gate isn't opened for sure
  pub append_unopened : {T S : Type 0} (old new : Journal D) (mid : Story) (birth : ℕ) (payloads : List (List ℕ)) (failed : DiskFailed) (before : Result S DiskFailed) → IsJournal meaning old birth payloads None
      → left new ≡ [] → new.birth ≡ old.birth → new.area ≡ old.area → new.place ≤ length new.octets.items → new.unit.items ≡ [] → new.end ≡ old.end → new.unsure ≡ true
      → OnTrue meaning.tells (PutsBody (meaning.story old.disk) mid old.area birth payloads (reserved old) before)
      → OnTrue meaning.tells (WritesGate {T = T} mid (meaning.story new.disk) old.area birth payloads (reserved old) 1 (Err failed))
      → Appends {T = T} meaning old new (Err failed) birth payloads
  append_unopened old new mid birth payloads failed before is ended same_birth same_area place empty end unsure put gate =
      let kept : OnTrue meaning.tells (IsKeptBy (meaning.story new.disk) new.area birth payloads (Some (reserved old))) =
      OnTrue_from meaning.tells _ (λ told. subst (λ area. IsKeptBy (meaning.story new.disk) area birth payloads (Some (reserved old))) (sym same_area) (OnTrue_at told gate).failed) in
      record {
        ok = tt;
        failed = subst (λ b. IsJournal meaning new birth payloads (cond b (Some (reserved old)) None)) (sym unsure)
            (cleared old new birth payloads payloads (Some (reserved old)) is is.sizes ended same_birth place empty (end ∙ is.end) (omega (arith, end, is.bounded)) unsure kept);
        stops = OnTrue_from meaning.tells _ (λ told. leaves_both (meaning.story old.disk) mid (meaning.story new.disk) (MayHold birth old.area payloads (Some (reserved old))) (OnTrue_at told put).stops (OnTrue_at told gate).stops);
      }

  -- the gate is open
  pub append_opened : {T S : Type 0} (old new : Journal D) (mid : Story) (birth : ℕ) (payloads : List (List ℕ)) (done : T) (before : Result S DiskFailed) → IsJournal meaning old birth payloads None → 0 < length (reserved old)
      → left new ≡ [] → new.birth ≡ old.birth → new.area ≡ old.area → new.place ≤ length new.octets.items → new.unit.items ≡ [] → new.end ≡ old.end + (length old.unit.items - 1) → new.end < 2 ^ 63 → new.unsure ≡ false
      → OnTrue meaning.tells (PutsBody (meaning.story old.disk) mid old.area birth payloads (reserved old) before)
      → OnTrue meaning.tells (WritesGate {T = T} mid (meaning.story new.disk) old.area birth payloads (reserved old) 1 (Ok done))
      → Appends {T = T} meaning old new (Ok done) birth payloads
  append_opened old new mid birth payloads done before is some ended same_birth same_area place empty end bounded sure put gate =
      let then = payloads ++ reserved old ∷ [] in
      let kept : OnTrue meaning.tells (IsKeptBy (meaning.story new.disk) new.area birth then None) =
      OnTrue_from meaning.tells _ (λ told. subst (λ area. IsKeptBy (meaning.story new.disk) area birth then None) (sym same_area) ((OnTrue_at told gate).opened refl)) in
      let on : new.end ≡ gate_place then =
      end ∙ omega (arith, is.end, ap length (is.ready some), length-append (unit (reserved old)) (0 ∷ []), gate_more payloads (reserved old)) in
      record {
        ok = cleared old new birth payloads then None is (sizes_more payloads (reserved old) is.sizes (is.fits some)) ended same_birth place empty on bounded sure kept;
        failed = tt;
        stops = OnTrue_from meaning.tells _ (λ told. leaves_both (meaning.story old.disk) mid (meaning.story new.disk) (MayHold birth old.area payloads (Some (reserved old))) (OnTrue_at told put).stops (OnTrue_at told gate).stops);
      }

  -- what is kept in which nothing is unsure
  pub kept_sure : (journal : Journal D) → IsKept meaning journal → is_unsure journal ≡ false → (birth : ℕ) × (payloads : List (List ℕ)) × IsJournal meaning journal birth payloads None
  kept_sure journal kept sure =
      (kept.0, kept.1, subst (λ (u : Option (List ℕ)). IsJournal meaning journal kept.0 kept.1 u) (none_of kept.2 (sym kept.3.doubt ∙ sure)) kept.3)

  -- ---- a repair

  -- where nothing is unsure nothing is done
  pub repair_none : {T : Type 0} (journal : Journal D) (birth : ℕ) (payloads : List (List ℕ)) (unsure : Option (List ℕ)) (done : T) → IsJournal meaning journal birth payloads unsure → is_unsure journal ≡ false
      → Repairs {T = T} meaning journal journal (Ok done) birth payloads unsure
  repair_none journal birth payloads unsure done is sure = record {
    ok = subst (λ (u : Option (List ℕ)). IsJournal meaning journal birth payloads u) (none_of unsure (sym is.doubt ∙ sure)) is;
    failed = tt;
    stops = OnTrue_from meaning.tells _ (λ told. leaves_first (meaning.story journal.disk) (MayHold birth journal.area payloads unsure) (OnTrue_at told (holds journal birth payloads unsure is)));
  }

  gate_shut : {T : Type 0} (old : Journal D) (now : Story) (birth : ℕ) (payloads : List (List ℕ)) (unsure : List ℕ) (result : Result T DiskFailed) → IsJournal meaning old birth payloads (Some unsure)
      → OnTrue meaning.tells (WritesSynced old.area old.end (0 ∷ []) result (meaning.story old.disk) now) → OnTrue meaning.tells (WritesGate (meaning.story old.disk) now old.area birth payloads unsure 0 result)
  gate_shut old now birth payloads unsure result is commit =
      OnTrue_from meaning.tells _ (λ told. writes_gate (meaning.story old.disk) now old.area birth payloads unsure 0 result is.small is.sizes (OnTrue_at told is.kept)
      (subst (λ n. WritesSynced old.area n (0 ∷ []) result (meaning.story old.disk) now) is.end (OnTrue_at told commit)))

  -- the gate is closed
  pub repair_closed : {T : Type 0} (old new : Journal D) (birth : ℕ) (payloads : List (List ℕ)) (unsure : Option (List ℕ)) (done : T) → IsJournal meaning old birth payloads unsure → is_unsure old ≡ true
      → left new ≡ left old → new.birth ≡ old.birth → new.area ≡ old.area → new.place ≤ length new.octets.items → new.end ≡ old.end → new.unit.items ≡ old.unit.items → new.unsure ≡ false
      → OnTrue meaning.tells (WritesSynced {T = T} old.area old.end (0 ∷ []) (Ok done) (meaning.story old.disk) (meaning.story new.disk))
      → Repairs {T = T} meaning old new (Ok done) birth payloads unsure
  repair_closed old new birth payloads None done is doubt same_left same_birth same_area place end same_unit sure commit = absurd (true≢false (sym doubt ∙ is.doubt))
  repair_closed old new birth payloads (Some unsure) done is doubt same_left same_birth same_area place end same_unit sure commit =
      let shut = gate_shut old (meaning.story new.disk) birth payloads unsure (Ok done) is commit in
      record {
        ok = repaired old new birth payloads (Some unsure) None is same_left same_birth place end same_unit sure
            (OnTrue_from meaning.tells _ (λ told. subst (λ area. IsKeptBy (meaning.story new.disk) area birth payloads None) (sym same_area) ((OnTrue_at told shut).closed refl)));
        failed = tt;
        stops = OnTrue_from meaning.tells _ (λ told. (OnTrue_at told shut).stops);
      }

  -- or it is still unsure
  pub repair_failed : {T S : Type 0} (old new : Journal D) (birth : ℕ) (payloads : List (List ℕ)) (unsure : Option (List ℕ)) (result : Result T DiskFailed) (before : Result S DiskFailed) → IsErr result → IsErr before
      → IsJournal meaning old birth payloads unsure → is_unsure old ≡ true
      → left new ≡ left old → new.birth ≡ old.birth → new.area ≡ old.area → new.place ≤ length new.octets.items → new.end ≡ old.end → new.unit.items ≡ old.unit.items → new.unsure ≡ old.unsure
      → OnTrue meaning.tells (WritesSynced old.area old.end (0 ∷ []) before (meaning.story old.disk) (meaning.story new.disk))
      → IsJournal meaning new birth payloads unsure × Repairs {T = T} meaning old new result birth payloads unsure
  repair_failed old new birth payloads unsure (Ok done) before err err_before is doubt same_left same_birth same_area place end same_unit still commit = absurd (cc)
  repair_failed old new birth payloads unsure (Err failed) (Ok done) err err_before is doubt same_left same_birth same_area place end same_unit still commit = absurd (cc)
  repair_failed old new birth payloads None (Err failed) (Err told) err err_before is doubt same_left same_birth same_area place end same_unit still commit = absurd (true≢false (sym doubt ∙ is.doubt))
  repair_failed old new birth payloads (Some unsure) (Err failed) (Err told) err err_before is doubt same_left same_birth same_area place end same_unit still commit =
      let shut = gate_shut old (meaning.story new.disk) birth payloads unsure (Err told) is commit in
      let now = repaired old new birth payloads (Some unsure) (Some unsure) is same_left same_birth place end same_unit (still ∙ is.doubt)
      (OnTrue_from meaning.tells _ (λ told. subst (λ area. IsKeptBy (meaning.story new.disk) area birth payloads (Some unsure)) (sym same_area) (OnTrue_at told shut).failed)) in
      (now, record { ok = tt; failed = now; stops = OnTrue_from meaning.tells _ (λ told. (OnTrue_at told shut).stops) })
