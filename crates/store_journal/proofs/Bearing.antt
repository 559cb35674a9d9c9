-- What a stop leaves in an opening: what one before it left, or a store that is born without payloads.
use Rattle.std.proofs.Common.{◌≡◌, inl, inr, ⊎_elim, ◌⊎◌, ℕ, ◌<◌, ◌≤◌, ◌^◌, Bool, false, cond, eqb, ltb, List, [], ◌∷◌, length, drop, refl, sym, ◌∙◌, ap, subst, arith, Some, None, Result, Ok, Err}
use Rattle.std.specs.Prelude.{All, IsOk, OnOk}
use Rattle.std.specs.Bool.{OnTrue}
use Rattle.std.proofs.lemmas.Bool.{OnTrue_at, OnTrue_from, cases_Bool, le-ltb}
use Rattle.store_disk.specs.Disk.{Areas, octets_of, same_area, written}
use Rattle.store_disk.specs.Doubt.{IsFirm}
use Rattle.store_disk.specs.Story.{Past, Story, wrote, past_of, past_after, at_rest, reads, IsImage, MayLeave, LeavesOnly, Writes, Syncs}
use Rattle.store_disk.specs.declared.area.Area.{Area}
use Rattle.store_disk.specs.declared.area.Area.TheVariants.{A, B, Pick}
use Rattle.store_disk.specs.declared.disk.DiskFailed.{DiskFailed}
use Rattle.store_disk.proofs.Pasts.{octets_of-reads, same_area-refl, past_of-own, length-written, firm_rest, other_write, other_sync, wrote_past, synced_past}
use Rattle.store_disk.proofs.Leaving.{leaves_first, leaves_both, leaves_now, leaves_sync, leaves_weaker}
use Rattle.store_journal.specs.Area.{foreign, unborn, area_text, picked, stands, standing, IsPayload, IsText}
use Rattle.store_journal.specs.Keeping.{IsSure, IsKeptBy, WritesSynced}
use Rattle.store_journal.specs.Journal.{IsLike, OpensAs, OpensOver}
use Rattle.store_journal.specs.Opening.{AreAtRest, AreFresh, AreSmall, IsSmall, IsUnbornOrFresh, most_fresh, most_unpicked}
use Rattle.store_journal.proofs.Keeping.{commit_leaves, reads_image, stands_text, sure_image, text_sure}

-- two areas are one or not
same_or_not : (area other : Area) → (area ≡ other) ⊎ (same_area area other ≡ false)
same_or_not A A = inl refl
same_or_not B B = inl refl
same_or_not Pick Pick = inl refl
same_or_not A B = inr refl
same_or_not A Pick = inr refl
same_or_not B A = inr refl
same_or_not B Pick = inr refl
same_or_not Pick A = inr refl
same_or_not Pick B = inr refl

-- no payload at all
no_sizes : All IsPayload []
no_sizes = λ k d below. absurd (omega arith)

-- ---- areas that are small

small_image : (most : ℕ) (past : Past) (image : List ℕ) → IsSmall most past → MayLeave past image → length image ≤ most
small_image most past image small (inl same) = omega (arith, small.reads, ap length same)
small_image most past image small (inr torn) = omega (arith, small.greatest, torn.no_longer)

rest_small : (most : ℕ) (octets : List ℕ) → length octets ≤ most → IsSmall most (at_rest octets)
rest_small most octets le = record { reads = le; greatest = le }

wrote_small : (most : ℕ) (past : Past) (area : Area) (count : ℕ) (octets : List ℕ) → IsSmall most past → count ≤ most → length octets ≤ most → IsSmall most (past_after (wrote area 0 count octets) past)
wrote_small most past area count octets small le long = record { reads = long; greatest = omega (arith, small.greatest, le, long) }

own_small : {T : Type 0} (most : ℕ) (old new : Story) (area : Area) (bytes : List ℕ) (result : Result T DiskFailed) → IsSmall most (past_of old area) → length bytes ≤ most → Writes area 0 bytes result old new → IsSmall most (past_of new area)
own_small most old new area bytes (Ok done) small le writes =
    let octets = written (octets_of (reads old) area) 0 bytes in
    let past : past_after (wrote area 0 (length bytes) octets) (past_of old area) ≡ past_of new area = sym (ap (λ s. past_of s area) writes ∙ past_of-own old (wrote area 0 (length bytes) octets) area (same_area-refl area)) in
    subst (IsSmall most) past (wrote_small most (past_of old area) area (length bytes) octets small le
    (omega (arith, le, small.reads, ap length (octets_of-reads old area), length-written 0 (octets_of (reads old) area) bytes (omega arith))))
own_small most old new area bytes (Err failed) small le (inl same) = subst (λ s. IsSmall most (past_of s area)) (sym same) small
own_small most old new area bytes (Err failed) small le (inr torn) =
    let past : past_after (wrote area 0 (length bytes) torn.0) (past_of old area) ≡ past_of new area = sym (ap (λ s. past_of s area) torn.1 ∙ past_of-own old (wrote area 0 (length bytes) torn.0) area (same_area-refl area)) in
    subst (IsSmall most) past (wrote_small most (past_of old area) area (length bytes) torn.0 small le (omega (arith, le, small.reads, ap length (octets_of-reads old area), torn.2.no_longer)))

small_write : {T : Type 0} (most : Area → ℕ) (old new : Story) (area : Area) (bytes : List ℕ) (result : Result T DiskFailed) → AreSmall most old → length bytes ≤ most area → Writes area 0 bytes result old new → AreSmall most new
small_write most old new area bytes result small le writes = λ other. ⊎_elim
    (λ same. subst (λ x. IsSmall (most x) (past_of new x)) (sym same) (own_small (most area) old new area bytes result (small area) le writes))
    (λ apart. subst (IsSmall (most other)) (sym (other_write old new other area 0 bytes result apart writes)) (small other))
    (same_or_not other area)

small_sync : {T : Type 0} (most : Area → ℕ) (old new : Story) (area : Area) (result : Result T DiskFailed) → AreSmall most old → Syncs area result old new → AreSmall most new
small_sync most old new area (Ok done) small syncs = λ other. ⊎_elim
    (λ same. subst (λ x. IsSmall (most x) (past_of new x)) (sym same) (subst (IsSmall (most area)) (sym (synced_past old new area done syncs)) (rest_small (most area) (past_of old area).octets (small area).reads)))
    (λ apart. subst (IsSmall (most other)) (sym (other_sync old new other area (Ok done) apart syncs)) (small other))
    (same_or_not other area)
small_sync most old new area (Err failed) small syncs = subst (λ s. AreSmall most s) (sym syncs) small

-- areas that are small, where none is picked
unborn_small : (areas : Areas) → picked areas.pick ≡ None → length areas.a ≤ 17 → length areas.b ≤ 17 → stands areas ≡ unborn
unborn_small areas none a b =
    ap (standing areas) none ∙ ap (λ c. cond c (foreign A 17) (cond (ltb 17 (length areas.b)) (foreign B 17) unborn)) (le-ltb 17 (length areas.a) a) ∙ ap (λ c. cond c (foreign B 17) unborn) (le-ltb 17 (length areas.b) b)

picks_nothing : (pick : List ℕ) → length pick ≤ 0 → picked pick ≡ None
picks_nothing [] le = refl
picks_nothing (first ∷ rest) le = absurd (omega (arith, le))

unpicked_image : (story : Story) (image : Areas) → AreSmall most_unpicked story → IsImage story image → stands image ≡ unborn
unpicked_image story image small is =
    unborn_small image (picks_nothing image.pick (small_image 0 (past_of story Pick) image.pick (small Pick) (is Pick)))
    (small_image 17 (past_of story A) image.a (small A) (is A)) (small_image 17 (past_of story B) image.b (small B) (is B))

nothing_picks : (pick : List ℕ) → picked pick ≡ None → length pick ≤ 0
nothing_picks [] is = omega arith
nothing_picks (first ∷ rest) is = absurd (cc)

-- a disk at rest where none is picked
pub small_rest : (story : Story) → AreAtRest story → picked (reads story).pick ≡ None → length (reads story).a ≤ 17 → length (reads story).b ≤ 17 → AreSmall most_unpicked story
small_rest story rest none a b A = subst (IsSmall 17) (sym (rest A)) (rest_small 17 (reads story).a a)
small_rest story rest none a b B = subst (IsSmall 17) (sym (rest B)) (rest_small 17 (reads story).b b)
small_rest story rest none a b Pick = subst (IsSmall 0) (sym (rest Pick)) (rest_small 0 (reads story).pick (nothing_picks (reads story).pick none))

-- a write to one of both areas, and a sync of it
pub bears_area : {T : Type 0} (birth : ℕ) (old new : Story) (area : Area) (bytes : List ℕ) (result : Result T DiskFailed) → AreSmall most_unpicked old → length bytes ≤ most_unpicked area → WritesSynced area 0 bytes result old new
    → AreSmall most_unpicked new × LeavesOnly old new (IsUnbornOrFresh birth)
bears_area birth old new area bytes result small le commit =
    let mid : AreSmall most_unpicked commit.mid = small_write most_unpicked old commit.mid area bytes commit.wrote small le commit.writes in (
      small_sync most_unpicked commit.mid new area result mid commit.syncs,
      commit_leaves area 0 bytes result old new (IsUnbornOrFresh birth) commit (λ image is. inl (unpicked_image old image small is)) (λ image is. inl (unpicked_image commit.mid image mid is)),
    )

-- ---- areas that are fresh

-- the text of a store without payloads, over whatever there was
fresh_text : (birth : ℕ) (octets : List ℕ) → birth < 2 ^ 64 → IsText (written octets 0 (area_text birth [] 0)) birth []
fresh_text birth octets small = record { gate = 0; behind = drop 17 octets; closed = refl; small = small; sizes = no_sizes; text = refl }

fresh_rest : {T : Type 0} (birth : ℕ) (old mid new : Story) (area : Area) (write result : Result T DiskFailed) → birth < 2 ^ 64 → OnOk result (IsOk write) → Writes area 0 (area_text birth [] 0) write old mid → Syncs area result mid new → OnOk result (IsSure birth [] (past_of new area))
fresh_rest birth old mid new area write (Err failed) small good writes syncs = tt
fresh_rest birth old mid new area (Err failed) (Ok done) small good writes syncs = absurd (cc)
fresh_rest birth old mid new area (Ok now) (Ok done) small good writes syncs =
    let octets = (past_of old area).octets in
    subst (IsSure birth []) (sym (synced_past mid new area done syncs ∙ ap at_rest (wrote_past old mid area 0 (area_text birth [] 0) now writes)))
    (text_sure birth [] (written octets 0 (area_text birth [] 0)) (fresh_text birth octets small))

-- a good write of it to an area, and a sync
pub bears_text : {T : Type 0} (birth : ℕ) (old new : Story) (area : Area) (result : Result T DiskFailed) → birth < 2 ^ 64 → WritesSynced area 0 (area_text birth [] 0) result old new → OnOk result (IsSure birth [] (past_of new area))
bears_text birth old new area result small commit = fresh_rest birth old commit.mid new area commit.wrote result small commit.ok commit.writes commit.syncs

-- which stays over a write to another area
pub sure_other : {T : Type 0} (birth : ℕ) (old new : Story) (area other : Area) (at : ℕ) (bytes : List ℕ) (result : Result T DiskFailed) → same_area area other ≡ false → WritesSynced other at bytes result old new → IsSure birth [] (past_of old area) → IsSure birth [] (past_of new area)
sure_other birth old new area other at bytes result apart commit sure =
    subst (IsSure birth []) (sym (other_sync commit.mid new area other result apart commit.syncs ∙ other_write old commit.mid area other at bytes commit.wrote apart commit.writes)) sure

which : (pick : List ℕ) → (picked pick ≡ None) ⊎ ((picked pick ≡ Some A) ⊎ (picked pick ≡ Some B))
which [] = inl refl
which (first ∷ rest) = ⊎_elim (λ two. inr (inr (ap (λ b. Some (cond b B A)) two))) (λ other. inr (inl (ap (λ b. Some (cond b B A)) other))) (cases_Bool (eqb first 2))

fresh_image : (birth : ℕ) (story : Story) (image : Areas) → birth < 2 ^ 64 → AreFresh birth story → IsImage story image → IsUnbornOrFresh birth image
fresh_image birth story image small fresh is = ⊎_elim
    (λ none. inl (unborn_small image none (small_image 17 (past_of story A) image.a (fresh.small A) (is A)) (small_image 17 (past_of story B) image.b (fresh.small B) (is B))))
    (λ some. ⊎_elim
    (λ a. inr (A, stands_text image A birth [] a (sure_image birth [] (past_of story A) image.a small no_sizes fresh.a (is A))))
    (λ b. inr (B, stands_text image B birth [] b (sure_image birth [] (past_of story B) image.b small no_sizes fresh.b (is B))))
    some)
    (which image.pick)

more_small : (story : Story) → AreSmall most_unpicked story → AreSmall most_fresh story
more_small story small A = small A
more_small story small B = small B
more_small story small Pick = record { reads = omega (arith, (small Pick).reads); greatest = omega (arith, (small Pick).greatest) }

pub fresh_from : (birth : ℕ) (story : Story) → IsSure birth [] (past_of story A) → IsSure birth [] (past_of story B) → AreSmall most_unpicked story → AreFresh birth story
fresh_from birth story a b small = record { a = a; b = b; small = more_small story small }

pick_rest : {T : Type 0} (birth : ℕ) (old mid new : Story) (write result : Result T DiskFailed) → OnOk result (IsOk write) → Writes Pick 0 (1 ∷ []) write old mid → Syncs Pick result mid new → IsSure birth [] (past_of new A) → OnOk result (IsKeptBy new A birth [] None)
pick_rest birth old mid new write (Err failed) good writes syncs sure = tt
pick_rest birth old mid new (Err failed) (Ok done) good writes syncs sure = absurd (cc)
pick_rest birth old mid new (Ok now) (Ok done) good writes syncs sure =
    let octets = written (past_of old Pick).octets 0 (1 ∷ []) in
    let past : past_of new Pick ≡ at_rest octets = synced_past mid new Pick done syncs ∙ ap at_rest (wrote_past old mid Pick 0 (1 ∷ []) now writes) in
    record {
      pick = subst (IsFirm 1) (sym past) (firm_rest 1 octets (omega arith));
      picks = ap (λ (past : Past). picked past.octets) past;
      text = sure;
    }

-- a write of Pick, and a sync: after Ok the first area is picked
pub bears_pick : {T : Type 0} (birth : ℕ) (old new : Story) (result : Result T DiskFailed) → birth < 2 ^ 64 → AreFresh birth old → WritesSynced Pick 0 (1 ∷ []) result old new
    → OnOk result (IsKeptBy new A birth [] None) × LeavesOnly old new (IsUnbornOrFresh birth)
bears_pick birth old new result small fresh commit =
    let mid : AreFresh birth commit.mid = record {
      a = subst (IsSure birth []) (sym (other_write old commit.mid A Pick 0 (1 ∷ []) commit.wrote refl commit.writes)) fresh.a;
      b = subst (IsSure birth []) (sym (other_write old commit.mid B Pick 0 (1 ∷ []) commit.wrote refl commit.writes)) fresh.b;
      small = small_write most_fresh old commit.mid Pick (1 ∷ []) commit.wrote fresh.small (omega arith) commit.writes;
    } in (
      pick_rest birth old commit.mid new commit.wrote result commit.ok commit.writes commit.syncs (sure_other birth old new A Pick 0 (1 ∷ []) result refl commit fresh.a),
      commit_leaves Pick 0 (1 ∷ []) result old new (IsUnbornOrFresh birth) commit (λ image is. fresh_image birth old image small fresh is) (λ image is. fresh_image birth commit.mid image small mid is),
    )

-- ---- the three writes of a birth

module _ {T : Type 0} (tells : Bool) (birth : ℕ) (octets : List ℕ) (same : octets ≡ area_text birth [] 0) where
  at_text : (area : Area) (result : Result T DiskFailed) (old new : Story) → WritesSynced area 0 octets result old new → WritesSynced area 0 (area_text birth [] 0) result old new
  at_text area result old new commit = subst (λ (l : List ℕ). WritesSynced area 0 l result old new) same commit

  pub bears_first : (s0 s1 : Story) (result : Result T DiskFailed) → OnTrue tells (AreSmall most_unpicked s0) → OnTrue tells (WritesSynced A 0 octets result s0 s1) → OnTrue tells (LeavesOnly s0 s1 (IsUnbornOrFresh birth))
  bears_first s0 s1 result small first = OnTrue_from tells _ (λ told. (bears_area birth s0 s1 A octets result (OnTrue_at told small) (omega (arith, ap length same)) (OnTrue_at told first)).1)

  pub bears_second : (s0 s1 s2 : Story) (before result : Result T DiskFailed) → OnTrue tells (AreSmall most_unpicked s0) → OnTrue tells (WritesSynced A 0 octets before s0 s1) → OnTrue tells (WritesSynced B 0 octets result s1 s2)
      → OnTrue tells (LeavesOnly s0 s2 (IsUnbornOrFresh birth))
  bears_second s0 s1 s2 before result small first second = OnTrue_from tells _ (λ told.
      let a = bears_area birth s0 s1 A octets before (OnTrue_at told small) (omega (arith, ap length same)) (OnTrue_at told first) in
      let b = bears_area birth s1 s2 B octets result a.0 (omega (arith, ap length same)) (OnTrue_at told second) in
      leaves_both s0 s1 s2 (IsUnbornOrFresh birth) a.1 b.1)

  bears_third : (s0 s1 s2 s3 : Story) (one two : T) (result : Result T DiskFailed) → birth < 2 ^ 64 → AreSmall most_unpicked s0 → WritesSynced A 0 octets (Ok one) s0 s1 → WritesSynced B 0 octets (Ok two) s1 s2 → WritesSynced Pick 0 (1 ∷ []) result s2 s3
      → OnOk result (IsKeptBy s3 A birth [] None) × LeavesOnly s0 s3 (IsUnbornOrFresh birth)
  bears_third s0 s1 s2 s3 one two result fits small first second third =
      let a = bears_area birth s0 s1 A octets (Ok one) small (omega (arith, ap length same)) first in
      let b = bears_area birth s1 s2 B octets (Ok two) a.0 (omega (arith, ap length same)) second in
      let sure_a : IsSure birth [] (past_of s2 A) = sure_other birth s1 s2 A B 0 octets (Ok two) refl second (bears_text birth s0 s1 A (Ok one) fits (at_text A (Ok one) s0 s1 first)) in
      let sure_b : IsSure birth [] (past_of s2 B) = bears_text birth s1 s2 B (Ok two) fits (at_text B (Ok two) s1 s2 second) in
      let p = bears_pick birth s2 s3 result fits (fresh_from birth s2 sure_a sure_b b.0) third in
      (p.0, leaves_both s0 s2 s3 (IsUnbornOrFresh birth) (leaves_both s0 s1 s2 (IsUnbornOrFresh birth) a.1 b.1) p.1)

  told_ok : (result : Result T DiskFailed) (P : Type 0) → OnTrue tells (OnOk result P) → OnOk result (OnTrue tells P)
  told_ok (Ok done) P is = is
  told_ok (Err failed) P is = tt

  pub bears_store : (s0 s1 s2 s3 : Story) (one two : T) (result : Result T DiskFailed) → birth < 2 ^ 64 → OnTrue tells (AreSmall most_unpicked s0) → OnTrue tells (WritesSynced A 0 octets (Ok one) s0 s1)
      → OnTrue tells (WritesSynced B 0 octets (Ok two) s1 s2) → OnTrue tells (WritesSynced Pick 0 (1 ∷ []) result s2 s3)
      → OnOk result (OnTrue tells (IsKeptBy s3 A birth [] None)) × OnTrue tells (LeavesOnly s0 s3 (IsUnbornOrFresh birth))
  bears_store s0 s1 s2 s3 one two result fits small first second third = (
    told_ok result (IsKeptBy s3 A birth [] None) (OnTrue_from tells _ (λ told. (bears_third s0 s1 s2 s3 one two result fits (OnTrue_at told small) (OnTrue_at told first) (OnTrue_at told second) (OnTrue_at told third)).0)),
    OnTrue_from tells _ (λ told. (bears_third s0 s1 s2 s3 one two result fits (OnTrue_at told small) (OnTrue_at told first) (OnTrue_at told second) (OnTrue_at told third)).1),
  )

-- ---- an opening

-- where nothing is done
pub opens_same : (birth : ℕ) (story : Story) → OpensOver birth story story
opens_same birth story = leaves_first story (λ image. (before : Areas) × IsImage story before × IsLike birth (stands before) (stands image)) (λ image is. (image, is, inl refl))

-- where a store is born
pub opens_unborn : (old new : Story) (birth : ℕ) → stands (reads old) ≡ unborn → LeavesOnly old new (IsUnbornOrFresh birth) → OpensOver birth old new
opens_unborn old new birth none leaves =
    leaves_weaker old new (IsUnbornOrFresh birth) (λ image. (before : Areas) × IsImage old before × IsLike birth (stands before) (stands image))
    (λ image is. (reads old, reads_image old, ⊎_elim (λ still. inl (still ∙ sym none)) (λ fresh. inr (none, fresh.0, fresh.1)) is)) leaves

-- behind syncs
pub opens_then : (birth : ℕ) (old mid new : Story) → LeavesOnly old mid (IsImage old) → OpensOver birth mid new → OpensOver birth old new
opens_then birth old mid new first second =
    leaves_both old mid new (λ image. (before : Areas) × IsImage old before × IsLike birth (stands before) (stands image))
    (leaves_weaker old mid (IsImage old) (λ image. (before : Areas) × IsImage old before × IsLike birth (stands before) (stands image)) (λ image is. (image, is, inl refl)) first)
    (leaves_weaker mid new (λ image. (before : Areas) × IsImage mid before × IsLike birth (stands before) (stands image)) (λ image. (before : Areas) × IsImage old before × IsLike birth (stands before) (stands image))
    (λ image is. (is.0, leaves_now old mid (IsImage old) first is.0 is.1, is.2)) second)

-- ---- the syncs at the start

module _ {T : Type 0} (tells : Bool) (s0 s1 s2 s3 : Story) (one two : T) (result : Result T DiskFailed) (first : OnTrue tells (Syncs A (Ok one) s0 s1)) (second : OnTrue tells (Syncs B (Ok two) s1 s2)) (third : OnTrue tells (Syncs Pick result s2 s3)) where
  pub settles_stops : OnTrue tells (LeavesOnly s0 s3 (IsImage s0))
  settles_stops = OnTrue_from tells _ (λ told. leaves_sync s0 s2 s3 Pick result (IsImage s0)
      (leaves_sync s0 s1 s2 B (Ok two) (IsImage s0) (leaves_sync s0 s0 s1 A (Ok one) (IsImage s0) (leaves_first s0 (IsImage s0) (λ image is. is)) (OnTrue_at told first)) (OnTrue_at told second)) (OnTrue_at told third))

-- two of them
pub settles_two : {T : Type 0} (tells : Bool) (s0 s1 s2 : Story) (one result : Result T DiskFailed) → OnTrue tells (Syncs A one s0 s1) → OnTrue tells (Syncs B result s1 s2) → OnTrue tells (LeavesOnly s0 s2 (IsImage s0))
settles_two tells s0 s1 s2 one result first second = OnTrue_from tells _ (λ told.
    leaves_sync s0 s1 s2 B result (IsImage s0) (leaves_sync s0 s0 s1 A one (IsImage s0) (leaves_first s0 (IsImage s0) (λ image is. is)) (OnTrue_at told first)) (OnTrue_at told second))

-- ---- a birth

-- a store that isn't born is small, where that is told
pub told_small : (tells : Bool) (story : Story) → OnTrue tells (AreAtRest story) → OnTrue tells (picked (reads story).pick ≡ None) → OnTrue tells (length (reads story).a ≤ 17) → OnTrue tells (length (reads story).b ≤ 17) → OnTrue tells (AreSmall most_unpicked story)
told_small tells story rest none a b = OnTrue_from tells _ (λ told. small_rest story (OnTrue_at told rest) (OnTrue_at told none) (OnTrue_at told a) (OnTrue_at told b))

-- nothing is done, which is told
pub told_same : (tells : Bool) (birth : ℕ) (old new : Story) → new ≡ old → OnTrue tells (OpensOver birth old new)
told_same tells birth old new same = OnTrue_from tells _ (λ told. subst (λ s. OpensOver birth old s) (sym same) (opens_same birth old))

-- a store is born
pub told_born : (tells : Bool) (birth : ℕ) (old mid new : Story) → mid ≡ old → OnTrue tells (stands (reads old) ≡ unborn) → OnTrue tells (LeavesOnly mid new (IsUnbornOrFresh birth)) → OnTrue tells (OpensOver birth old new)
told_born tells birth old mid new same none leaves = OnTrue_from tells _ (λ told. opens_unborn old new birth (OnTrue_at told none) (subst (λ s. LeavesOnly s new (IsUnbornOrFresh birth)) same (OnTrue_at told leaves)))

-- and a store may be opened behind syncs
pub told_then : (tells : Bool) (birth : ℕ) (old mid new : Story) → OnTrue tells (LeavesOnly old mid (IsImage old)) → OnTrue tells (OpensOver birth mid new) → OnTrue tells (OpensOver birth old new)
told_then tells birth old mid new first second = OnTrue_from tells _ (λ told. opens_then birth old mid new (OnTrue_at told first) (OnTrue_at told second))

pub told_settled : (tells : Bool) (birth : ℕ) (old new : Story) → OnTrue tells (LeavesOnly old new (IsImage old)) → OnTrue tells (OpensOver birth old new)
told_settled tells birth old new leaves = OnTrue_from tells _ (λ told. opens_then birth old new new (OnTrue_at told leaves) (opens_same birth new))

pub told_unborn : (tells : Bool) (story mid : Story) → mid ≡ story → OnTrue tells (picked (reads story).pick ≡ None) → OnTrue tells (length (reads story).a ≤ 17) → OnTrue tells (length (reads mid).b ≤ 17) → OnTrue tells (stands (reads story) ≡ unborn)
told_unborn tells story mid same none a b = OnTrue_from tells _ (λ told. unborn_small (reads story) (OnTrue_at told none) (OnTrue_at told a) (subst (λ s. length (reads s).b ≤ 17) same (OnTrue_at told b)))

-- ---- what is found

picks_long : (pick : List ℕ) (area : Area) → picked pick ≡ Some area → 1 ≤ length pick
picks_long [] area is = absurd (cc)
picks_long (first ∷ rest) area is = omega arith

text_kept : (story : Story) (area : Area) (birth : ℕ) (payloads : List (List ℕ)) → AreAtRest story → picked (reads story).pick ≡ Some area → IsText (octets_of (reads story) area) birth payloads → IsKeptBy story area birth payloads None
text_kept story area birth payloads rest picks text = record {
  pick = subst (IsFirm 1) (sym (rest Pick)) (firm_rest 1 (reads story).pick (picks_long (reads story).pick area picks));
  picks = picks;
  text = subst (IsSure birth payloads) (sym (rest area)) (text_sure birth payloads (octets_of (reads story) area) text);
}

-- a text in the picked area of a disk at rest is kept
pub kept_read : (tells : Bool) (before now : Story) (area : Area) (octets : List ℕ) (birth : ℕ) (payloads : List (List ℕ)) → now ≡ before → IsText octets birth payloads → OnTrue tells (picked (reads before).pick ≡ Some area) → OnTrue tells (AreAtRest before)
    → OnTrue tells (octets ≡ octets_of (reads before) area) → OnTrue tells (IsKeptBy now area birth payloads None)
kept_read tells before now area octets birth payloads same text picks rest read = OnTrue_from tells _ (λ told.
    subst (λ s. IsKeptBy s area birth payloads None) (sym same)
    (text_kept before area birth payloads (OnTrue_at told rest) (OnTrue_at told picks) (subst (λ (l : List ℕ). IsText l birth payloads) (OnTrue_at told read) text)))

-- and an opening finds it
pub stood_read : (tells : Bool) (before : Story) (area : Area) (octets : List ℕ) (new birth : ℕ) (payloads : List (List ℕ)) → IsText octets birth payloads → OnTrue tells (picked (reads before).pick ≡ Some area)
    → OnTrue tells (octets ≡ octets_of (reads before) area) → OnTrue tells (OpensAs (stands (reads before)) new birth area payloads)
stood_read tells before area octets new birth payloads text picks read = OnTrue_from tells _ (λ told.
    subst (λ s. OpensAs s new birth area payloads)
    (sym (stands_text (reads before) area birth payloads (OnTrue_at told picks) (subst (λ (l : List ℕ). IsText l birth payloads) (OnTrue_at told read) text)))
    (refl, refl, refl))
