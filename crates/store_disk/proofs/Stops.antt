-- What a stop leaves of a disk in memory.
use Rattle.std.proofs.Common.{◌≡◌, inl, inr, ⊎_elim, ◌⊎◌, ℕ, suc, ◌+◌, ◌≤◌, Bool, true, false, cond, ◌&&◌, ◌||◌, nat_lt, nat_le, ◌==◌, List, [], ◌∷◌, ◌++◌, length, map, get_or, take, drop, reverse, refl, sym, ◌∙◌, ap, subst, arith, length-append, length-take, take-append-drop, true≢false, leb→le, T}
use Rattle.std.proofs.lemmas.Bool.{cond_both, le-ltb, ltb-true}
use Rattle.std.proofs.lemmas.List.{length-reverse, reverse-append}
use Rattle.std.proofs.lemmas.List.FromFn.{get_or-map-range_with_len, length-map-range_with_len}
use Rattle.std.specs.List.{range_with_len}
use Rattle.store_disk.specs.Disk.{Areas, octets_of, same_area, with_octets}
use Rattle.store_disk.specs.MemDisk.{act_of, areas_before, octets_before, told}
use Rattle.store_disk.specs.Stop.{is_among, is_synced, octet_left, octets_left, octets_through, ranges_in, settled_in, stopped_octets, with_range}
use Rattle.store_disk.specs.Story.{Story, Past, moment_of, past_after, past_of, up_to, IsAmong, IsImage, IsDoubtful, MayLeave}
use Rattle.store_disk.specs.declared.area.Area.{Area}
use Rattle.store_disk.specs.declared.area.Area.TheVariants.{A, B, Pick}
use Rattle.store_disk.specs.declared.entry.Deed.{Deed}
use Rattle.store_disk.specs.declared.entry.Deed.TheVariants.{Wrote, Cut, Synced}
use Rattle.store_disk.specs.declared.entry.Entry.{Entry}
use Rattle.store_disk.proofs.Leaving.{up_to_before, up_to_now}
use Rattle.store_disk.proofs.Pasts.{HasBounds, past_of-bounds, same_area-refl}
use Rattle.store_disk.proofs.Told.{octets_of-others, octets_of-with, octets_told, same_or_not, told_other, told_own}

-- ---- an area before an entry

before_own : (entry : Entry) (areas : Areas) (area : Area) → area ≡ entry.area → octets_of (areas_before entry areas) area ≡ octets_before entry.deed (octets_of areas area)
before_own entry areas area same =
    ap (λ a. octets_of (with_octets areas a (octets_before entry.deed (octets_of areas a))) area) (sym same) ∙ octets_of-with areas area (octets_before entry.deed (octets_of areas area))

before_other : (entry : Entry) (areas : Areas) (area : Area) → same_area area entry.area ≡ false → octets_of (areas_before entry areas) area ≡ octets_of areas area
before_other entry areas area off = octets_of-others areas area entry.area (octets_before entry.deed (octets_of areas entry.area)) off

on_own : (area other : Area) → area ≡ other → same_area area other ≡ true
on_own area other same = ap (λ a. same_area area a) (sym same) ∙ same_area-refl area

-- ---- the past of a log

settled_behind : (area : Area) (deed : Deed) (octets rest : List ℕ) (past : Past) → past.settled ≡ rest → past.octets ≡ octets_before deed octets
    → (past_after (act_of area deed octets) past).settled ≡ cond (is_synced deed) octets rest
settled_behind area (Wrote at count was) octets rest past is before = is
settled_behind area (Cut size was) octets rest past is before = is
settled_behind area Synced octets rest past is before = before

ranges_behind : (area : Area) (deed : Deed) (octets : List ℕ) (rest : List (ℕ × ℕ)) (past : Past) → past.ranges ≡ rest
    → (past_after (act_of area deed octets) past).ranges ≡ cond (is_synced deed) [] (with_range deed rest)
ranges_behind area (Wrote at count was) octets rest past is = ap (λ ranges. (at, count) ∷ ranges) is
ranges_behind area (Cut size was) octets rest past is = is
ranges_behind area Synced octets rest past is = refl

-- what was settled
pub settled_told : (log : List Entry) (areas : Areas) (area : Area) → (past_of (told log areas) area).settled ≡ settled_in area log (octets_of areas area)
settled_told [] areas area = refl
settled_told (entry ∷ log) areas area =
    let earlier = past_of (told log (areas_before entry areas)) area in
    let octets = octets_of areas area in
    ⊎_elim
    (λ same.
    let before = before_own entry areas area same in
    ap (λ (past : Past). past.settled) (told_own entry log areas area same)
    ∙ settled_behind area entry.deed octets (settled_in area log (octets_before entry.deed octets)) earlier
    (settled_told log (areas_before entry areas) area ∙ ap (settled_in area log) before)
    (octets_told log (areas_before entry areas) area ∙ before)
    ∙ ap (λ b. cond (cond b (is_synced entry.deed) false) octets (settled_in area log (cond b (octets_before entry.deed octets) octets))) (sym (on_own area entry.area same)))
    (λ off. ap (λ (past : Past). past.settled) (told_other entry log areas area off)
    ∙ settled_told log (areas_before entry areas) area
    ∙ ap (settled_in area log) (before_other entry areas area off)
    ∙ ap (λ b. cond (cond b (is_synced entry.deed) false) octets (settled_in area log (cond b (octets_before entry.deed octets) octets))) (sym off))
    (same_or_not area entry.area)

-- what was written since
pub ranges_told : (log : List Entry) (areas : Areas) (area : Area) → (past_of (told log areas) area).ranges ≡ ranges_in area log
ranges_told [] areas area = refl
ranges_told (entry ∷ log) areas area =
    let earlier = past_of (told log (areas_before entry areas)) area in
    let rest = ranges_in area log in
    ⊎_elim
    (λ same. ap (λ (past : Past). past.ranges) (told_own entry log areas area same)
    ∙ ranges_behind area entry.deed (octets_of areas area) rest earlier (ranges_told log (areas_before entry areas) area)
    ∙ ap (λ b. cond (cond b (is_synced entry.deed) false) [] (cond b (with_range entry.deed rest) rest)) (sym (on_own area entry.area same)))
    (λ off. ap (λ (past : Past). past.ranges) (told_other entry log areas area off)
    ∙ ranges_told log (areas_before entry areas) area
    ∙ ap (λ b. cond (cond b (is_synced entry.deed) false) [] (cond b (with_range entry.deed rest) rest)) (sym off))
    (same_or_not area entry.area)

-- ---- a moment of a log

-- the areas before all entries
abbrev areas_through : List Entry → Areas → Areas
areas_through [] areas = areas
areas_through (entry ∷ log) areas = areas_through log (areas_before entry areas)

octets_of-through : (log : List Entry) (areas : Areas) (area : Area) → octets_of (areas_through log areas) area ≡ octets_through area log (octets_of areas area)
octets_of-through [] areas area = refl
octets_of-through (entry ∷ log) areas area =
    octets_of-through log (areas_before entry areas) area
    ∙ ap (octets_through area log) (⊎_elim
    (λ same. before_own entry areas area same ∙ ap (λ b. cond b (octets_before entry.deed (octets_of areas area)) (octets_of areas area)) (sym (on_own area entry.area same)))
    (λ off. before_other entry areas area off ∙ ap (λ b. cond b (octets_before entry.deed (octets_of areas area)) (octets_of areas area)) (sym off))
    (same_or_not area entry.area))

-- each entry tells one act
pub moment_of-told : (log : List Entry) (areas : Areas) → moment_of (told log areas) ≡ length log
moment_of-told [] areas = refl
moment_of-told (entry ∷ log) areas = ap suc (moment_of-told log (areas_before entry areas))

-- the story as it was before the later entries
up_to-told : (later earlier : List Entry) (areas : Areas) → up_to (length earlier) (told (later ++ earlier) areas) ≡ told earlier (areas_through later areas)
up_to-told [] earlier areas = up_to_now (told earlier areas) (length earlier) (omega (arith, moment_of-told earlier areas))
up_to-told (entry ∷ later) earlier areas =
    up_to_before (told (later ++ earlier) (areas_before entry areas)) (act_of entry.area entry.deed (octets_of areas entry.area) ∷ []) (length earlier)
    (omega (arith, moment_of-told (later ++ earlier) (areas_before entry areas), length-append later earlier))
    ∙ up_to-told later earlier (areas_before entry areas)

-- what is left of an area at a moment, going back over the log
pub left_at : (log : List Entry) (areas : Areas) (area : Area) (moment choice : ℕ) → moment ≤ length log
    → octets_left (settled_in area (reverse (take moment log)) (octets_through area (reverse (drop moment log)) (octets_of areas area))) (ranges_in area (reverse (take moment log)))
    (octets_through area (reverse (drop moment log)) (octets_of areas area)) choice
    ≡ stopped_octets (past_of (up_to moment (told (reverse log) areas)) area) choice
left_at log areas area moment choice le =
    let earlier = reverse (take moment log) in
    let later = reverse (drop moment log) in
    let then = areas_through later areas in
    let split : reverse log ≡ later ++ earlier = ap reverse (sym (take-append-drop moment log)) ∙ reverse-append (take moment log) (drop moment log) in
    let long : moment ≡ length earlier = omega (arith, le, length-reverse (take moment log), length-take moment log) in
    let story : up_to moment (told (reverse log) areas) ≡ told earlier then = (λ i. up_to (long i) (told (split i) areas)) ∙ up_to-told later earlier areas in
    let read : octets_of then area ≡ octets_through area later (octets_of areas area) = octets_of-through later areas area in
    (λ i. octets_left (settled_in area earlier (sym read i)) (ranges_in area earlier) (sym read i) choice)
    ∙ (λ i. octets_left (sym (settled_told earlier then area) i) (sym (ranges_told earlier then area) i) (sym (octets_told earlier then area) i) choice)
    ∙ ap (λ s. stopped_octets (past_of s area) choice) (sym story)

-- ---- images

both : (a b : Bool) → (a && b) ≡ true → (a ≡ true) × (b ≡ true)
both true b is = (refl, is)
both false b is = absurd (true≢false (sym is))

either : (a b : Bool) → (a || b) ≡ true → (a ≡ true) ⊎ (b ≡ true)
either true b is = inl refl
either false b is = inr is

is_le : (a b : ℕ) → nat_le a b ≡ true → a ≤ b
is_le a b is = leb→le a b (subst T (sym is) tt)

among : (ranges : List (ℕ × ℕ)) (place : ℕ) → is_among ranges place ≡ true → IsAmong ranges place
among [] place is = absurd (true≢false (sym is))
among (range ∷ ranges) place is = ⊎_elim
    (λ within.
    let two = both (nat_le range.0 place) (nat_lt place (range.0 + range.1)) within in
    inl (is_le range.0 place two.0, ltb-true place (range.0 + range.1) two.1))
    (λ later. inr (among ranges place later))
    (either (nat_le range.0 place && nat_lt place (range.0 + range.1)) (is_among ranges place) is)

doubtful : (past : Past) (place : ℕ) → (nat_le (length past.settled) place || is_among past.ranges place) ≡ true → IsDoubtful past place
doubtful past place is = ⊎_elim (λ over. inl (is_le (length past.settled) place over)) (λ within. inr (among past.ranges place within)) (either (nat_le (length past.settled) place) (is_among past.ranges place) is)

-- what is left at a place that isn't in doubt
kept_at : (past : Past) (octet place : ℕ) → IsDoubtful past place ⊎ (octet_left past.settled past.ranges octet place ≡ get_or past.settled place 0)
kept_at past octet place =
    cond_both (nat_le (length past.settled) place || is_among past.ranges place) octet (get_or past.settled place 0) (λ x. IsDoubtful past place ⊎ (x ≡ get_or past.settled place 0))
    (λ is. inl (doubtful past place is)) (λ is. inr refl)

-- whatever is chosen, a stop may leave it
pub stopped_may : (past : Past) (choice : ℕ) → HasBounds past → MayLeave past (stopped_octets past choice)
stopped_may past choice is =
    let left = octet_left past.settled past.ranges choice in
    let turned = map left (range_with_len 0 (length past.octets)) in
    let long : length turned ≡ length past.octets = length-map-range_with_len left 0 (length past.octets) in
    cond_both (choice == 0) past.settled (cond (choice == 1) past.octets turned) (MayLeave past)
    (λ old. inr (record { no_shorter = is.least_settled; no_longer = is.greatest_settled; kept = λ place lt. inr refl }))
    (λ other. cond_both (choice == 1) past.octets turned (MayLeave past)
    (λ new. inl refl)
    (λ octet. inr (record {
      no_shorter = omega (arith, is.least, long);
      no_longer = omega (arith, is.greatest, long);
      kept = λ place lt. subst (λ x. IsDoubtful past place ⊎ (x ≡ get_or past.settled place 0))
          (sym (get_or-map-range_with_len left 0 (length past.octets) place place 0 (omega (arith, lt, long)) (omega arith))) (kept_at past choice place);
    })))

-- the areas that a stop leaves are an image
pub stopped_image : (story : Story) (moment choice : ℕ) (image : Areas) → ((area : Area) → octets_of image area ≡ stopped_octets (past_of (up_to moment story) area) choice) → IsImage (up_to moment story) image
stopped_image story moment choice image is area =
    let past = past_of (up_to moment story) area in
    subst (MayLeave past) (sym (is area)) (stopped_may past choice (past_of-bounds (up_to moment story) area))

-- where all is read they are what the disk holds
pub stopped_reads : (log : List Entry) (areas image : Areas) (moment choice : ℕ) → ((area : Area) → octets_of image area ≡ stopped_octets (past_of (up_to moment (told log areas)) area) choice)
    → moment ≡ length log → choice ≡ 1 → image ≡ areas
stopped_reads log areas image moment choice is all reads =
    let each : (area : Area) → octets_of image area ≡ octets_of areas area = λ area.
    is area
    ∙ (λ i. stopped_octets (past_of (up_to (all i) (told log areas)) area) (reads i))
    ∙ ap (λ story. (past_of story area).octets) (up_to_now (told log areas) (length log) (omega (arith, moment_of-told log areas)))
    ∙ octets_told log areas area in
    λ i. record { a = each A i; b = each B i; pick = each Pick i }

-- a call that wasn't made
pub unmade : {X : Type 0} (made call : ℕ) (x y : X) → made ≤ call → cond (nat_lt call made) x y ≡ y
unmade made call x y le = ap (λ b. cond b x y) (le-ltb call made le)
