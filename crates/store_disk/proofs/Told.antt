-- What the log of a disk in memory tells.
use Rattle.std.proofs.Common.{◌≡◌, inl, inr, ⊎_elim, ◌⊎◌, ℕ, ◌+◌, ◌≤◌, false, List, [], ◌∷◌, ◌++◌, length, take, drop, refl, sym, ◌∙◌, ap, arith, append_assoc, length-append, length-take, take-append-drop, take_at, take_all, append-nil, drop_at, drop-drop, true≢false}
use Rattle.std.proofs.lemmas.List.{drop_all}
use Rattle.store_disk.specs.Disk.{Areas, octets_of, with_octets, same_area, written, after_write}
use Rattle.store_disk.specs.MemDisk.{act_of, areas_before, cut_entry, octets_before, told, write_entry}
use Rattle.store_disk.specs.Story.{Past, tell, wrote, cut, synced, is_on, past_after, past_of, reads, Tears, Shortens}
use Rattle.store_disk.specs.declared.area.Area.{Area}
use Rattle.store_disk.specs.declared.area.Area.TheVariants.{A, B, Pick}
use Rattle.store_disk.specs.declared.entry.Deed.{Deed}
use Rattle.store_disk.specs.declared.entry.Deed.TheVariants.{Wrote, Cut, Synced}
use Rattle.store_disk.specs.declared.entry.Entry.{Entry}
use Rattle.store_disk.proofs.Pasts.{past_of-own, past_of-other, same_area-refl}

-- ---- areas

-- two areas are one or not
pub same_or_not : (area other : Area) → (area ≡ other) ⊎ (same_area area other ≡ false)
same_or_not A A = inl refl
same_or_not B B = inl refl
same_or_not Pick Pick = inl refl
same_or_not A B = inr refl
same_or_not A Pick = inr refl
same_or_not B A = inr refl
same_or_not B Pick = inr refl
same_or_not Pick A = inr refl
same_or_not Pick B = inr refl

pub octets_of-with : (areas : Areas) (area : Area) (octets : List ℕ) → octets_of (with_octets areas area octets) area ≡ octets
octets_of-with areas A octets = refl
octets_of-with areas B octets = refl
octets_of-with areas Pick octets = refl

pub octets_of-others : (areas : Areas) (area other : Area) (octets : List ℕ) → same_area area other ≡ false → octets_of (with_octets areas other octets) area ≡ octets_of areas area
octets_of-others areas A A octets off = absurd (true≢false off)
octets_of-others areas B B octets off = absurd (true≢false off)
octets_of-others areas Pick Pick octets off = absurd (true≢false off)
octets_of-others areas A B octets off = refl
octets_of-others areas A Pick octets off = refl
octets_of-others areas B A octets off = refl
octets_of-others areas B Pick octets off = refl
octets_of-others areas Pick A octets off = refl
octets_of-others areas Pick B octets off = refl

with_octets-again : (areas : Areas) (area : Area) (octets : List ℕ) → with_octets (with_octets areas area octets) area (octets_of areas area) ≡ areas
with_octets-again areas A octets = refl
with_octets-again areas B octets = refl
with_octets-again areas Pick octets = refl

with_octets-same : (areas : Areas) (area : Area) → with_octets areas area (octets_of areas area) ≡ areas
with_octets-same areas A = refl
with_octets-same areas B = refl
with_octets-same areas Pick = refl

-- ---- what the story reads as

pub is_on-act_of : (area other : Area) (deed : Deed) (octets : List ℕ) → is_on area (act_of other deed octets) ≡ same_area area other
is_on-act_of area other (Wrote at count was) octets = refl
is_on-act_of area other (Cut size was) octets = refl
is_on-act_of area other Synced octets = refl

octets_behind : (area : Area) (deed : Deed) (octets : List ℕ) (past : Past) → past.octets ≡ octets_before deed octets → (past_after (act_of area deed octets) past).octets ≡ octets
octets_behind area (Wrote at count was) octets past before = refl
octets_behind area (Cut size was) octets past before = refl
octets_behind area Synced octets past before = before

-- an area's past behind an entry of it, and of another area
pub told_own : (entry : Entry) (log : List Entry) (areas : Areas) (area : Area) → area ≡ entry.area
    → past_of (told (entry ∷ log) areas) area ≡ past_after (act_of area entry.deed (octets_of areas area)) (past_of (told log (areas_before entry areas)) area)
told_own entry log areas area same =
    let act = act_of entry.area entry.deed (octets_of areas entry.area) in
    past_of-own (told log (areas_before entry areas)) act area (is_on-act_of area entry.area entry.deed (octets_of areas entry.area) ∙ ap (λ a. same_area area a) (sym same) ∙ same_area-refl area)
    ∙ ap (λ a. past_after (act_of a entry.deed (octets_of areas a)) (past_of (told log (areas_before entry areas)) area)) (sym same)

pub told_other : (entry : Entry) (log : List Entry) (areas : Areas) (area : Area) → same_area area entry.area ≡ false → past_of (told (entry ∷ log) areas) area ≡ past_of (told log (areas_before entry areas)) area
told_other entry log areas area off =
    past_of-other (told log (areas_before entry areas)) (act_of entry.area entry.deed (octets_of areas entry.area)) area (is_on-act_of area entry.area entry.deed (octets_of areas entry.area) ∙ off)

-- an area reads as what the disk holds there
pub octets_told : (log : List Entry) (areas : Areas) (area : Area) → (past_of (told log areas) area).octets ≡ octets_of areas area
octets_told [] areas area = refl
octets_told (entry ∷ log) areas area = ⊎_elim
    (λ same. ap (λ (past : Past). past.octets) (told_own entry log areas area same)
    ∙ octets_behind area entry.deed (octets_of areas area) (past_of (told log (areas_before entry areas)) area)
    (octets_told log (areas_before entry areas) area
    ∙ ap (λ a. octets_of (with_octets areas a (octets_before entry.deed (octets_of areas a))) area) (sym same)
    ∙ octets_of-with areas area (octets_before entry.deed (octets_of areas area))))
    (λ off. ap (λ (past : Past). past.octets) (told_other entry log areas area off)
    ∙ octets_told log (areas_before entry areas) area
    ∙ octets_of-others areas area entry.area (octets_before entry.deed (octets_of areas entry.area)) off)
    (same_or_not area entry.area)

-- the story reads as what the disk holds
pub reads_told : (log : List Entry) (areas : Areas) → reads (told log areas) ≡ areas
reads_told log areas = λ i. record { a = octets_told log areas A i; b = octets_told log areas B i; pick = octets_told log areas Pick i }

pub read_told : (log : List Entry) (areas : Areas) (area : Area) → octets_of (reads (told log areas)) area ≡ octets_of areas area
read_told log areas area = ap (λ areas. octets_of areas area) (reads_told log areas)

-- ---- one call

-- the story behind one entry more, which takes back what its call did
pub told_more : (call : ℕ) (area : Area) (deed : Deed) (log : List Entry) (areas : Areas) (octets : List ℕ) → octets_before deed octets ≡ octets_of areas area
    → told (record { call = call; area = area; deed = deed } ∷ log) (with_octets areas area octets) ≡ tell (act_of area deed octets) (told log areas)
told_more call area deed log areas octets before =
    let now = with_octets areas area octets in
    let is = octets_of-with areas area octets in
    let back : with_octets now area (octets_before deed (octets_of now area)) ≡ areas =
    ap (λ (l : List ℕ). with_octets now area (octets_before deed l)) is ∙ ap (λ (l : List ℕ). with_octets now area l) before ∙ with_octets-again areas area octets in
    ap (λ (l : List ℕ). tell (act_of area deed l) (told log (with_octets now area (octets_before deed (octets_of now area))))) is
    ∙ ap (λ areas. tell (act_of area deed octets) (told log areas)) back

-- octets in three pieces
pub three : (at count : ℕ) (octets : List ℕ) → take at octets ++ take count (drop at octets) ++ drop (at + count) octets ≡ octets
three at count octets =
    append_assoc (take at octets) (take count (drop at octets)) (drop (at + count) octets)
    ∙ ap (λ (l : List ℕ). take at octets ++ (take count (drop at octets) ++ l)) (sym (drop-drop count at octets))
    ∙ ap (λ (l : List ℕ). take at octets ++ l) (take-append-drop count (drop at octets))
    ∙ take-append-drop at octets

-- what stood in the range of a write takes it back
unwritten : (at : ℕ) (octets bytes : List ℕ) → at ≤ length octets
    → take at (written octets at bytes) ++ take (length bytes) (drop at octets) ++ drop (at + length bytes) (written octets at bytes) ≡ octets
unwritten at octets bytes le =
    let size : length (take at octets) ≡ at = omega (arith, le, length-take at octets) in
    let back = drop (at + length bytes) octets in
    let front : take at (written octets at bytes) ≡ take at octets =
    ap (λ (l : List ℕ). take at l) (append_assoc (take at octets) bytes back) ∙ take_at (take at octets) (bytes ++ back) at size in
    let rest : drop (at + length bytes) (written octets at bytes) ≡ back = drop_at (take at octets ++ bytes) back (at + length bytes) (omega (arith, size, length-append (take at octets) bytes)) in
    ap (λ (l : List ℕ). l ++ take (length bytes) (drop at octets) ++ drop (at + length bytes) (written octets at bytes)) front
    ∙ ap (λ (l : List ℕ). take at octets ++ take (length bytes) (drop at octets) ++ l) rest
    ∙ three at (length bytes) octets

-- a good write
pub told_written : (call : ℕ) (area : Area) (at : ℕ) (bytes : List ℕ) (log new_log : List Entry) (areas new : Areas) → at ≤ length (octets_of areas area)
    → new_log ≡ write_entry call area at (length bytes) areas ∷ log → new ≡ after_write area at bytes areas
    → told new_log new ≡ tell (wrote area at (length bytes) (written (octets_of (reads (told log areas)) area) at bytes)) (told log areas)
told_written call area at bytes log new_log areas new le noted wrote_now =
    let octets = octets_of areas area in
    (λ i. told (noted i) (wrote_now i))
    ∙ told_more call area (Wrote at (length bytes) (take (length bytes) (drop at octets))) log areas (written octets at bytes) (unwritten at octets bytes le)
    ∙ ap (λ (l : List ℕ). tell (wrote area at (length bytes) (written l at bytes)) (told log areas)) (sym (read_told log areas area))

-- a write that failed and left what the disk holds
pub told_unwritten : (call : ℕ) (area : Area) (at count : ℕ) (log new_log : List Entry) (areas new : Areas) → new_log ≡ write_entry call area at count areas ∷ log → new ≡ areas
    → (octets : List ℕ) × (told new_log new ≡ tell (wrote area at count octets) (told log areas)) × Tears at count (octets_of (reads (told log areas)) area) octets
told_unwritten call area at count log new_log areas new noted same =
    let octets = octets_of areas area in
    let read = read_told log areas area in (
      octets,
      (λ i. told (noted i) (same i))
          ∙ ap (λ a. told (write_entry call area at count areas ∷ log) a) (sym (with_octets-same areas area))
          ∙ told_more call area (Wrote at count (take count (drop at octets))) log areas octets (three at count octets),
      record {
        before = ap (λ (l : List ℕ). take at l) (sym read);
        behind = ap (λ (l : List ℕ). drop (at + count) l) (sym read);
        no_shorter = omega (arith, ap length read);
        no_longer = omega (arith, ap length read);
      },
    )

-- a good cut
pub told_cut : (call : ℕ) (area : Area) (size : ℕ) (log new_log : List Entry) (areas new : Areas) → new_log ≡ cut_entry call area size size areas ∷ log → new ≡ with_octets areas area (take size (octets_of areas area))
    → told new_log new ≡ tell (cut area size (take size (octets_of (reads (told log areas)) area))) (told log areas)
told_cut call area size log new_log areas new noted cut_now =
    let octets = octets_of areas area in
    (λ i. told (noted i) (cut_now i))
    ∙ told_more call area (Cut size (drop size octets)) log areas (take size octets) (take-append-drop size octets)
    ∙ ap (λ (l : List ℕ). tell (cut area size (take size l)) (told log areas)) (sym (read_told log areas area))

-- a cut that failed and left what the disk holds
pub told_uncut : (call : ℕ) (area : Area) (size left : ℕ) (log new_log : List Entry) (areas new : Areas) → size ≤ length (octets_of areas area) → left ≡ length (octets_of areas area)
    → new_log ≡ cut_entry call area size left areas ∷ log → new ≡ areas
    → (octets : List ℕ) × (told new_log new ≡ tell (cut area size octets) (told log areas)) × Shortens size (octets_of (reads (told log areas)) area) octets
told_uncut call area size left log new_log areas new le all noted same =
    let octets = octets_of areas area in
    let read = read_told log areas area in (
      octets,
      (λ i. told (noted i) (same i))
          ∙ ap (λ a. told (cut_entry call area size left areas ∷ log) a) (sym (with_octets-same areas area))
          ∙ told_more call area (Cut size (drop left octets)) log areas octets (ap (λ (l : List ℕ). octets ++ l) (drop_all left octets (omega (arith, all))) ∙ append-nil octets),
      record {
        front = sym (take_all (length octets) octets (omega arith)) ∙ ap (λ (l : List ℕ). take (length octets) l) (sym read);
        no_shorter = le;
      },
    )

-- a good sync
pub told_synced : (call : ℕ) (area : Area) (log new_log : List Entry) (areas new : Areas) → new_log ≡ record { call = call; area = area; deed = Synced } ∷ log → new ≡ areas
    → told new_log new ≡ tell (synced area) (told log areas)
told_synced call area log new_log areas new noted same =
    (λ i. told (noted i) (same i))
    ∙ ap (λ a. told (record { call = call; area = area; deed = Synced } ∷ log) a) (sym (with_octets-same areas area))
    ∙ told_more call area Synced log areas (octets_of areas area) refl
