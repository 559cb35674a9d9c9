-- What a stop may leave of an area by what became of it.
use Rattle.std.proofs.Common.{◌≡◌, inl, inr, ⊎_elim, ℕ, suc, ◌+◌, ◌<◌, ◌≤◌, max, Bool, true, false, cond, List, [], ◌∷◌, ◌++◌, length, get_or, set, take, drop, refl, sym, ◌∙◌, ap, subst, arith, append_assoc, length-append, length-take, length-drop, length-set, take-append-drop, take_at, drop_at, take-take, drop-drop, ext_get_or, get_or-take, get_or-set_same, get_or-set_other}
use Rattle.std.proofs.lemmas.Bool.{cases_eq}
use Rattle.std.proofs.lemmas.List.{take-append-le, drop_more, set_split}
use Rattle.std.specs.List.{AllByRecursion}
use Rattle.std.specs.Prelude.{Result, Ok, Err}
use Rattle.store_disk.specs.Disk.{Areas, octets_of, same_area, written}
use Rattle.store_disk.specs.Doubt.{IsFirm, IsGate, IsButFor}
use Rattle.store_disk.specs.Story.{Act, Story, Past, tell, wrote, cut, synced, is_on, past_after, past_in, past_of, at_rest, reads, MayLeave, IsImage, IsAmong, Tears, Writes, Cuts, Syncs}
use Rattle.store_disk.specs.declared.area.Area.{Area}
use Rattle.store_disk.specs.declared.area.Area.TheVariants.{A, B, Pick}
use Rattle.store_disk.specs.declared.disk.DiskFailed.{DiskFailed}

-- ---- stories

-- what an area reads as
pub octets_of-reads : (story : Story) (area : Area) → octets_of (reads story) area ≡ (past_of story area).octets
octets_of-reads story A = refl
octets_of-reads story B = refl
octets_of-reads story Pick = refl

pub same_area-refl : (area : Area) → same_area area area ≡ true
same_area-refl A = refl
same_area-refl B = refl
same_area-refl Pick = refl

-- an act on an area
pub past_of-own : (story : Story) (act : Act) (area : Area) → is_on area act ≡ true → past_of (tell act story) area ≡ past_after act (past_of story area)
past_of-own story act area on = ap (λ b. cond b (past_after act (past_of story area)) (past_of story area)) on

-- an act on another one
pub past_of-other : (story : Story) (act : Act) (area : Area) → is_on area act ≡ false → past_of (tell act story) area ≡ past_of story area
past_of-other story act area off = ap (λ b. cond b (past_after act (past_of story area)) (past_of story area)) off

-- what an area had at its last good sync and what it reads as are no shorter than its least length, and no longer than its greatest
pub record HasBounds (past : Past) : Type 0 where
  pub least : past.least ≤ length past.octets
  pub greatest : length past.octets ≤ past.greatest
  pub least_settled : past.least ≤ length past.settled
  pub greatest_settled : length past.settled ≤ past.greatest

rest_bounds : (octets : List ℕ) → HasBounds (at_rest octets)
rest_bounds octets = record { least = omega arith; greatest = omega arith; least_settled = omega arith; greatest_settled = omega arith }

bounds_after : (act : Act) (past : Past) → HasBounds past → HasBounds (past_after act past)
bounds_after (wrote area at count octets) past is =
    record { least = omega arith; greatest = omega arith; least_settled = omega (arith, is.least_settled); greatest_settled = omega (arith, is.greatest_settled) }
bounds_after (cut area size octets) past is =
    record { least = omega arith; greatest = omega arith; least_settled = omega (arith, is.least_settled); greatest_settled = omega (arith, is.greatest_settled) }
bounds_after (synced area) past is = rest_bounds past.octets

bounds_chosen : (on : Bool) (act : Act) (past : Past) → HasBounds past → HasBounds (cond on (past_after act past) past)
bounds_chosen true act past is = bounds_after act past is
bounds_chosen false act past is = is

bounds_in : (area : Area) (start : Areas) (acts : List Act) → HasBounds (past_in area start acts)
bounds_in area start [] = rest_bounds (octets_of start area)
bounds_in area start (act ∷ acts) = bounds_chosen (is_on area act) act (past_in area start acts) (bounds_in area start acts)

pub past_of-bounds : (story : Story) (area : Area) → HasBounds (past_of story area)
past_of-bounds story area = bounds_in area story.start story.acts

-- ---- syncs

-- at rest a stop leaves what is read
pub rest_image : (octets image : List ℕ) → MayLeave (at_rest octets) image → image ≡ octets
rest_image octets image (inl same) = same
rest_image octets image (inr torn) =
    let long : length image ≡ length octets = omega (arith, torn.no_shorter, torn.no_longer) in
    ext_get_or 0 image octets long (λ place lt. ⊎_elim (λ doubt. ⊎_elim (λ past. absurd (omega (arith, past, lt, long))) (λ among. absurd among) doubt) (λ same. same) (torn.kept place lt))

-- after a good sync a stop leaves of that area what is read
pub synced_image : (story : Story) (area : Area) (image : Areas) → IsImage (tell (synced area) story) image → octets_of image area ≡ octets_of (reads story) area
synced_image story area image is =
    rest_image (past_of story area).octets (octets_of image area) (subst (λ past. MayLeave past (octets_of image area)) (past_of-own story (synced area) area (same_area-refl area)) (is area))
    ∙ sym (octets_of-reads story area)

unsettled : (on : Bool) (past : Past) (octets : List ℕ) → MayLeave (cond on (at_rest past.octets) past) octets → MayLeave past octets
unsettled true past octets may = inl (rest_image past.octets octets may)
unsettled false past octets may = may

-- a good sync makes no new image
pub synced_old : (story : Story) (area : Area) (image : Areas) → IsImage (tell (synced area) story) image → IsImage story image
synced_old story area image is other = unsettled (same_area other area) (past_of story other) (octets_of image other) (is other)

-- ---- octets in front of all that was written

pub firm_rest : (n : ℕ) (octets : List ℕ) → n ≤ length octets → IsFirm n (at_rest octets)
firm_rest n octets le = record { behind = tt; least = le; settled = le; within = le; front = refl }

behind_less : (m n : ℕ) (ranges : List (ℕ × ℕ)) → m ≤ n → AllByRecursion (λ range. n ≤ range.0) ranges → AllByRecursion (λ range. m ≤ range.0) ranges
behind_less m n [] le all = tt
behind_less m n (range ∷ ranges) le all = (omega (arith, le, all.0), behind_less m n ranges le all.1)

-- a front of octets that have one front
front_less : (m n : ℕ) (xs ys : List ℕ) → m ≤ n → take n xs ≡ take n ys → take m xs ≡ take m ys
front_less m n xs ys le same = sym (take-take m n xs le) ∙ ap (λ (l : List ℕ). take m l) same ∙ take-take m n ys le

pub firm_less : (m n : ℕ) (past : Past) → m ≤ n → IsFirm n past → IsFirm m past
firm_less m n past le firm = record {
  behind = behind_less m n past.ranges le firm.behind;
  least = omega (arith, le, firm.least);
  settled = omega (arith, le, firm.settled);
  within = omega (arith, le, firm.within);
  front = front_less m n past.octets past.settled le firm.front;
}

not_behind : (n place : ℕ) (ranges : List (ℕ × ℕ)) → AllByRecursion (λ range. n ≤ range.0) ranges → place < n → IsAmong ranges place → ⊥
not_behind n place [] all lt among = among
not_behind n place (range ∷ ranges) all lt (inl within) = omega (arith, all.0, lt, within.0)
not_behind n place (range ∷ ranges) all lt (inr among) = not_behind n place ranges all.1 lt among

pub firm_length : (n : ℕ) (past : Past) (image : List ℕ) → IsFirm n past → MayLeave past image → n ≤ length image
firm_length n past image firm (inl same) = omega (arith, firm.within, ap length same)
firm_length n past image firm (inr torn) = omega (arith, firm.least, torn.no_shorter)

-- a stop leaves them
pub firm_image : (n : ℕ) (past : Past) (image : List ℕ) → IsFirm n past → MayLeave past image → take n image ≡ take n past.octets
firm_image n past image firm (inl same) = ap (λ (l : List ℕ). take n l) same
firm_image n past image firm (inr torn) =
    let long : n ≤ length image = omega (arith, firm.least, torn.no_shorter) in
    ext_get_or 0 (take n image) (take n past.settled) (omega (arith, long, firm.settled, length-take n image, length-take n past.settled))
    (λ place lt.
    let low : place < n = omega (arith, lt, length-take n image) in
    get_or-take n image place 0 low
    ∙ ⊎_elim (λ doubt. ⊎_elim (λ over. absurd (omega (arith, over, low, firm.settled))) (λ among. absurd (not_behind n place past.ranges firm.behind low among)) doubt) (λ same. same) (torn.kept place (omega (arith, low, long)))
    ∙ sym (get_or-take n past.settled place 0 low))
    ∙ sym firm.front

firm_wrote : (n : ℕ) (past : Past) (area : Area) (at count : ℕ) (octets : List ℕ) → IsFirm n past → n ≤ at → n ≤ length octets → take n octets ≡ take n past.octets → IsFirm n (past_after (wrote area at count octets) past)
firm_wrote n past area at count octets firm le long same = record {
  behind = (le, firm.behind);
  least = omega (arith, firm.least, long);
  settled = firm.settled;
  within = long;
  front = same ∙ firm.front;
}

firm_shorter : (n : ℕ) (past : Past) (area : Area) (size : ℕ) (octets : List ℕ) → IsFirm n past → n ≤ size → n ≤ length octets → take n octets ≡ take n past.octets → IsFirm n (past_after (cut area size octets) past)
firm_shorter n past area size octets firm le long same = record {
  behind = firm.behind;
  least = omega (arith, firm.least, long, le);
  settled = firm.settled;
  within = long;
  front = same ∙ firm.front;
}

-- the front of what was written over behind it
written_front : (n at : ℕ) (octets bytes : List ℕ) → n ≤ at → n ≤ length octets → take n (written octets at bytes) ≡ take n octets
written_front n at octets bytes le long =
    let front : n ≤ length (take at octets) = omega (arith, le, long, length-take at octets) in
    take-append-le n (take at octets ++ bytes) (drop (at + length bytes) octets) (omega (arith, front, length-append (take at octets) bytes))
    ∙ take-append-le n (take at octets) bytes front ∙ take-take n at octets le

pub length-written : (at : ℕ) (octets bytes : List ℕ) → at ≤ length octets → length (written octets at bytes) ≡ max (length octets) (at + length bytes)
length-written at octets bytes le =
    omega (arith, le, length-append (take at octets ++ bytes) (drop (at + length bytes) octets), length-append (take at octets) bytes, length-take at octets, length-drop (at + length bytes) octets)

written_long : (n at : ℕ) (octets bytes : List ℕ) → n ≤ at → n ≤ length octets → n ≤ length (written octets at bytes)
written_long n at octets bytes le long =
    omega (arith, le, long, length-append (take at octets ++ bytes) (drop (at + length bytes) octets), length-append (take at octets) bytes, length-take at octets)

-- the past of an area behind an act on it
own : (old new : Story) (act : Act) (area : Area) → is_on area act ≡ true → new ≡ tell act old → past_after act (past_of old area) ≡ past_of new area
own old new act area on told = sym (ap (λ s. past_of s area) told ∙ past_of-own old act area on)

-- a write behind them keeps them, good or failed
pub firm_write : {T : Type 0} (n : ℕ) (old new : Story) (area : Area) (at : ℕ) (bytes : List ℕ) (result : Result T DiskFailed) → IsFirm n (past_of old area) → n ≤ at → Writes area at bytes result old new
    → IsFirm n (past_of new area)
firm_write n old new area at bytes (Ok done) firm le writes =
    let octets = octets_of (reads old) area in
    let read = octets_of-reads old area in
    let long : n ≤ length octets = omega (arith, firm.within, ap length read) in
    subst (IsFirm n) (own old new (wrote area at (length bytes) (written octets at bytes)) area (same_area-refl area) writes)
    (firm_wrote n (past_of old area) area at (length bytes) (written octets at bytes) firm le (written_long n at octets bytes le long) (written_front n at octets bytes le long ∙ ap (λ (l : List ℕ). take n l) read))
firm_write n old new area at bytes (Err failed) firm le (inl same) = subst (λ s. IsFirm n (past_of s area)) (sym same) firm
firm_write n old new area at bytes (Err failed) firm le (inr torn) =
    let octets = octets_of (reads old) area in
    let read = octets_of-reads old area in
    subst (IsFirm n) (own old new (wrote area at (length bytes) torn.0) area (same_area-refl area) torn.1)
    (firm_wrote n (past_of old area) area at (length bytes) torn.0 firm le (omega (arith, firm.within, ap length read, torn.2.no_shorter)) (front_less n at torn.0 octets le torn.2.before ∙ ap (λ (l : List ℕ). take n l) read))

-- and so does a cut behind them
pub firm_cut : {T : Type 0} (n : ℕ) (old new : Story) (area : Area) (size : ℕ) (result : Result T DiskFailed) → IsFirm n (past_of old area) → n ≤ size → Cuts area size result old new → IsFirm n (past_of new area)
firm_cut n old new area size (Ok done) firm le cuts =
    let octets = octets_of (reads old) area in
    let read = octets_of-reads old area in
    subst (IsFirm n) (own old new (cut area size (take size octets)) area (same_area-refl area) cuts)
    (firm_shorter n (past_of old area) area size (take size octets) firm le (omega (arith, firm.within, ap length read, le, length-take size octets)) (take-take n size octets le ∙ ap (λ (l : List ℕ). take n l) read))
firm_cut n old new area size (Err failed) firm le (inl same) = subst (λ s. IsFirm n (past_of s area)) (sym same) firm
firm_cut n old new area size (Err failed) firm le (inr short) =
    let octets = octets_of (reads old) area in
    let read = octets_of-reads old area in
    let long : n ≤ length short.0 = omega (arith, le, short.2.no_shorter) in
    subst (IsFirm n) (own old new (cut area size short.0) area (same_area-refl area) short.1)
    (firm_shorter n (past_of old area) area size short.0 firm le long (ap (λ (l : List ℕ). take n l) short.2.front ∙ take-take n (length short.0) octets long ∙ ap (λ (l : List ℕ). take n l) read))

firm_settled : (on : Bool) (n : ℕ) (past : Past) → IsFirm n past → IsFirm n (cond on (at_rest past.octets) past)
firm_settled true n past firm = firm_rest n past.octets firm.within
firm_settled false n past firm = firm

-- and a sync of any area
pub firm_sync : {T : Type 0} (n : ℕ) (old new : Story) (area other : Area) (result : Result T DiskFailed) → IsFirm n (past_of old area) → Syncs other result old new → IsFirm n (past_of new area)
firm_sync n old new area other (Ok done) firm syncs = subst (λ s. IsFirm n (past_of s area)) (sym syncs) (firm_settled (same_area area other) n (past_of old area) firm)
firm_sync n old new area other (Err failed) firm syncs = subst (λ s. IsFirm n (past_of s area)) (sym syncs) firm

-- ---- one octet in doubt

-- octets in three parts
around : (place : ℕ) (octets : List ℕ) → place < length octets → octets ≡ take place octets ++ get_or octets place 0 ∷ drop (place + 1) octets
around place octets lt = sym (take-append-drop place octets) ∙ ap (λ (l : List ℕ). take place octets ++ l) (drop_more octets place 0 lt)

but_for : (place : ℕ) (settled octets : List ℕ) → place < length octets → take place octets ≡ take place settled → drop (place + 1) octets ≡ drop (place + 1) settled → IsButFor place settled octets
but_for place settled octets lt front back =
    let gate = get_or octets place 0 in
    (gate, around place octets lt ∙ ap (λ (l : List ℕ). l ++ gate ∷ drop (place + 1) octets) front ∙ ap (λ (l : List ℕ). take place settled ++ gate ∷ l) back)

-- their front, their back and how many they are
record Around (place : ℕ) (settled octets : List ℕ) : Type 0 where
  pub front : take place octets ≡ take place settled
  pub back : drop (place + 1) octets ≡ drop (place + 1) settled
  pub long : length octets ≡ length settled

parts : (place : ℕ) (settled octets : List ℕ) → place < length settled → IsButFor place settled octets → Around place settled octets
parts place settled octets lt is =
    let size : length (take place settled) ≡ place = omega (arith, lt, length-take place settled) in
    record {
      front = ap (λ (l : List ℕ). take place l) is.1 ∙ take_at (take place settled) (is.0 ∷ drop (place + 1) settled) place size;
      back = ap (λ (l : List ℕ). drop (place + 1) l) is.1 ∙ sym (drop-drop 1 place (take place settled ++ is.0 ∷ drop (place + 1) settled))
          ∙ ap (λ (l : List ℕ). drop 1 l) (drop_at (take place settled) (is.0 ∷ drop (place + 1) settled) place size);
      long = omega (arith, ap length is.1, length-append (take place settled) (is.0 ∷ drop (place + 1) settled), size, length-drop (place + 1) settled, lt);
    }

pub gate_rest : (place : ℕ) (octets : List ℕ) → place < length octets → IsGate place (at_rest octets)
gate_rest place octets lt = record { inside = lt; alone = tt; least = refl; greatest = refl; reads = but_for place octets octets lt refl refl }

only_gate : (place other : ℕ) (ranges : List (ℕ × ℕ)) → AllByRecursion (λ range. (range.0 ≡ place) × (range.1 ≡ 1)) ranges → IsAmong ranges other → other ≡ place
only_gate place other [] all among = absurd among
only_gate place other (range ∷ ranges) all (inl within) = omega (arith, all.0.0, all.0.1, within.0, within.1)
only_gate place other (range ∷ ranges) all (inr among) = only_gate place other ranges all.1 among

-- a stop leaves what was settled but for the octet at that place
pub gate_image : (place : ℕ) (past : Past) (image : List ℕ) → IsGate place past → MayLeave past image → IsButFor place past.settled image
gate_image place past image gate (inl same) = subst (IsButFor place past.settled) (sym same) gate.reads
gate_image place past image gate (inr torn) =
    let octet = get_or image place 0 in
    let long : length image ≡ length past.settled = omega (arith, torn.no_shorter, torn.no_longer, gate.least, gate.greatest) in
    let put = set past.settled place octet in
    let same : image ≡ put = ext_get_or 0 image put (omega (arith, long, length-set past.settled place octet)) (λ other lt. ⊎_elim
    (λ here. ap (λ n. get_or image n 0) here ∙ sym (get_or-set_same past.settled place octet 0 gate.inside) ∙ ap (λ n. get_or put n 0) (sym here))
    (λ there. ⊎_elim
    (λ doubt. ⊎_elim (λ over. absurd (omega (arith, over, lt, long))) (λ among. absurd (there (only_gate place other past.ranges gate.alone among))) doubt)
    (λ kept. kept ∙ sym (get_or-set_other past.settled place other octet 0 there))
    (torn.kept other lt))
    (cases_eq other place)) in
    let next : suc place ≡ place + 1 = omega arith in
    (octet, same ∙ set_split past.settled place octet gate.inside ∙ ap (λ n. take place past.settled ++ octet ∷ drop n past.settled) next)

gate_wrote : (place : ℕ) (past : Past) (area : Area) (octets : List ℕ) → IsGate place past → IsButFor place past.settled octets → IsGate place (past_after (wrote area place 1 octets) past)
gate_wrote place past area octets gate is =
    let long = (parts place past.settled octets gate.inside is).long in
    record {
      inside = gate.inside;
      alone = ((refl, refl), gate.alone);
      least = omega (arith, gate.least, long);
      greatest = omega (arith, gate.greatest, long, gate.inside);
      reads = is;
    }

-- one octet over that one
gate_written : (place octet : ℕ) (settled octets : List ℕ) → place < length settled → IsButFor place settled octets → IsButFor place settled (written octets place (octet ∷ []))
gate_written place octet settled octets lt is =
    let p = parts place settled octets lt is in
    (octet, append_assoc (take place octets) (octet ∷ []) (drop (place + 1) octets) ∙ ap (λ (l : List ℕ). l ++ octet ∷ drop (place + 1) octets) p.front ∙ ap (λ (l : List ℕ). take place settled ++ octet ∷ l) p.back)

gate_torn : (place : ℕ) (settled octets new : List ℕ) → place < length settled → IsButFor place settled octets → Tears place 1 octets new → IsButFor place settled new
gate_torn place settled octets new lt is torn =
    let p = parts place settled octets lt is in
    but_for place settled new (omega (arith, lt, p.long, torn.no_shorter)) (torn.before ∙ p.front) (torn.behind ∙ p.back)

-- a write of one octet there keeps it so, good or failed
pub gate_write : {T : Type 0} (place octet : ℕ) (old new : Story) (area : Area) (result : Result T DiskFailed) → IsGate place (past_of old area) → Writes area place (octet ∷ []) result old new
    → IsGate place (past_of new area) × ((past_of new area).settled ≡ (past_of old area).settled)
gate_write place octet old new area (Ok done) gate writes =
    let past = past_of old area in
    let octets = written (octets_of (reads old) area) place (octet ∷ []) in
    subst (λ new. IsGate place new × (new.settled ≡ past.settled)) (own old new (wrote area place 1 octets) area (same_area-refl area) writes)
    (gate_wrote place past area octets gate (gate_written place octet past.settled (octets_of (reads old) area) gate.inside (subst (IsButFor place past.settled) (sym (octets_of-reads old area)) gate.reads)), refl)
gate_write place octet old new area (Err failed) gate (inl same) = subst (λ s. IsGate place (past_of s area) × ((past_of s area).settled ≡ (past_of old area).settled)) (sym same) (gate, refl)
gate_write place octet old new area (Err failed) gate (inr torn) =
    let past = past_of old area in
    subst (λ new. IsGate place new × (new.settled ≡ past.settled)) (own old new (wrote area place 1 torn.0) area (same_area-refl area) torn.1)
    (gate_wrote place past area torn.0 gate (gate_torn place past.settled (octets_of (reads old) area) torn.0 gate.inside (subst (IsButFor place past.settled) (sym (octets_of-reads old area)) gate.reads) torn.2), refl)

-- ---- one call

-- a write to another area, a cut of it or a sync of it leaves an area's past
pub other_write : {T : Type 0} (old new : Story) (area other : Area) (at : ℕ) (bytes : List ℕ) (result : Result T DiskFailed) → same_area area other ≡ false → Writes other at bytes result old new → past_of new area ≡ past_of old area
other_write old new area other at bytes (Ok done) off writes = ap (λ s. past_of s area) writes ∙ past_of-other old (wrote other at (length bytes) (written (octets_of (reads old) other) at bytes)) area off
other_write old new area other at bytes (Err failed) off (inl same) = ap (λ s. past_of s area) same
other_write old new area other at bytes (Err failed) off (inr torn) = ap (λ s. past_of s area) torn.1 ∙ past_of-other old (wrote other at (length bytes) torn.0) area off

pub other_cut : {T : Type 0} (old new : Story) (area other : Area) (size : ℕ) (result : Result T DiskFailed) → same_area area other ≡ false → Cuts other size result old new → past_of new area ≡ past_of old area
other_cut old new area other size (Ok done) off cuts = ap (λ s. past_of s area) cuts ∙ past_of-other old (cut other size (take size (octets_of (reads old) other))) area off
other_cut old new area other size (Err failed) off (inl same) = ap (λ s. past_of s area) same
other_cut old new area other size (Err failed) off (inr short) = ap (λ s. past_of s area) short.1 ∙ past_of-other old (cut other size short.0) area off

pub other_sync : {T : Type 0} (old new : Story) (area other : Area) (result : Result T DiskFailed) → same_area area other ≡ false → Syncs other result old new → past_of new area ≡ past_of old area
other_sync old new area other (Ok done) off syncs = ap (λ s. past_of s area) syncs ∙ past_of-other old (synced other) area off
other_sync old new area other (Err failed) off syncs = ap (λ s. past_of s area) syncs

-- what an area reads as behind a good write and a good cut of it, and its past behind a good sync
pub wrote_past : {T : Type 0} (old new : Story) (area : Area) (at : ℕ) (bytes : List ℕ) (done : T) → Writes area at bytes (Ok done) old new → (past_of new area).octets ≡ written (past_of old area).octets at bytes
wrote_past old new area at bytes done writes =
    ap (λ (past : Past). past.octets) (sym (own old new (wrote area at (length bytes) (written (octets_of (reads old) area) at bytes)) area (same_area-refl area) writes)) ∙ ap (λ (l : List ℕ). written l at bytes) (octets_of-reads old area)

pub cut_past : {T : Type 0} (old new : Story) (area : Area) (size : ℕ) (done : T) → Cuts area size (Ok done) old new → (past_of new area).octets ≡ take size (past_of old area).octets
cut_past old new area size done cuts =
    ap (λ (past : Past). past.octets) (sym (own old new (cut area size (take size (octets_of (reads old) area))) area (same_area-refl area) cuts)) ∙ ap (λ (l : List ℕ). take size l) (octets_of-reads old area)

pub synced_past : {T : Type 0} (old new : Story) (area : Area) (done : T) → Syncs area (Ok done) old new → past_of new area ≡ at_rest (past_of old area).octets
synced_past old new area done syncs = sym (own old new (synced area) area (same_area-refl area) syncs)
