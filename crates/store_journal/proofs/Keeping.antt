-- How each step of a journal keeps its payloads.
use Rattle.std.proofs.Common.{◌≡◌, inl, inr, ⊎_elim, ◌⊎◌, ℕ, ◌+◌, ◌<◌, ◌^◌, Bool, true, false, eqb, List, [], ◌∷◌, ◌++◌, length, take, drop, refl, sym, ◌∙◌, ap, subst, arith, append_assoc, length-append, take-append-drop, Some, None, Option, Result, Ok, Err}
use Rattle.std.specs.Prelude.{All, IsErr, IsOk, OnErr, OnOk}
use Rattle.std.specs.Bool.{OnTrue}
use Rattle.std.proofs.lemmas.Bool.{cases_Bool, eqb-true}
use Rattle.std.proofs.lemmas.List.{take_at, drop_at, append-nil}
use Rattle.std.proofs.lemmas.List.Concat.{flat_map-append}
use Rattle.std.proofs.lemmas.List.Elements.{All-append, All-from_recursion}
use Rattle.exact_octets.specs.Spelling.{counted}
use Rattle.store_disk.specs.Disk.{Areas, octets_of, same_area, written}
use Rattle.store_disk.specs.Doubt.{IsFirm, IsButFor}
use Rattle.store_disk.specs.Story.{Past, Story, wrote, past_of, at_rest, reads, IsImage, MayLeave, LeavesOnly, Writes, Syncs}
use Rattle.store_disk.specs.declared.area.Area.{Area}
use Rattle.store_disk.specs.declared.area.Area.TheVariants.{A, B, Pick}
use Rattle.store_disk.specs.declared.disk.DiskFailed.{DiskFailed}
use Rattle.store_disk.proofs.Pasts.{octets_of-reads, same_area-refl, past_of-own, firm_rest, firm_image, firm_write, firm_sync, gate_rest, gate_image, gate_write, other_write, other_sync, wrote_past, synced_past}
use Rattle.store_disk.proofs.Leaving.{leaves_first, leaves_write, leaves_sync}
use Rattle.store_journal.specs.Area.{born, header, unit, units, area_text, gate_place, stands, standing, picked, IsPayload, IsText}
use Rattle.store_journal.specs.Keeping.{IsSure, IsUnsure, IsKeptIn, IsKeptBy, WritesSynced}
use Rattle.store_journal.specs.Journal.{MayHold}
use Rattle.store_journal.proofs.Texts.{length-front, reading_is, never_pick}

-- ---- texts

-- payloads and one more
pub sizes_more : (payloads : List (List ℕ)) (payload : List ℕ) → All IsPayload payloads → IsPayload payload → All IsPayload (payloads ++ payload ∷ [])
sizes_more payloads payload sizes size = All-append IsPayload payloads (payload ∷ []) sizes (All-from_recursion IsPayload (payload ∷ []) (size, tt))

-- their units
pub units_more : (payloads : List (List ℕ)) (payload : List ℕ) → units (payloads ++ payload ∷ []) ≡ units payloads ++ unit payload
units_more payloads payload = flat_map-append unit payloads (payload ∷ []) ∙ ap (λ (l : List ℕ). units payloads ++ l) (append-nil (unit payload))

-- and the place of their closed gate
pub gate_more : (payloads : List (List ℕ)) (payload : List ℕ) → gate_place (payloads ++ payload ∷ []) ≡ gate_place payloads + length (unit payload)
gate_more payloads payload = omega (arith, ap length (units_more payloads payload), length-append (units payloads) (unit payload))

-- how long a text is up to its closed gate
length-text : (birth : ℕ) (payloads : List (List ℕ)) (gate : ℕ) → length (area_text birth payloads gate) ≡ gate_place payloads + 1
length-text birth payloads gate = omega (arith, length-append (header birth ++ units payloads) (gate ∷ []), length-front birth payloads)

regroup : (h u p behind : List ℕ) (next : ℕ) → (h ++ u) ++ (p ++ next ∷ behind) ≡ ((h ++ (u ++ p)) ++ next ∷ []) ++ behind
regroup h u p behind next = simp append_assoc

-- a closed gate, and whatever is behind it
closed_text : (birth : ℕ) (payloads : List (List ℕ)) (gate : ℕ) (behind : List ℕ) → birth < 2 ^ 64 → All IsPayload payloads → eqb gate 1 ≡ false → IsText ((header birth ++ units payloads) ++ gate ∷ behind) birth payloads
closed_text birth payloads gate behind small sizes closed = record {
  gate = gate;
  behind = behind;
  closed = closed;
  small = small;
  sizes = sizes;
  text = sym (append_assoc (header birth ++ units payloads) (gate ∷ []) behind);
}

-- an open gate before a payload, and a closed one behind it
opened_text : (birth : ℕ) (payloads : List (List ℕ)) (payload : List ℕ) (next : ℕ) (behind : List ℕ) → birth < 2 ^ 64 → All IsPayload payloads → IsPayload payload → eqb next 1 ≡ false
    → IsText ((header birth ++ units payloads) ++ 1 ∷ (counted 4 payload ++ next ∷ behind)) birth (payloads ++ payload ∷ [])
opened_text birth payloads payload next behind small sizes size closed = record {
  gate = next;
  behind = behind;
  closed = closed;
  small = small;
  sizes = sizes_more payloads payload sizes size;
  text = regroup (header birth) (units payloads) (unit payload) behind next ∙ sym (ap (λ (l : List ℕ). ((header birth ++ l) ++ next ∷ []) ++ behind) (units_more payloads payload));
}

-- any gate before a payload
gated_text : (birth : ℕ) (payloads : List (List ℕ)) (payload : List ℕ) (gate next : ℕ) (behind : List ℕ) → birth < 2 ^ 64 → All IsPayload payloads → IsPayload payload → eqb next 1 ≡ false
    → IsText ((header birth ++ units payloads) ++ gate ∷ (counted 4 payload ++ next ∷ behind)) birth payloads
    ⊎ IsText ((header birth ++ units payloads) ++ gate ∷ (counted 4 payload ++ next ∷ behind)) birth (payloads ++ payload ∷ [])
gated_text birth payloads payload gate next behind small sizes size closed =
    ⊎_elim
    (λ is_open. inr (subst (λ g. IsText ((header birth ++ units payloads) ++ g ∷ (counted 4 payload ++ next ∷ behind)) birth (payloads ++ payload ∷ [])) (sym (eqb-true gate 1 is_open))
    (opened_text birth payloads payload next behind small sizes size closed)))
    (λ is_closed. inl (closed_text birth payloads gate (counted 4 payload ++ next ∷ behind) small sizes is_closed))
    (cases_Bool (eqb gate 1))

-- octets with another one at a place
other_gate : (front rest : List ℕ) (gate octet place : ℕ) (all : List ℕ) → length front ≡ place → all ≡ (front ++ gate ∷ []) ++ rest → take place all ++ octet ∷ drop (place + 1) all ≡ front ++ octet ∷ rest
other_gate front rest gate octet place all long is =
    let start : take place all ≡ front = ap (take place) (is ∙ append_assoc front (gate ∷ []) rest) ∙ take_at front (gate ∷ rest) place long in
    let end : drop (place + 1) all ≡ rest = ap (drop (place + 1)) is ∙ drop_at (front ++ gate ∷ []) rest (place + 1) (omega (arith, long, length-append front (gate ∷ []))) in
    ap (λ (l : List ℕ). l ++ octet ∷ drop (place + 1) all) start ∙ ap (λ (l : List ℕ). front ++ octet ∷ l) end

-- ---- one area

-- a stop leaves the text of the payloads
pub sure_image : (birth : ℕ) (payloads : List (List ℕ)) (past : Past) (image : List ℕ) → birth < 2 ^ 64 → All IsPayload payloads → IsSure birth payloads past → MayLeave past image → IsText image birth payloads
sure_image birth payloads past image small sizes sure may =
    let n = gate_place payloads + 1 in
    record {
      gate = sure.gate;
      behind = drop n image;
      closed = sure.closed;
      small = small;
      sizes = sizes;
      text = sym (take-append-drop n image) ∙ ap (λ (l : List ℕ). l ++ drop n image) (firm_image n past image sure.firm may ∙ sure.firm.front ∙ sure.text);
    }

-- octets that are an unsure text but for its gate
unsure_parts : (birth : ℕ) (payloads : List (List ℕ)) (unsure : List ℕ) (past : Past) (octets : List ℕ) (is : IsUnsure birth payloads unsure past) (but : IsButFor (gate_place payloads) past.settled octets)
    → octets ≡ (header birth ++ units payloads) ++ but.0 ∷ (counted 4 unsure ++ is.next ∷ is.behind)
unsure_parts birth payloads unsure past octets is but =
    but.1 ∙ other_gate (header birth ++ units payloads) (counted 4 unsure ++ is.next ∷ is.behind) is.gate but.0 (gate_place payloads) past.settled (length-front birth payloads) is.text

-- and where one is unsure, that or the text with it
pub unsure_image : (birth : ℕ) (payloads : List (List ℕ)) (unsure : List ℕ) (past : Past) (image : List ℕ) → birth < 2 ^ 64 → All IsPayload payloads → IsUnsure birth payloads unsure past → MayLeave past image
    → IsText image birth payloads ⊎ IsText image birth (payloads ++ unsure ∷ [])
unsure_image birth payloads unsure past image small sizes is may =
    let but = gate_image (gate_place payloads) past image is.doubt may in
    subst (λ (l : List ℕ). IsText l birth payloads ⊎ IsText l birth (payloads ++ unsure ∷ [])) (sym (unsure_parts birth payloads unsure past image is but))
    (gated_text birth payloads unsure but.0 is.next is.behind small sizes is.size is.closed)

-- a text at rest is sure
pub text_sure : (birth : ℕ) (payloads : List (List ℕ)) (octets : List ℕ) → IsText octets birth payloads → IsSure birth payloads (at_rest octets)
text_sure birth payloads octets is =
    let n = gate_place payloads + 1 in
    let long : length (area_text birth payloads is.gate) ≡ n = length-text birth payloads is.gate in
    record {
      gate = is.gate;
      closed = is.closed;
      firm = firm_rest n octets (omega (arith, long, ap length is.text, length-append (area_text birth payloads is.gate) is.behind));
      text = ap (take n) is.text ∙ take_at (area_text birth payloads is.gate) is.behind n long;
    }

-- ---- stories

-- a write leaves what was at rest
settled_write : {T : Type 0} (old new : Story) (area : Area) (at : ℕ) (bytes : List ℕ) (result : Result T DiskFailed) → Writes area at bytes result old new → (past_of new area).settled ≡ (past_of old area).settled
settled_write old new area at bytes (Ok done) writes =
    ap (λ s. (past_of s area).settled) writes ∙ ap (λ (past : Past). past.settled) (past_of-own old (wrote area at (length bytes) (written (octets_of (reads old) area) at bytes)) area (same_area-refl area))
settled_write old new area at bytes (Err failed) (inl same) = ap (λ s. (past_of s area).settled) same
settled_write old new area at bytes (Err failed) (inr torn) =
    ap (λ s. (past_of s area).settled) torn.1 ∙ ap (λ (past : Past). past.settled) (past_of-own old (wrote area at (length bytes) torn.0) area (same_area-refl area))

-- a write behind the closed gate, good or failed, keeps what is sure
pub sure_write : {T : Type 0} (old new : Story) (area : Area) (birth : ℕ) (payloads : List (List ℕ)) (bytes : List ℕ) (result : Result T DiskFailed) → IsSure birth payloads (past_of old area) → Writes area (gate_place payloads + 1) bytes result old new → IsSure birth payloads (past_of new area)
sure_write old new area birth payloads bytes result sure writes = record {
  gate = sure.gate;
  closed = sure.closed;
  firm = firm_write (gate_place payloads + 1) old new area (gate_place payloads + 1) bytes result sure.firm (omega arith) writes;
  text = ap (take (gate_place payloads + 1)) (settled_write old new area (gate_place payloads + 1) bytes result writes) ∙ sure.text;
}

-- and so does a sync
pub sure_sync : {T : Type 0} (old new : Story) (area : Area) (birth : ℕ) (payloads : List (List ℕ)) (result : Result T DiskFailed) → IsSure birth payloads (past_of old area) → Syncs area result old new → IsSure birth payloads (past_of new area)
sure_sync old new area birth payloads (Ok done) sure syncs = record {
  gate = sure.gate;
  closed = sure.closed;
  firm = firm_sync (gate_place payloads + 1) old new area area (Ok done) sure.firm syncs;
  text = ap (λ (past : Past). take (gate_place payloads + 1) past.settled) (synced_past old new area done syncs) ∙ sure.firm.front ∙ sure.text;
}
sure_sync old new area birth payloads (Err failed) sure syncs = subst (λ s. IsSure birth payloads (past_of s area)) (sym syncs) sure

-- a write to the gate keeps what is unsure
unsure_write : {T : Type 0} (old new : Story) (area : Area) (birth : ℕ) (payloads : List (List ℕ)) (unsure : List ℕ) (octet : ℕ) (result : Result T DiskFailed) → IsUnsure birth payloads unsure (past_of old area)
    → Writes area (gate_place payloads) (octet ∷ []) result old new → IsUnsure birth payloads unsure (past_of new area)
unsure_write old new area birth payloads unsure octet result is writes =
    let now = gate_write (gate_place payloads) octet old new area result is.doubt writes in
    record { gate = is.gate; next = is.next; behind = is.behind; closed = is.closed; size = is.size; doubt = now.0; text = now.1 ∙ is.text }

-- ---- what a stop leaves

picked_front : (octets : List ℕ) → picked octets ≡ picked (take 1 octets)
picked_front [] = refl
picked_front (first ∷ rest) = refl

-- a stop leaves the area that is picked
pub picked_image : (story : Story) (area : Area) (image : Areas) → IsFirm 1 (past_of story Pick) → picked (past_of story Pick).octets ≡ Some area → IsImage story image → picked image.pick ≡ Some area
picked_image story area image firm picks is =
    picked_front image.pick ∙ ap picked (firm_image 1 (past_of story Pick) image.pick firm (is Pick)) ∙ sym (picked_front (past_of story Pick).octets) ∙ picks

-- areas stand for the text of the picked one
pub stands_text : (areas : Areas) (area : Area) (birth : ℕ) (payloads : List (List ℕ)) → picked areas.pick ≡ Some area → IsText (octets_of areas area) birth payloads → stands areas ≡ born birth area payloads
stands_text areas area birth payloads picks text = ap (standing areas) picks ∙ reading_is area (octets_of areas area) birth payloads text

-- Of a disk that keeps payloads a stop leaves areas that hold them.
pub kept_image : (story : Story) (area : Area) (birth : ℕ) (payloads : List (List ℕ)) (unsure : Option (List ℕ)) (image : Areas) → birth < 2 ^ 64 → All IsPayload payloads → IsKeptBy story area birth payloads unsure → IsImage story image
    → MayHold birth area payloads unsure image
kept_image story area birth payloads None image small sizes kept is =
    stands_text image area birth payloads (picked_image story area image kept.pick kept.picks is) (sure_image birth payloads (past_of story area) (octets_of image area) small sizes kept.text (is area))
kept_image story area birth payloads (Some unsure) image small sizes kept is =
    let picks = picked_image story area image kept.pick kept.picks is in
    ⊎_elim (λ without. inl (stands_text image area birth payloads picks without)) (λ with_it. inr (stands_text image area birth (payloads ++ unsure ∷ []) picks with_it))
    (unsure_image birth payloads unsure (past_of story area) (octets_of image area) small sizes kept.text (is area))

-- what a disk reads as is one of its images
pub reads_image : (story : Story) → IsImage story (reads story)
reads_image story = λ area. inl (octets_of-reads story area)

-- ---- a write and a sync

pub commit_leaves : {T : Type 0} (area : Area) (at : ℕ) (bytes : List ℕ) (result : Result T DiskFailed) (old new : Story) (P : Areas → Type 0) (commit : WritesSynced area at bytes result old new)
    → ((image : Areas) → IsImage old image → P image) → ((image : Areas) → IsImage commit.mid image → P image) → LeavesOnly old new P
commit_leaves area at bytes result old new P commit before then =
    leaves_sync old commit.mid new area result P (leaves_write old old commit.mid area at bytes commit.wrote P (leaves_first old P before) commit.writes then) commit.syncs

-- the area that Pick picks isn't Pick
pub pick_apart : (octets : List ℕ) (area : Area) → picked octets ≡ Some area → same_area Pick area ≡ false
pick_apart octets A is = refl
pick_apart octets B is = refl
pick_apart [] Pick is = absurd (cc)
pick_apart (first ∷ rest) Pick is = absurd (never_pick (eqb first 2) is)

-- a write to the picked area, or a sync of it, leaves Pick
kept_write : {T : Type 0} (old new : Story) (area : Area) (birth : ℕ) (payloads : List (List ℕ)) (unsure then : Option (List ℕ)) (at : ℕ) (bytes : List ℕ) (result : Result T DiskFailed) → IsKeptBy old area birth payloads unsure → Writes area at bytes result old new
    → (payloads_then : List (List ℕ)) → IsKeptIn birth payloads_then then (past_of new area) → IsKeptBy new area birth payloads_then then
kept_write old new area birth payloads unsure then at bytes result kept writes payloads_then text =
    let same : past_of new Pick ≡ past_of old Pick = other_write old new Pick area at bytes result (pick_apart (past_of old Pick).octets area kept.picks) writes in
    record { pick = subst (IsFirm 1) (sym same) kept.pick; picks = ap (λ (past : Past). picked past.octets) same ∙ kept.picks; text = text }

kept_sync : {T : Type 0} (old new : Story) (area : Area) (birth : ℕ) (payloads : List (List ℕ)) (unsure then : Option (List ℕ)) (result : Result T DiskFailed) → IsKeptBy old area birth payloads unsure → Syncs area result old new
    → (payloads_then : List (List ℕ)) → IsKeptIn birth payloads_then then (past_of new area) → IsKeptBy new area birth payloads_then then
kept_sync old new area birth payloads unsure then result kept syncs payloads_then text =
    let same : past_of new Pick ≡ past_of old Pick = other_sync old new Pick area result (pick_apart (past_of old Pick).octets area kept.picks) syncs in
    record { pick = subst (IsFirm 1) (sym same) kept.pick; picks = ap (λ (past : Past). picked past.octets) same ∙ kept.picks; text = text }

-- a good write and a sync, good or failed
pub written_then : {T : Type 0} (tells : Bool) (area : Area) (at : ℕ) (bytes : List ℕ) (done : T) (result : Result T DiskFailed) (old mid new : Story) → OnTrue tells (Writes area at bytes (Ok done) old mid) → OnTrue tells (Syncs area result mid new)
    → OnTrue tells (WritesSynced area at bytes result old new)
written_then true area at bytes done (Ok now) old mid new writes syncs = record { wrote = Ok done; mid = mid; writes = writes; syncs = syncs; ok = refl }
written_then true area at bytes done (Err failed) old mid new writes syncs = record { wrote = Ok done; mid = mid; writes = writes; syncs = syncs; ok = tt }
written_then false area at bytes done result old mid new writes syncs = tt

-- a failed write
pub unwritten : {T : Type 0} (tells : Bool) (area : Area) (at : ℕ) (bytes : List ℕ) (failed : DiskFailed) (result : Result T DiskFailed) (old new : Story) → OnTrue tells (Writes area at bytes {T = T} (Err failed) old new) → IsErr result
    → OnTrue tells (WritesSynced area at bytes result old new)
unwritten true area at bytes failed (Err now) old new writes is = record { wrote = Err now; mid = new; writes = writes; syncs = refl; ok = tt }
unwritten true area at bytes failed (Ok done) old new writes is = absurd (cc)
unwritten false area at bytes failed result old new writes is = tt

-- ---- the body of a payload

-- octets behind the closed gate
body_text : (birth : ℕ) (payloads : List (List ℕ)) (payload : List ℕ) (gate : ℕ) (octets bytes : List ℕ) → bytes ≡ counted 4 payload ++ 0 ∷ [] → take (gate_place payloads + 1) octets ≡ area_text birth payloads gate
    → written octets (gate_place payloads + 1) bytes ≡ area_text birth payloads gate ++ (counted 4 payload ++ 0 ∷ drop (gate_place payloads + 1 + length bytes) octets)
body_text birth payloads payload gate octets bytes are front =
    let rest = drop (gate_place payloads + 1 + length bytes) octets in
    append_assoc (take (gate_place payloads + 1) octets) bytes rest
    ∙ ap (λ (l : List ℕ). l ++ (bytes ++ rest)) front
    ∙ ap (λ (l : List ℕ). area_text birth payloads gate ++ (l ++ rest)) are
    ∙ ap (λ (l : List ℕ). area_text birth payloads gate ++ l) (append_assoc (counted 4 payload) (0 ∷ []) rest)

-- at rest they are the body of a payload that is unsure
body_rest : {T : Type 0} (old mid new : Story) (area : Area) (birth : ℕ) (payloads : List (List ℕ)) (payload bytes : List ℕ) (write : Result T DiskFailed) (done : T) → IsPayload payload → bytes ≡ counted 4 payload ++ 0 ∷ []
    → IsSure birth payloads (past_of old area) → IsOk write → Writes area (gate_place payloads + 1) bytes write old mid → Syncs area (Ok done) mid new → IsUnsure birth payloads payload (past_of new area)
body_rest old mid new area birth payloads payload bytes (Err failed) done size are sure good writes syncs = absurd (cc)
body_rest old mid new area birth payloads payload bytes (Ok now) done size are sure good writes syncs =
    let octets = (past_of old area).octets in
    let all = written octets (gate_place payloads + 1) bytes in
    let rest = drop (gate_place payloads + 1 + length bytes) octets in
    let text : all ≡ area_text birth payloads sure.gate ++ (counted 4 payload ++ 0 ∷ rest) = body_text birth payloads payload sure.gate octets bytes are (sure.firm.front ∙ sure.text) in
    let past : at_rest all ≡ past_of new area = sym (synced_past mid new area done syncs ∙ ap at_rest (wrote_past old mid area (gate_place payloads + 1) bytes now writes)) in
    subst (IsUnsure birth payloads payload) past (record {
      gate = sure.gate;
      next = 0;
      behind = rest;
      closed = refl;
      size = size;
      doubt = gate_rest (gate_place payloads) all (omega (arith, ap length text, length-append (area_text birth payloads sure.gate) (counted 4 payload ++ 0 ∷ rest), length-text birth payloads sure.gate));
      text = text;
    })

-- The body of a payload is written behind the closed gate, and synced: whatever is answered, the payloads are as they were; after Ok the payload
-- is unsure as well, so that its gate can be opened.
pub record PutsBody {T : Type 0} (old new : Story) (area : Area) (birth : ℕ) (payloads : List (List ℕ)) (payload : List ℕ) (result : Result T DiskFailed) : Type 0 where
  pub kept : IsKeptBy new area birth payloads None
  pub put : OnOk result (IsKeptBy new area birth payloads (Some payload))
  pub stops : LeavesOnly old new (MayHold birth area payloads (Some payload))

body_put : {T : Type 0} (old mid new : Story) (area : Area) (birth : ℕ) (payloads : List (List ℕ)) (payload bytes : List ℕ) (write result : Result T DiskFailed) → IsPayload payload → bytes ≡ counted 4 payload ++ 0 ∷ []
    → IsKeptBy old area birth payloads None → IsKeptBy mid area birth payloads None → OnOk result (IsOk write) → Writes area (gate_place payloads + 1) bytes write old mid → Syncs area result mid new → OnOk result (IsKeptBy new area birth payloads (Some payload))
body_put old mid new area birth payloads payload bytes write (Err failed) size are kept kept_mid good writes syncs = tt
body_put old mid new area birth payloads payload bytes write (Ok done) size are kept kept_mid good writes syncs =
    kept_sync mid new area birth payloads None (Some payload) (Ok done) kept_mid syncs payloads
    (body_rest old mid new area birth payloads payload bytes write done size are kept.text good writes syncs)

pub puts_body : {T : Type 0} (old new : Story) (area : Area) (birth : ℕ) (payloads : List (List ℕ)) (payload bytes : List ℕ) (result : Result T DiskFailed) → birth < 2 ^ 64 → All IsPayload payloads → IsPayload payload → bytes ≡ counted 4 payload ++ 0 ∷ []
    → IsKeptBy old area birth payloads None → WritesSynced area (gate_place payloads + 1) bytes result old new → PutsBody old new area birth payloads payload result
puts_body old new area birth payloads payload bytes result small sizes size are kept commit =
    let kept_mid : IsKeptBy commit.mid area birth payloads None = kept_write old commit.mid area birth payloads None None (gate_place payloads + 1) bytes commit.wrote kept commit.writes payloads
    (sure_write old commit.mid area birth payloads bytes commit.wrote kept.text commit.writes) in
    record {
      kept = kept_sync commit.mid new area birth payloads None None result kept_mid commit.syncs payloads (sure_sync commit.mid new area birth payloads result kept_mid.text commit.syncs);
      put = body_put old commit.mid new area birth payloads payload bytes commit.wrote result size are kept kept_mid commit.ok commit.writes commit.syncs;
      stops = commit_leaves area (gate_place payloads + 1) bytes result old new (MayHold birth area payloads (Some payload)) commit
          (λ image is. inl (kept_image old area birth payloads None image small sizes kept is)) (λ image is. inl (kept_image commit.mid area birth payloads None image small sizes kept_mid is));
    }

-- ---- its gate

-- an unsure text with its gate written over, at rest
gate_rest_text : {T : Type 0} (old mid new : Story) (area : Area) (birth : ℕ) (payloads : List (List ℕ)) (unsure : List ℕ) (octet : ℕ) (write : Result T DiskFailed) (done : T) (is : IsUnsure birth payloads unsure (past_of old area))
    → IsOk write → Writes area (gate_place payloads) (octet ∷ []) write old mid → Syncs area (Ok done) mid new
    → past_of new area ≡ at_rest ((header birth ++ units payloads) ++ octet ∷ (counted 4 unsure ++ is.next ∷ is.behind))
gate_rest_text old mid new area birth payloads unsure octet (Err failed) done is good writes syncs = absurd (cc)
gate_rest_text old mid new area birth payloads unsure octet (Ok now) done is good writes syncs =
    let octets = (past_of old area).octets in
    let front = header birth ++ units payloads in
    let rest = counted 4 unsure ++ is.next ∷ is.behind in
    let parts : octets ≡ front ++ is.doubt.reads.0 ∷ rest = unsure_parts birth payloads unsure (past_of old area) octets is is.doubt.reads in
    synced_past mid new area done syncs
    ∙ ap at_rest (wrote_past old mid area (gate_place payloads) (octet ∷ []) now writes
    ∙ append_assoc (take (gate_place payloads) octets) (octet ∷ []) (drop (gate_place payloads + 1) octets)
    ∙ other_gate front rest is.doubt.reads.0 octet (gate_place payloads) octets (length-front birth payloads) (parts ∙ sym (append_assoc front (is.doubt.reads.0 ∷ []) rest)))

-- what such a write leaves where it fails
pub record WritesGate {T : Type 0} (old new : Story) (area : Area) (birth : ℕ) (payloads : List (List ℕ)) (unsure : List ℕ) (octet : ℕ) (result : Result T DiskFailed) : Type 0 where
  pub opened : OnOk result (octet ≡ 1 → IsKeptBy new area birth (payloads ++ unsure ∷ []) None)
  pub closed : OnOk result (octet ≡ 0 → IsKeptBy new area birth payloads None)
  pub failed : OnErr result (IsKeptBy new area birth payloads (Some unsure))
  pub stops : LeavesOnly old new (MayHold birth area payloads (Some unsure))

gate_opened : {T : Type 0} (old mid new : Story) (area : Area) (birth : ℕ) (payloads : List (List ℕ)) (unsure : List ℕ) (octet : ℕ) (write result : Result T DiskFailed) → birth < 2 ^ 64 → All IsPayload payloads → octet ≡ 1
    → IsKeptBy old area birth payloads (Some unsure) → IsKeptBy mid area birth payloads (Some unsure) → OnOk result (IsOk write) → Writes area (gate_place payloads) (octet ∷ []) write old mid → Syncs area result mid new
    → OnOk result (IsKeptBy new area birth (payloads ++ unsure ∷ []) None)
gate_opened old mid new area birth payloads unsure octet write (Err failed) small sizes is_open kept kept_mid good writes syncs = tt
gate_opened old mid new area birth payloads unsure octet write (Ok done) small sizes is_open kept kept_mid good writes syncs =
    let is = kept.text in
    let rest = counted 4 unsure ++ is.next ∷ is.behind in
    kept_sync mid new area birth payloads (Some unsure) None (Ok done) kept_mid syncs (payloads ++ unsure ∷ [])
    (subst (IsSure birth (payloads ++ unsure ∷ []))
    (sym (gate_rest_text old mid new area birth payloads unsure octet write done is good writes syncs ∙ ap (λ n. at_rest ((header birth ++ units payloads) ++ n ∷ rest)) is_open))
    (text_sure birth (payloads ++ unsure ∷ []) ((header birth ++ units payloads) ++ 1 ∷ rest) (opened_text birth payloads unsure is.next is.behind small sizes is.size is.closed)))

gate_closed : {T : Type 0} (old mid new : Story) (area : Area) (birth : ℕ) (payloads : List (List ℕ)) (unsure : List ℕ) (octet : ℕ) (write result : Result T DiskFailed) → birth < 2 ^ 64 → All IsPayload payloads → octet ≡ 0
    → IsKeptBy old area birth payloads (Some unsure) → IsKeptBy mid area birth payloads (Some unsure) → OnOk result (IsOk write) → Writes area (gate_place payloads) (octet ∷ []) write old mid → Syncs area result mid new
    → OnOk result (IsKeptBy new area birth payloads None)
gate_closed old mid new area birth payloads unsure octet write (Err failed) small sizes is_closed kept kept_mid good writes syncs = tt
gate_closed old mid new area birth payloads unsure octet write (Ok done) small sizes is_closed kept kept_mid good writes syncs =
    let is = kept.text in
    let rest = counted 4 unsure ++ is.next ∷ is.behind in
    kept_sync mid new area birth payloads (Some unsure) None (Ok done) kept_mid syncs payloads
    (subst (IsSure birth payloads)
    (sym (gate_rest_text old mid new area birth payloads unsure octet write done is good writes syncs ∙ ap (λ n. at_rest ((header birth ++ units payloads) ++ n ∷ rest)) is_closed))
    (text_sure birth payloads ((header birth ++ units payloads) ++ 0 ∷ rest) (closed_text birth payloads 0 rest small sizes refl)))

gate_failed : {T : Type 0} (mid new : Story) (area : Area) (birth : ℕ) (payloads : List (List ℕ)) (unsure : List ℕ) (result : Result T DiskFailed) → IsKeptBy mid area birth payloads (Some unsure) → Syncs area result mid new
    → OnErr result (IsKeptBy new area birth payloads (Some unsure))
gate_failed mid new area birth payloads unsure (Ok done) kept syncs = tt
gate_failed mid new area birth payloads unsure (Err failed) kept syncs = subst (λ s. IsKeptBy s area birth payloads (Some unsure)) (sym syncs) kept

unless : {T : Type 0} (result : Result T DiskFailed) (P Q : Type 0) → (P → OnOk result Q) → OnOk result (P → Q)
unless (Ok done) P Q f = f
unless (Err failed) P Q f = tt

-- The gate of an unsure payload is written, and synced: opened, its payload stands last; closed, it is gone; else it is still unsure.
pub writes_gate : {T : Type 0} (old new : Story) (area : Area) (birth : ℕ) (payloads : List (List ℕ)) (unsure : List ℕ) (octet : ℕ) (result : Result T DiskFailed) → birth < 2 ^ 64 → All IsPayload payloads
    → IsKeptBy old area birth payloads (Some unsure) → WritesSynced area (gate_place payloads) (octet ∷ []) result old new → WritesGate old new area birth payloads unsure octet result
writes_gate old new area birth payloads unsure octet result small sizes kept commit =
    let kept_mid : IsKeptBy commit.mid area birth payloads (Some unsure) = kept_write old commit.mid area birth payloads (Some unsure) (Some unsure) (gate_place payloads) (octet ∷ []) commit.wrote kept commit.writes payloads
    (unsure_write old commit.mid area birth payloads unsure octet commit.wrote kept.text commit.writes) in
    record {
      opened = unless result (octet ≡ 1) (IsKeptBy new area birth (payloads ++ unsure ∷ []) None)
          (λ is. gate_opened old commit.mid new area birth payloads unsure octet commit.wrote result small sizes is kept kept_mid commit.ok commit.writes commit.syncs);
      closed = unless result (octet ≡ 0) (IsKeptBy new area birth payloads None)
          (λ is. gate_closed old commit.mid new area birth payloads unsure octet commit.wrote result small sizes is kept kept_mid commit.ok commit.writes commit.syncs);
      failed = gate_failed commit.mid new area birth payloads unsure result kept_mid commit.syncs;
      stops = commit_leaves area (gate_place payloads) (octet ∷ []) result old new (MayHold birth area payloads (Some unsure)) commit
          (λ image is. kept_image old area birth payloads (Some unsure) image small sizes kept is) (λ image is. kept_image commit.mid area birth payloads (Some unsure) image small sizes kept_mid is);
    }
