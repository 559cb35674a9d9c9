-- The laws of a grammar: where octets break off no frame comes of them, and the frames of a stream don't depend on how it is cut.
use Rattle.std.proofs.Common.{◌≡◌, ℕ, ◌+◌, List, [], ◌∷◌, ◌++◌, length, take, drop, refl, sym, ap, subst, ◌∙◌, append_assoc, take-append-drop, length-append, arith, inl, inr}
use Rattle.std.proofs.lemmas.List.{append-nil, append_cancel_left, take_at, take-append-le, length-take-le}
use Rattle.exact_octets.specs.Fronts.{IsProperFront, BreaksOffAt}
use Rattle.exact_octets.proofs.Readers.{split_at_end}
use Rattle.link_core.specs.declared.heard.Heard.{Heard}
use Rattle.link_core.specs.Grammar.{IsFrame, HasFirst, NoneComes}
use Rattle.link_core.specs.Streams.{AreFrames, IsStream, AreHeard, joined}

-- ---- frames that no other begins

-- no frame is a proper front of another
abbrev pub StandsAlone : (List ℕ → Type 0) → Type 0
StandsAlone G = (x y behind behind' : List ℕ) → G x → G y → x ++ behind ≡ y ++ behind' → x ≡ y

nothing_more : (x y : List ℕ) → x ≡ x ++ y → y ≡ []
nothing_more x y e = sym (append_cancel_left x [] y (append-nil x ∙ e))

nothing_last : (x y : List ℕ) → x ++ y ≡ [] → y ≡ []
nothing_last [] y e = e
nothing_last (a ∷ x) y e = absurd cc

-- a frame that stands within a proper front of a frame
frame_within : (G : List ℕ → Type 0) → StandsAlone G → (front frame more : List ℕ) → G frame → front ≡ frame ++ more → IsProperFront G front → ⊥
frame_within G alone front frame more is parts begins =
    let all : frame ++ (more ++ begins.more) ≡ (front ++ begins.more) ++ [] =
    sym (append_assoc frame more begins.more) ∙ ap (λ (t : List ℕ). t ++ begins.more) (sym parts) ∙ sym (append-nil (front ++ begins.more)) in
    let same : frame ≡ front ++ begins.more = alone frame (front ++ begins.more) (more ++ begins.more) [] is begins.whole all in
    let longer : frame ≡ frame ++ (more ++ begins.more) = same ∙ ap (λ (t : List ℕ). t ++ begins.more) parts ∙ append_assoc frame more begins.more in
    begins.some (nothing_last more begins.more (nothing_more frame (more ++ begins.more) longer))

-- a frame that goes on behind it
frame_beyond : (G : List ℕ → Type 0) → StandsAlone G → (octets more frame rest m : List ℕ) (at : ℕ) → BreaksOffAt G octets at → G frame → octets ++ more ≡ frame ++ rest → take at octets ++ m ≡ frame → ⊥
frame_beyond G alone octets more frame rest [] at off is parts e =
    frame_within G alone (take at octets) frame [] is (sym (append-nil (take at octets)) ∙ e ∙ sym (append-nil frame)) off.begins
frame_beyond G alone octets more frame rest (x ∷ m) at off is parts e =
    let there = off.there in
    let len : length (take at octets ++ x ∷ []) ≡ at + 1 = omega (arith, length-append (take at octets) (x ∷ []), length-take-le at octets (omega (arith, there))) in
    let whole : frame ≡ (take at octets ++ x ∷ []) ++ m = sym e ∙ sym (append_assoc (take at octets) (x ∷ []) m) in
    let all : octets ++ more ≡ (take at octets ++ x ∷ []) ++ (m ++ rest) = parts ∙ ap (λ (t : List ℕ). t ++ rest) whole ∙ append_assoc (take at octets ++ x ∷ []) m rest in
    let front : take (at + 1) octets ≡ take at octets ++ x ∷ [] =
    sym (take-append-le (at + 1) octets more (omega (arith, there))) ∙ ap (take (at + 1)) all ∙ take_at (take at octets ++ x ∷ []) (m ++ rest) (at + 1) len in
    off.ends (record { more = m; whole = subst G (whole ∙ ap (λ (t : List ℕ). t ++ m) (sym front)) is })

-- where octets break off, no frame comes of them
pub none_comes : (G : List ℕ → Type 0) → StandsAlone G → (octets : List ℕ) (at : ℕ) → BreaksOffAt G octets at → NoneComes G octets
none_comes G alone octets at off = λ more first.
    let all : take at octets ++ (drop at octets ++ more) ≡ first.frame ++ first.rest =
    sym (append_assoc (take at octets) (drop at octets) more) ∙ ap (λ (t : List ℕ). t ++ more) (take-append-drop at octets) ∙ first.parts in
    elim (split_at_end (take at octets) (drop at octets ++ more) first.frame first.rest all) [
      | inl w ↦ frame_beyond G alone octets more first.frame first.rest w.0 at off first.is first.parts w.1
      | inr w ↦ frame_within G alone (take at octets) first.frame w.0 first.is w.1 off.begins
    ]

-- ---- streams

-- no frame is a proper front of another, and each says one thing
abbrev pub SaysOne : (List ℕ → Heard → Type 0) → Type 0
SaysOne hears =
    (x y behind behind' : List ℕ) (heard heard' : Heard) → hears x heard → hears y heard' → x ++ behind ≡ y ++ behind' → (x ≡ y) × (heard ≡ heard')

module _ (hears : List ℕ → Heard → Type 0) (one : SaysOne hears) where
  -- frames in one way
  same : (octets : List ℕ) (hs hs' : List Heard) (rest rest' : List ℕ) → AreFrames hears octets hs rest → AreFrames hears octets hs' rest' → ¬ HasFirst (IsFrame hears) rest → ¬ HasFirst (IsFrame hears) rest' → (hs ≡ hs') × (rest ≡ rest')
  same octets [] [] rest rest' a a' none none' = (refl, sym a ∙ a')
  same octets [] (h ∷ hs') rest rest' a a' none none' = absurd (none (record { frame = a'.0; rest = a'.1; is = (h, a'.2); parts = sym a ∙ a'.3 }))
  same octets (h ∷ hs) [] rest rest' a a' none none' = absurd (none' (record { frame = a.0; rest = a.1; is = (h, a.2); parts = sym a' ∙ a.3 }))
  same octets (h ∷ hs) (h' ∷ hs') rest rest' a a' none none' =
      let both = one a.0 a'.0 a.1 a'.1 h h' a.2 a'.2 (sym a.3 ∙ a'.3) in
      let behind : a.1 ≡ a'.1 = append_cancel_left a'.0 a.1 a'.1 (ap (λ (t : List ℕ). t ++ a.1) (sym both.0) ∙ sym a.3 ∙ a'.3) in
      let more = same a'.1 hs hs' rest rest' (subst (λ (t : List ℕ). AreFrames hears t hs rest) behind a.4) a'.4 none none' in
      (ap (λ (x : Heard). x ∷ hs) both.1 ∙ ap (λ (xs : List Heard). h' ∷ xs) more.0, more.1)

  -- a stream says one thing
  pub one_stream : (octets : List ℕ) (hs hs' : List Heard) (rest rest' : List ℕ) → IsStream hears octets hs rest → IsStream hears octets hs' rest' → (hs ≡ hs') × (rest ≡ rest')
  one_stream octets hs hs' rest rest' s s' = same octets hs hs' rest rest' s.frames s'.frames s.none s'.none

  frames_more : (octets more : List ℕ) (here later : List Heard) (kept rest : List ℕ) → AreFrames hears octets here kept → AreFrames hears (kept ++ more) later rest → AreFrames hears (octets ++ more) (here ++ later) rest
  frames_more octets more [] later kept rest a b = subst (λ (t : List ℕ). AreFrames hears (t ++ more) later rest) (sym a) b
  frames_more octets more (h ∷ here) later kept rest a b =
      (a.0, a.1 ++ more, a.2, ap (λ (t : List ℕ). t ++ more) a.3 ∙ append_assoc a.0 a.1 more, frames_more a.1 more here later kept rest a.4 b)

  heards_nil : (hs : List Heard) → hs ++ [] ≡ hs
  heards_nil [] = refl
  heards_nil (h ∷ hs) = ap (λ (xs : List Heard). h ∷ xs) (heards_nil hs)

  heards_assoc : (a b c : List Heard) → (a ++ b) ++ c ≡ a ++ (b ++ c)
  heards_assoc [] b c = refl
  heards_assoc (h ∷ a) b c = ap (λ (xs : List Heard). h ∷ xs) (heards_assoc a b c)

  -- what is heard later is read behind what is kept
  pub stream_more : (octets more : List ℕ) (here later : List Heard) (kept rest : List ℕ) → IsStream hears octets here kept → IsStream hears (kept ++ more) later rest → IsStream hears (octets ++ more) (here ++ later) rest
  stream_more octets more here later kept rest s s' = record { frames = frames_more octets more here later kept rest s.frames s'.frames; none = s'.none }

  heard_behind : (pieces : List (List ℕ)) (octets kept : List ℕ) (before heard : List Heard) (rest : List ℕ) → IsStream hears octets before kept → AreHeard hears kept pieces heard rest → IsStream hears (octets ++ joined pieces) (before ++ heard) rest
  heard_behind [] octets kept before heard rest s h =
      let e : before ++ heard ≡ before = ap (λ (xs : List Heard). before ++ xs) h.0 ∙ heards_nil before in
      rw (append-nil octets, e, h.1) s
  heard_behind (piece ∷ pieces) octets kept before heard rest s h =
      let s' = stream_more octets piece before h.0 kept h.2 s h.3 in
      let all = heard_behind pieces (octets ++ piece) h.2 (before ++ h.0) h.1 rest s' h.4 in
      let e : before ++ heard ≡ (before ++ h.0) ++ h.1 = ap (λ (xs : List Heard). before ++ xs) h.5 ∙ sym (heards_assoc before h.0 h.1) in
      rw (← append_assoc octets piece (joined pieces), e) all

  -- pieces that say something are a stream that says it, however they are cut
  pub heard_in_pieces : (pieces : List (List ℕ)) (heard : List Heard) (rest : List ℕ) → ¬ HasFirst (IsFrame hears) [] → AreHeard hears [] pieces heard rest → IsStream hears (joined pieces) heard rest
  heard_in_pieces pieces heard rest none h = heard_behind pieces [] [] [] heard rest (record { frames = refl; none = none }) h

  -- the same octets say the same in whichever pieces they come
  pub one_hearing : (pieces pieces' : List (List ℕ)) (heard heard' : List Heard) (rest rest' : List ℕ) → ¬ HasFirst (IsFrame hears) [] → joined pieces ≡ joined pieces' → AreHeard hears [] pieces heard rest → AreHeard hears [] pieces' heard' rest' → (heard ≡ heard') × (rest ≡ rest')
  one_hearing pieces pieces' heard heard' rest rest' none e h h' =
      let s = heard_in_pieces pieces heard rest none h in
      one_stream (joined pieces') heard heard' rest rest' (subst (λ (t : List ℕ). IsStream hears t heard rest) e s) (heard_in_pieces pieces' heard' rest' none h')
