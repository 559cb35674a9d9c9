-- Exchanges one behind the other, and what was heard and said in turn.
use Rattle.std.proofs.Common.{◌≡◌, ◌⊎◌, inl, inr, ℕ, List, [], ◌∷◌, ◌++◌, refl, ap, sym, ◌∙◌, subst}
use Rattle.std.specs.List.{flat_map}
use Rattle.std.proofs.lemmas.List.{append-nil}
use Rattle.std.proofs.lemmas.Grind.{flat_map-append}
use Rattle.config_groups.specs.declared.settings.Settings.{Settings}
use Rattle.kn_base.specs.Talk.{heard_of}
use Rattle.kn_base.specs.declared.piece.Piece.{Piece}
use Rattle.kn_base.specs.declared.piece.Piece.TheVariants.{Heard, Said}
use Rattle.sendsms_http.specs.Session.{Exchange, text_of, heard_in, said_in, times_in, deeds_in, AreAmong, IsUpToDate, IsPrompt}

-- ---- one exchange more

one_last : {A : Type 0} (f : Exchange → List A) (kept : List Exchange) (last : Exchange) → flat_map f (kept ++ last ∷ []) ≡ flat_map f kept ++ f last
one_last f kept last = flat_map-append f kept (last ∷ []) ∙ ap (λ back. flat_map f kept ++ back) (append-nil (f last))

pub heard_last : (kept : List Exchange) (last : Exchange) → heard_in (kept ++ last ∷ []) ≡ heard_in kept ++ last.octets
heard_last kept last = one_last (λ exchange. exchange.octets) kept last

pub said_last : (kept : List Exchange) (last : Exchange) → said_in (kept ++ last ∷ []) ≡ said_in kept ++ text_of last
said_last kept last = one_last text_of kept last

pub times_last : (kept : List Exchange) (last : Exchange) → times_in (kept ++ last ∷ []) ≡ times_in kept ++ last.times
times_last kept last = one_last (λ exchange. exchange.times) kept last

pub deeds_last : (kept : List Exchange) (last : Exchange) → deeds_in (kept ++ last ∷ []) ≡ deeds_in kept ++ last.deeds
deeds_last kept last = one_last (λ exchange. exchange.deeds) kept last

-- ---- readings

later_reading : (times readings : List ℕ) (reading : ℕ) → AreAmong times readings → AreAmong times (reading ∷ readings)
later_reading [] readings reading h = tt
later_reading (time ∷ times) readings reading h = inr h

-- one reading more, and perhaps a time with it
pub among_more : (times readings more : List ℕ) (reading : ℕ) → AreAmong times readings → AreAmong more (reading ∷ [])
    → AreAmong (times ++ more) (readings ++ reading ∷ [])
among_more [] [] more reading h m = m
among_more [] (first ∷ readings) more reading h m = later_reading more (readings ++ reading ∷ []) first (among_more [] readings more reading tt m)
among_more (time ∷ times) [] more reading h m = absurd h
among_more (time ∷ times) (first ∷ readings) more reading (inl same) m = inl (same.0, among_more times readings more reading same.1 m)
among_more (time ∷ times) (first ∷ readings) more reading (inr later) m = inr (among_more (time ∷ times) readings more reading later m)

-- ---- pieces in turn

-- where something stands in two lists, one behind the other, it stands in the first or in the second
pub split_at : {A : Type 0} (xs ys before after : List A) (x : A) → xs ++ ys ≡ before ++ x ∷ after
    → ((rest : List A) × (xs ≡ before ++ x ∷ rest)) ⊎ ((front : List A) × (before ≡ xs ++ front) × (ys ≡ front ++ x ∷ after))
split_at [] ys before after x e = inr (before, refl, e)
split_at (y ∷ xs) ys [] after x e = inl (xs, cc)
split_at (y ∷ xs) ys (b ∷ before) after x e =
    let tails : xs ++ ys ≡ before ++ x ∷ after = cc in
    let heads : y ≡ b = cc in
    elim (split_at xs ys before after x tails) [
      | inl first ↦ inl (first.0, cc)
      | inr second ↦ inr (second.0, cc, second.2)
    ]

nothing_heard : (front after : List Piece) (octets : List ℕ) → heard_of (front ++ Heard octets ∷ after) ≡ [] → octets ≡ []
nothing_heard [] after [] h = refl
nothing_heard [] after (octet ∷ octets) h = cc
nothing_heard (Said said ∷ front) after octets h = nothing_heard front after octets h
nothing_heard (Heard [] ∷ front) after octets h = nothing_heard front after octets h
nothing_heard (Heard (octet ∷ heard) ∷ front) after octets h = cc

pub prompt_none : (settings : Settings) → IsPrompt settings []
prompt_none settings [] after octets e some = cc
prompt_none settings (piece ∷ before) after octets e some = cc

-- pieces more, in which nothing was heard
pub prompt_said : (settings : Settings) (pieces more : List Piece) → IsPrompt settings pieces → heard_of more ≡ [] → IsPrompt settings (pieces ++ more)
prompt_said settings pieces more prompt none before after octets e some =
    elim (split_at pieces more before after (Heard octets) e) [
      | inl first ↦ prompt before first.0 octets first.1 some
      | inr second ↦ absurd (some (nothing_heard second.0 after octets (ap heard_of (sym second.2) ∙ none)))
    ]

-- octets more, heard when all before them was dealt with
pub prompt_heard : (settings : Settings) (pieces : List Piece) (heard : List ℕ) → IsPrompt settings pieces → IsUpToDate settings pieces
    → IsPrompt settings (pieces ++ Heard heard ∷ [])
prompt_heard settings pieces heard prompt now before after octets e some =
    elim (split_at pieces (Heard heard ∷ []) before after (Heard octets) e) [
      | inl first ↦ prompt before first.0 octets first.1 some
      | inr second ↦ subst (IsUpToDate settings) (sym (second.1 ∙ ap (λ front. pieces ++ front) (only second.0 after second.2) ∙ append-nil pieces)) now
    ]
  where
    only : (front after : List Piece) → Heard heard ∷ [] ≡ front ++ Heard octets ∷ after → front ≡ []
    only [] after e = refl
    only (piece ∷ []) after e = cc
    only (piece ∷ other ∷ front) after e = cc
