-- How much a session has still to do, where something of it changes.
use Rattle.std.proofs.Common.{◌≡◌, ◌∙◌, refl, sym, ap, subst, ℕ, ◌+◌, ◌<◌, ◌≤◌, List, ◌∷◌, length, take, drop, arith, length-drop, inl, inr}
use Rattle.std.specs.Prelude.{Option, None, ◌⊎◌}
use Rattle.std.proofs.lemmas.List.{length-take}
use Rattle.link_core.specs.Grammar.{IsGrammar}
use Rattle.link_core.specs.declared.heard.Heard.{Heard}
use Rattle.link_turn.specs.SessionSteps.{message_said, message_in}
use Rattle.link_turn.specs.Weight.{one_if, count_of, weight_saying, weight_in, weight, load, weight_left, EndsItself, EndsBehind, GetsLighterBehind}
use Rattle.link_turn.specs.declared.end_cause.EndCause.{EndCause}
use Rattle.link_turn.specs.declared.session.Phase.{Phase}
use Rattle.link_turn.specs.declared.session.Phase.TheVariants.{Fresh, Listening, ComingUp, GivingBack, Taking, Leaving, Done}
use Rattle.link_turn.specs.declared.session.Phase.TheVariants as phase_is
use Rattle.link_turn.specs.declared.session.Saying.{Saying}
use Rattle.link_turn.specs.declared.session.Saying.TheVariants as saying_is
use Rattle.link_turn.specs.declared.session.Session.{Session}
use Rattle.link_turn.specs.declared.submitted.Submitted.{Submitted}
use Rattle.link_turn.specs.declared.wish.Wish.{Wish}

-- a message that can't be said is given back
pub said_left : (saying : Saying) → count_of (message_said saying) < weight_saying saying
said_left (saying_is.Login tag) = omega arith
said_left (saying_is.Submit tag message) = omega arith
said_left saying_is.Answer = omega arith
said_left saying_is.Farewell = omega arith
said_left saying_is.Keep = omega arith

module _ {C : Type 0} where
  weight_in-now : (phase : Phase) (session : Session C) (now : ℕ) → weight_in phase (record session { latest = now }) ≡ weight_in phase session
  weight_in-now Fresh session now = refl
  weight_in-now Listening session now = refl
  weight_in-now (phase_is.Saying saying) session now = refl
  weight_in-now (phase_is.Recording recording) session now = refl
  weight_in-now ComingUp session now = refl
  weight_in-now (GivingBack message) session now = refl
  weight_in-now Taking session now = refl
  weight_in-now (Leaving cause one) session now = refl
  weight_in-now Done session now = refl

  -- a reading of the clock weighs nothing
  pub weight-now : (session : Session C) (now : ℕ) → weight (record session { latest = now }) ≡ weight session
  weight-now session now = weight_in-now session.phase session now

  dropped_weighs : (len : ℕ) (session : Session C) → 0 < len → len ≤ length session.kept → load (record session { kept = drop len session.kept }) + 8 ≤ load session
  dropped_weighs len session some within =
      let less : length (drop len session.kept) + len ≡ length session.kept = omega (arith, length-drop len session.kept, within) in
      omega (arith, less, some)

  -- a frame was cut off in front of what it keeps: it has less to do by that
  pub frame_weighs : (len : ℕ) (start old new : Session C) → new ≡ record old { kept = drop len old.kept } → 0 < len → len ≤ length old.kept
      → (old ≡ start) ⊎ (load old + 8 ≤ load start) → load new + 8 ≤ load start
  frame_weighs len start old new is some within before =
      let same : load new ≡ load (record old { kept = drop len old.kept }) = ap load is in
      let less = dropped_weighs len old some within in
      elim before [
        | inl none ↦ let alike : load old ≡ load start = ap load none in omega (arith, same, less, alike)
        | inr more ↦ omega (arith, same, less, more)
      ]

  -- what broke off where it listened, or said something
  pub over_lighter : (session : Session C) (n : ℕ) → (session.phase ≡ Listening) ⊎ ((saying : Saying) × (session.phase ≡ phase_is.Saying saying))
      → n ≤ weight_left (message_in session.phase) session → n < weight session
  over_lighter session n (inl listening) less =
      let all : weight session ≡ load session + 2 = ap (λ (p : Phase). weight_in p session) listening in
      let none : count_of (message_in session.phase) ≡ 0 = ap (λ (p : Phase). count_of (message_in p)) listening in
      omega (arith, all, none, less)
  over_lighter session n (inr saying) less =
      let all : weight session ≡ load session + weight_saying saying.0 = ap (λ (p : Phase). weight_in p session) saying.1 in
      let one : count_of (message_in session.phase) ≡ count_of (message_said saying.0) = ap (λ (p : Phase). count_of (message_in p)) saying.1 in
      let left = said_left saying.0 in
      omega (arith, all, one, left, less)

  -- it ended where it listened
  pub ended_lighter : (session : Session C) (n : ℕ) → session.phase ≡ Listening → n ≤ weight_left None session → n < weight session
  ended_lighter session n listening less =
      let all : weight session ≡ load session + 2 = ap (λ (p : Phase). weight_in p session) listening in
      omega (arith, all, less)

  -- something has passed that was neither the link up nor what a session that leaves holds
  pub passed_lighter : (phase : Phase) (session : Session C) (n : ℕ) → (phase ≡ ComingUp → ⊥) → ((cause : EndCause) (one : Option ℕ) → phase ≡ Leaving cause one → ⊥)
      → n ≤ load session + 3 → GetsLighterBehind phase (weight_in phase session) n
  passed_lighter Fresh session n not_up staying less = tt
  passed_lighter Listening session n not_up staying less = tt
  passed_lighter (phase_is.Saying saying) session n not_up staying less = tt
  passed_lighter (phase_is.Recording recording) session n not_up staying less = tt
  passed_lighter ComingUp session n not_up staying less = absurd (not_up refl)
  passed_lighter (GivingBack message) session n not_up staying less = omega (arith, less)
  passed_lighter Taking session n not_up staying less = tt
  passed_lighter (Leaving cause one) session n not_up staying less = absurd (staying cause one refl)
  passed_lighter Done session n not_up staying less = tt

  pub passed_ends : (phase : Phase) (wish : Wish) (session : Session C) → ((cause : EndCause) (one : Option ℕ) → phase ≡ Leaving cause one → ⊥)
      → EndsItself wish session → EndsBehind phase wish session
  passed_ends Fresh wish session staying ends = ends
  passed_ends Listening wish session staying ends = ends
  passed_ends (phase_is.Saying saying) wish session staying ends = ends
  passed_ends (phase_is.Recording recording) wish session staying ends = ends
  passed_ends ComingUp wish session staying ends = ends
  passed_ends (GivingBack message) wish session staying ends = ends
  passed_ends Taking wish session staying ends = ends
  passed_ends (Leaving cause one) wish session staying ends = absurd (staying cause one refl)
  passed_ends Done wish session staying ends = ends

  -- frames were handled, or nothing has happened
  pub handled_weighs : (start old : Session C) → (old ≡ start) ⊎ (load old + 8 ≤ load start) → load old ≤ load start
  handled_weighs start old (inl none) = let alike : load old ≡ load start = ap load none in omega (arith, alike)
  handled_weighs start old (inr more) = omega (arith, more)

  -- what is said now isn't silence, whether frames were handled before or not
  pub handled_spoke : (start old : Session C) (n : ℕ) → (old ≡ start) ⊎ (load old + 8 ≤ load start) → n ≤ load old + 3 → (old.last_said ≡ old.latest → n ≤ load old + 2)
      → start.last_said ≡ start.latest → n ≤ load start + 2
  handled_spoke start old n (inl none) less spoken spoke = subst (λ (s : Session C). n ≤ load s + 2) none (spoken (subst (λ (s : Session C). s.last_said ≡ s.latest) (sym none) spoke))
  handled_spoke start old n (inr more) less spoken spoke = omega (arith, more, less)

  -- a tag was taken
  pub tag_weighs : (old new : Session C) → new ≡ record old { last_tag = new.last_tag } → load new ≡ load old
  tag_weighs old new same = let all : load new ≡ load (record old { last_tag = new.last_tag }) = ap load same in all

  -- the first message that it holds is given back
  pub first_left : (cause : EndCause) (old new : Session C) (first : Submitted) → new ≡ record old { in_use = new.in_use } → old.in_use.items ≡ first ∷ new.in_use.items
      → old.phase ≡ Leaving cause None → weight new ≤ weight_left None old
  first_left cause old new first same items is =
      let phase : new.phase ≡ Leaving cause None = ap (λ (s : Session C). s.phase) same ∙ is in
      let all : weight new ≡ weight_left None new + 1 = ap (λ (p : Phase). weight_in p new) phase in
      let up : one_if new.up ≡ one_if old.up = ap (λ (s : Session C). one_if s.up) same in
      let fewer : length old.in_use.items ≡ length new.in_use.items + 1 = ap length items ∙ omega arith in
      omega (arith, all, up, fewer)

-- a frame has an octet
pub frame_some : (hears : List ℕ → Heard → Type 0) (holds : ℕ → Type 0) (most len : ℕ) (octets : List ℕ) (heard : Heard) → IsGrammar hears holds most → hears (take len octets) heard → 0 < len
frame_some hears holds most len octets heard grammar is =
    let some : 0 < length (take len octets) = grammar.some (take len octets) heard is in
    let within = length-take len octets in
    omega (arith, some, within)
