-- A session ends: what is still to be done falls at each step.
use Rattle.std.proofs.Common.{◌≡◌, ◌≢◌, inl, inr, ℕ, ◌+◌, ◌*◌, ◌-◌, ◌<◌, ◌≤◌, Bool, true, false, List, [], ◌∷◌, ◌++◌, length, Vec, Result, Ok, refl, ap, sym, subst, arith, length-append}
use Rattle.std.specs.declared.alloc.Global.{Global}
use Rattle.config_groups.specs.declared.settings.Settings.{Settings}
use Rattle.http_text.specs.declared.answer.Answer.{Answer}
use Rattle.http_text.proofs.Whole.{some_head}
use Rattle.kn_base.specs.Course.{Course}
use Rattle.sms_record.specs.declared.sms.Sms.{Sms}
use Rattle.gate_model.specs.declared.reply.Reply.{Reply}
use Rattle.gate_model.specs.declared.reply.Refusal.{Refusal}
use Rattle.sendsms_http.specs.Session.{Exchange, IsExchange}
use Rattle.sendsms_http.specs.SessionSteps.{HearsSo, SaysSo, rank, potential}
use Rattle.sendsms_http.specs.Visit.{given_octets, Asks, Owes, LooksAt, IsAtEnd, IsSaid, IsAnswered, Wishes}
use Rattle.sendsms_http.specs.declared.http_end.HttpEnd.{HttpEnd}
use Rattle.sendsms_http.specs.declared.visit.Phase.{Phase}
use Rattle.sendsms_http.specs.declared.visit.Phase.TheVariants.{Fresh, Listening, Submitting, Saying, Done}
use Rattle.sendsms_http.specs.declared.visit.Visit.{Visit}
use Rattle.sendsms_http.specs.declared.visit.VisitGiven.{VisitGiven}
use Rattle.sendsms_http.specs.declared.visit.VisitGiven.TheVariants as given_is
use Rattle.sendsms_http.specs.declared.visit.VisitWish.{VisitWish}
use Rattle.sendsms_http.specs.declared.visit.VisitWish.TheVariants.{Listen, Submit, Say, Over}

some_octets : (octets : List ℕ) → octets ≢ [] → 1 ≤ length octets
some_octets [] some = absurd (some refl)
some_octets (octet ∷ octets) some = omega arith

-- what is answered has some octets
some_exchange : (settings : Settings) (ended : Bool) (e : Exchange) → IsExchange settings ended e → 1 ≤ length e.octets
some_exchange settings ended e (inl request) = some_head e.octets request.head request.heard
some_exchange settings ended e (inr octets) = elim octets.cause [
  | inl refused ↦ some_octets e.octets refused.some
  | inr lost ↦ some_octets e.octets lost.some
]

-- so many octets may still be heard, counted twice, and are kept
abbrev to_do : Visit → ℕ
to_do visit = 2 * (visit.budget - visit.taken) + length visit.kept

-- what was cut off where something is owed
owed_cut : (settings : Settings) (ended : Bool) (now : ℕ) (octets : List ℕ) (visit : Visit) (answer : Answer) (close : Bool)
    → Owes settings ended now octets visit answer close → length visit.kept < length octets
owed_cut settings ended now octets visit answer close o =
    let some = some_exchange settings ended o.exchange o.exchanged in
    omega (arith, some, ap length o.cut, length-append o.exchange.octets visit.kept)

asked_cut : (settings : Settings) (now : ℕ) (octets : List ℕ) (visit : Visit) (time : ℕ) (parts : List Sms) → Asks settings now octets visit time parts
    → length visit.kept < length octets
asked_cut settings now octets visit time parts a =
    let some = some_head a.front a.head a.heard in
    omega (arith, some, ap length a.cut, length-append a.front visit.kept)

-- how much is kept after octets were looked at, by the wish
abbrev IsCutBy : VisitWish → ℕ → ℕ → Type 0
IsCutBy Listen before now = now ≡ before
IsCutBy (Submit time parts) before now = now < before
IsCutBy (Say answer close) before now = now < before
IsCutBy (Over end) before now = Unit {0}

looks_cut : (settings : Settings) (now : ℕ) (octets : List ℕ) (visit : Visit) (wish : VisitWish) → LooksAt settings now octets visit wish
    → IsCutBy wish (length octets) (length visit.kept)
looks_cut settings now octets visit Listen looks = ap length looks
looks_cut settings now octets visit (Submit time parts) looks = asked_cut settings now octets visit time parts.items looks
looks_cut settings now octets visit (Say answer close) looks = owed_cut settings false now octets visit answer close looks
looks_cut settings now octets visit (Over end) looks = tt

-- the same once the input ended: nothing is listened for or handed in
abbrev IsSayOver : VisitWish → ℕ → ℕ → Type 0
IsSayOver Listen before now = ⊥
IsSayOver (Submit time parts) before now = ⊥
IsSayOver (Say answer close) before now = now < before
IsSayOver (Over end) before now = Unit {0}

end_cut : (settings : Settings) (now : ℕ) (octets : List ℕ) (visit : Visit) (wish : VisitWish) → IsAtEnd settings now octets visit wish
    → IsSayOver wish (length octets) (length visit.kept)
end_cut settings now [] visit wish ends = subst (λ wish. IsSayOver wish 0 (length visit.kept)) (sym ends.0) tt
end_cut settings now (octet ∷ octets) visit Listen ends = absurd ends
end_cut settings now (octet ∷ octets) visit (Submit time parts) ends = absurd ends
end_cut settings now (octet ∷ octets) visit (Say answer close) ends = owed_cut settings true now (octet ∷ octets) visit answer close ends.0
end_cut settings now (octet ∷ octets) visit (Over end) ends = absurd ends

-- what a step leaves, by what was given: a number at least as great as what is to do after it, and more where something was cut off
abbrev Falls : VisitGiven → VisitWish → Visit → Visit → Type 0
Falls given Listen old new = (to_do new ≡ to_do old - length (given_octets given)) × (1 ≤ rank given)
Falls given (Submit time parts) old new = (to_do new < to_do old - length (given_octets given)) × (1 ≤ rank given)
Falls given (Say answer close) old new = 4 * to_do new + 1 < 4 * (to_do old - length (given_octets given)) + rank given
Falls given (Over end) old new = Unit {0}

module _ (settings : Settings) (now : ℕ) (old new : Visit) (same : new.budget ≡ old.budget) where
  looked_falls : (given : VisitGiven) (wish : VisitWish) (octets : List ℕ) → LooksAt settings now octets new wish
      → length octets ≡ length old.kept + length (given_octets given) → 1 ≤ rank given → new.taken ≡ old.taken + length (given_octets given)
      → new.taken ≤ new.budget → Falls given wish old new
  looked_falls given Listen octets looks len ranks taken within =
      let cut = looks_cut settings now octets new Listen looks in
      (omega (arith, cut, len, taken, within, same), ranks)
  looked_falls given (Submit time parts) octets looks len ranks taken within =
      let cut = looks_cut settings now octets new (Submit time parts) looks in
      (omega (arith, cut, len, taken, within, same), ranks)
  looked_falls given (Say answer close) octets looks len ranks taken within =
      let cut = looks_cut settings now octets new (Say answer close) looks in
      omega (arith, cut, len, taken, within, same, ranks)
  looked_falls given (Over end) octets looks len ranks taken within = tt

  ended_falls : (wish : VisitWish) → IsSayOver wish (length old.kept) (length new.kept) → new.taken ≡ old.taken + 0 → Falls given_is.End wish old new
  ended_falls Listen cut taken = absurd cut
  ended_falls (Submit time parts) cut taken = absurd cut
  ended_falls (Say answer close) cut taken = omega (arith, cut, taken, same)
  ended_falls (Over end) cut taken = tt

  over_falls : (given : VisitGiven) (wish : VisitWish) (end : HttpEnd) → wish ≡ Over end → Falls given wish old new
  over_falls given wish end is = subst (λ wish. Falls given wish old new) (sym is) tt

  said_falls : (phase : Phase) (wish : VisitWish) → IsSaid settings now old phase new wish → new.taken ≡ old.taken + 0 → new.taken ≤ new.budget
      → Falls given_is.Said wish old new
  said_falls (Saying true) wish said taken within = over_falls given_is.Said wish _ said
  said_falls (Saying false) wish said taken within = looked_falls given_is.Said wish old.kept said (omega arith) (omega arith) taken within
  said_falls Fresh wish said taken within = looked_falls given_is.Said wish old.kept said (omega arith) (omega arith) taken within
  said_falls (Listening place) wish said taken within = looked_falls given_is.Said wish old.kept said (omega arith) (omega arith) taken within
  said_falls (Submitting close) wish said taken within = looked_falls given_is.Said wish old.kept said (omega arith) (omega arith) taken within
  said_falls Done wish said taken within = looked_falls given_is.Said wish old.kept said (omega arith) (omega arith) taken within

  answered_falls : (phase : Phase) (outcome : Result Reply Refusal) (wish : VisitWish) → IsAnswered phase outcome wish → new.kept ≡ old.kept → new.taken ≡ old.taken + 0
      → Falls (given_is.Answered outcome) wish old new
  answered_falls Fresh outcome wish is kept taken = absurd is
  answered_falls (Listening place) outcome wish is kept taken = absurd is
  answered_falls (Submitting close) outcome wish is kept taken =
      subst (λ wish. Falls (given_is.Answered outcome) wish old new) (sym is) (omega (arith, ap length kept, taken, same))
  answered_falls (Saying close) outcome wish is kept taken = absurd is
  answered_falls Done outcome wish is kept taken = absurd is

  falls : (given : VisitGiven) (wish : VisitWish) → Wishes settings now old given wish new → new.taken ≡ old.taken + length (given_octets given)
      → new.taken ≤ new.budget → Falls given wish old new
  falls given_is.Begin wish wishes taken within = looked_falls given_is.Begin wish old.kept wishes (omega arith) (omega arith) taken within
  falls (given_is.Heard octets) wish wishes taken within =
      looked_falls (given_is.Heard octets) wish (old.kept ++ octets) wishes (length-append old.kept octets) (omega arith) taken within
  falls given_is.Quiet wish wishes taken within = over_falls given_is.Quiet wish _ wishes
  falls given_is.End wish wishes taken within = ended_falls wish (end_cut settings now old.kept new wish wishes) taken
  falls given_is.Fault wish wishes taken within = over_falls given_is.Fault wish _ wishes
  falls given_is.Said wish wishes taken within = said_falls old.phase wish wishes taken within
  falls given_is.SayFault wish wishes taken within = over_falls given_is.SayFault wish _ wishes
  falls (given_is.Answered outcome) wish wishes taken within = answered_falls old.phase outcome wish wishes.1 wishes.0 taken

  -- once something was heard, or nothing
  pub heard_falls : (given then : VisitGiven) (room : ℕ) (b c : Course) → Wishes settings now old given Listen new
      → new.taken ≡ old.taken + length (given_octets given) → new.taken ≤ new.budget → room + new.taken ≡ new.budget → HearsSo room b (Ok then) c
      → potential new then < potential old given
  heard_falls given then room b c wishes taken within most hears =
      let f = falls given Listen wishes taken within in by then hears f
    where
      by : (then : VisitGiven) → HearsSo room b (Ok then) c → Falls given Listen old new → potential new then < potential old given
      by given_is.Begin hears f = absurd hears
      by (given_is.Heard octets) hears f = omega (arith, f.0, f.1, hears.0, hears.1, most)
      by given_is.Quiet hears f = omega (arith, f.0, f.1)
      by given_is.End hears f = omega (arith, f.0, f.1)
      by given_is.Fault hears f = omega (arith, f.0, f.1)
      by given_is.Said hears f = absurd hears
      by given_is.SayFault hears f = absurd hears
      by (given_is.Answered outcome) hears f = absurd hears

  -- once an answer was said, or a front of it
  pub said_falls_too : (given then : VisitGiven) (answer : Answer) (close : Bool) (text : List ℕ) (b c : Course) → Wishes settings now old given (Say answer close) new
      → new.taken ≡ old.taken + length (given_octets given) → new.taken ≤ new.budget → SaysSo text b then c → potential new then < potential old given
  said_falls_too given then answer close text b c wishes taken within says =
      by then says (falls given (Say answer close) wishes taken within)
    where
      by : (then : VisitGiven) → SaysSo text b then c → Falls given (Say answer close) old new → potential new then < potential old given
      by given_is.Begin says f = absurd says
      by (given_is.Heard octets) says f = absurd says
      by given_is.Quiet says f = absurd says
      by given_is.End says f = absurd says
      by given_is.Fault says f = absurd says
      by given_is.Said says f = omega (arith, f)
      by given_is.SayFault says f = omega (arith, f)
      by (given_is.Answered outcome) says f = absurd says

  -- once the store answered
  pub handed_falls : (given : VisitGiven) (time : ℕ) (parts : Vec Sms Global) (outcome : Result Reply Refusal) → Wishes settings now old given (Submit time parts) new
      → new.taken ≡ old.taken + length (given_octets given) → new.taken ≤ new.budget → potential new (given_is.Answered outcome) < potential old given
  handed_falls given time parts outcome wishes taken within =
      let f = falls given (Submit time parts) wishes taken within in omega (arith, f.0, f.1)
