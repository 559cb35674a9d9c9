-- The steps of a visit. No public clause cites these.
use Rattle.std.specs.Prelude.{◌≡◌, ℕ, ⊤}
use Rattle.http_text.specs.Place.{EndsAt}
use Rattle.sendsms_http.specs.Visit.{IsPhase, IsPhaseOf}
use Rattle.sendsms_http.specs.declared.visit.Phase.{Phase}
use Rattle.sendsms_http.specs.declared.visit.Phase.TheVariants.{Listening, Submitting}
use Rattle.sendsms_http.specs.declared.visit.Visit.{Visit}
use Rattle.sendsms_http.specs.declared.visit.VisitWish.{VisitWish}

-- it listens, and what it keeps ends at the place that it keeps
abbrev pub IsListeningIn : Phase → Visit → Type 0
IsListeningIn (Listening place) visit = EndsAt place visit.kept
IsListeningIn phase visit = ⊥

abbrev pub IsListening : Visit → Type 0
IsListening visit = IsListeningIn visit.phase visit

-- it waits for the store
abbrev pub IsSubmittingIn : Phase → Type 0
IsSubmittingIn (Submitting close) = ⊤
IsSubmittingIn phase = ⊥

abbrev pub IsSubmitting : Visit → Type 0
IsSubmitting visit = IsSubmittingIn visit.phase

-- What each step leaves: as many octets as were given by then, the phase of its wish, and what holds in that.
pub record Goes (taken : ℕ) (old : Visit) (wish : VisitWish) (new : Visit) : Type 0 where
  pub many : new.taken ≡ taken
  pub budget : new.budget ≡ old.budget
  pub phase : IsPhaseOf wish new.phase
  pub holds : IsPhase new.phase new
