-- What is so once a wish was done, by what came of it.
use Rattle.std.proofs.Common.{◌≡◌, ◌≢◌, inr, ℕ, ◌+◌, ◌<◌, ◌≤◌, Bool, true, false, List, [], ◌∷◌, ◌++◌, length, Option, Result, Ok, Err, IfOk, refl, ap, sym, ◌∙◌, subst, arith}
use Rattle.std.proofs.lemmas.List.{append-nil}
use Rattle.std.proofs.lemmas.List.Elements.{All-nil}
use Rattle.config_groups.specs.declared.settings.Settings.{Settings}
use Rattle.gate_model.specs.Acceptor.{Deed}
use Rattle.gate_model.specs.Reply.{IsAccepted}
use Rattle.gate_model.specs.declared.reply.Reply.{Reply}
use Rattle.gate_model.specs.declared.reply.Refusal.{Refusal}
use Rattle.gate_model.specs.declared.reply.Refusal.TheVariants as refusal_is
use Rattle.http_text.specs.Answer.{reply_text}
use Rattle.http_text.specs.Head.{NeedsMore}
use Rattle.http_text.specs.declared.answer.Answer.{Answer}
use Rattle.http_text.specs.declared.answer.Answer.TheVariants.{OutOfMemory}
use Rattle.kn_base.specs.Count.{Rose}
use Rattle.kn_base.specs.Course.{Course}
use Rattle.kn_base.specs.Talk.{SaysAll, SaysFront}
use Rattle.kn_base.specs.declared.memory.Memory.{Memory}
use Rattle.sms_record.specs.declared.sms.Sms.{Sms}
use Rattle.kn_base.specs.declared.piece.Piece.{Piece}
use Rattle.kn_base.specs.declared.piece.Piece.TheVariants as piece_is
use Rattle.sendsms_http.specs.Events.{Event, Spoke, Handed, IsReadAt, IsInTurn}
use Rattle.sendsms_http.specs.Session.{Exchange, text_of, IsExchange, times_in, deeds_in, Serves}
use Rattle.sendsms_http.specs.SessionSteps.{IsEndOf, HearsSo, SaysSo, SaysLost, Stands, Has, Waits, Hands, Answers, Decides, Due}
use Rattle.sendsms_http.specs.Visit.{IsNew, IsPhase, IsVisit, FitsPhase, given_octets, Fits, IsPhaseOf}
use Rattle.sendsms_http.specs.declared.http_end.HttpEnd.{HttpEnd}
use Rattle.sendsms_http.specs.declared.http_end.HttpEnd.TheVariants as end_is
use Rattle.sendsms_http.specs.declared.visit.Phase.{Phase}
use Rattle.sendsms_http.specs.declared.visit.Phase.TheVariants.{Fresh, Listening, Submitting, Saying, Done}
use Rattle.sendsms_http.specs.declared.visit.Visit.{Visit}
use Rattle.sendsms_http.specs.declared.visit.VisitGiven.{VisitGiven}
use Rattle.sendsms_http.specs.declared.visit.VisitGiven.TheVariants as given_is
use Rattle.sendsms_http.specs.declared.visit.VisitWish.TheVariants.{Listen, Say}
use Rattle.sendsms_http.proofs.Events.{read_at_more, waits_moment, turn_none, turn_heard, turn_handed, turn_last}
use Rattle.sendsms_http.proofs.Exchanges.{times_last, deeds_last}
use Rattle.sendsms_http.proofs.SessionLemmas.{stands_none, stands_heard, stands_ended, has_none, has_done}
use Rattle.sendsms_http.proofs.Endings.{serves_closed, serves_cut}
use Rattle.sendsms_http.proofs.Heads.{some_more}

-- ---- the phase, by the wish

-- where it listens, more is needed, and more may be given
pub listening : (phase : Phase) (visit : Visit) → IsPhaseOf Listen phase → IsPhase phase visit → NeedsMore visit.kept × (visit.taken < visit.budget)
listening Fresh visit is holds = absurd is
listening (Listening place) visit is holds = (holds.0, holds.2)
listening (Submitting close) visit is holds = absurd is
listening (Saying close) visit is holds = absurd is
listening Done visit is holds = absurd is

pub fits_heard : (phase : Phase) (given : VisitGiven) (room : ℕ) (b c : Course) → IsPhaseOf Listen phase → HearsSo room b (Ok given) c → FitsPhase phase given
fits_heard Fresh given room b c is hears = absurd is
fits_heard (Submitting close) given room b c is hears = absurd is
fits_heard (Saying close) given room b c is hears = absurd is
fits_heard Done given room b c is hears = absurd is
fits_heard (Listening place) given_is.Begin room b c is hears = absurd hears
fits_heard (Listening place) (given_is.Heard octets) room b c is hears = hears.0
fits_heard (Listening place) given_is.Quiet room b c is hears = tt
fits_heard (Listening place) given_is.End room b c is hears = tt
fits_heard (Listening place) given_is.Fault room b c is hears = tt
fits_heard (Listening place) given_is.Said room b c is hears = absurd hears
fits_heard (Listening place) given_is.SayFault room b c is hears = absurd hears
fits_heard (Listening place) (given_is.Answered outcome) room b c is hears = absurd hears

-- what was heard is within the room for it
pub heard_within : (given : VisitGiven) (room : ℕ) (b c : Course) → HearsSo room b (Ok given) c → length (given_octets given) ≤ room
heard_within given_is.Begin room b c hears = absurd hears
heard_within (given_is.Heard octets) room b c hears = hears.1
heard_within given_is.Quiet room b c hears = omega arith
heard_within given_is.End room b c hears = omega arith
heard_within given_is.Fault room b c hears = omega arith
heard_within given_is.Said room b c hears = absurd hears
heard_within given_is.SayFault room b c hears = absurd hears
heard_within (given_is.Answered outcome) room b c hears = absurd hears

pub fits_said : (phase : Phase) (given : VisitGiven) (answer : Answer) (close : Bool) (text : List ℕ) (b c : Course) → IsPhaseOf (Say answer close) phase
    → SaysSo text b given c → FitsPhase phase given × (length (given_octets given) ≡ 0)
fits_said Fresh given answer close text b c is says = absurd is
fits_said (Listening place) given answer close text b c is says = absurd is
fits_said (Submitting closing) given answer close text b c is says = absurd is
fits_said Done given answer close text b c is says = absurd is
fits_said (Saying closing) given_is.Begin answer close text b c is says = absurd says
fits_said (Saying closing) (given_is.Heard octets) answer close text b c is says = absurd says
fits_said (Saying closing) given_is.Quiet answer close text b c is says = absurd says
fits_said (Saying closing) given_is.End answer close text b c is says = absurd says
fits_said (Saying closing) given_is.Fault answer close text b c is says = absurd says
fits_said (Saying closing) given_is.Said answer close text b c is says = (tt, refl)
fits_said (Saying closing) given_is.SayFault answer close text b c is says = (tt, refl)
fits_said (Saying closing) (given_is.Answered outcome) answer close text b c is says = absurd says

pub fits_answered : (phase : Phase) (close : Bool) (outcome : Result Reply Refusal) → phase ≡ Submitting close → IfOk outcome IsAccepted
    → FitsPhase phase (given_is.Answered outcome)
fits_answered phase close outcome is accepted = subst (λ phase. FitsPhase phase (given_is.Answered outcome)) (sym is) accepted

saying : (phase : Phase) (answer : Answer) (close : Bool) → IsPhaseOf (Say answer close) phase → phase ≡ Saying close
saying Fresh answer close is = absurd is
saying (Listening place) answer close is = absurd is
saying (Submitting closing) answer close is = absurd is
saying (Saying closing) answer close is = ap Saying is
saying Done answer close is = absurd is

-- the end by equal counts
pub end_so : (end result : HttpEnd) (before now first last : ℕ) → before ≡ first → now ≡ last → IsEndOf end before now result → IsEndOf end first last result
end_so end result before now first last a b is = subst (λ n. IsEndOf end first n result) b (subst (λ n. IsEndOf end n now result) a is)

-- before the first step
pub begins : (budget : ℕ) (visit : Visit) → IsNew budget visit → IsVisit visit × Fits visit given_is.Begin
begins budget visit new = (
  record {
    within = omega (arith, new.taken);
    phase = subst (λ phase. IsPhase phase visit) (sym new.phase) (new.kept, new.taken);
  },
  record {
    phase = subst (λ phase. FitsPhase phase given_is.Begin) (sym new.phase) tt;
    within = omega (arith, new.taken);
  },
)

-- what fits once something was heard
pub fits_then : (visit : Visit) (given : VisitGiven) (room : ℕ) (b c : Course) → IsPhaseOf Listen visit.phase → room + visit.taken ≡ visit.budget
    → HearsSo room b (Ok given) c → Fits visit given
fits_then visit given room b c is most hears = record {
  phase = fits_heard visit.phase given room b c is hears;
  within = omega (arith, heard_within given room b c hears, most);
}

module _ {S : Type 0} (leads : S → List Deed → S → Type 0) (faults : S → ℕ) (can_submit : S → Type 0) (settings : Settings) (store : S) (start : Course) (told : Option (List ℕ)) where
  -- nothing was done yet
  pub waits_first : (budget : ℕ) (visit : Visit) → IsNew budget visit → leads store [] store → can_submit store
      → Waits leads faults can_submit settings store start told visit.kept visit.taken false start told store
  waits_first budget visit new led ready = record {
    kept = [];
    events = [];
    pieces = [];
    readings = [];
    stands = subst (λ left. Stands leads faults can_submit settings store start told [] [] left visit.taken false start) (sym new.kept)
        (subst (λ n. Stands leads faults can_submit settings store start told [] [] [] n false start) (sym new.taken) (stands_none leads faults can_submit settings store start told));
    has = has_none leads faults can_submit settings store start told led;
    turn = turn_none settings;
    ready = ready;
  }

  -- something was heard, or nothing
  pub heard : (visit : Visit) (given : VisitGiven) (room : ℕ) (b c : Course) (tells : Option (List ℕ)) (later : S)
      → Waits leads faults can_submit settings store start told visit.kept visit.taken false b tells later → NeedsMore visit.kept → HearsSo room b (Ok given) c
      → Due leads faults can_submit settings store start told given visit c tells later
  heard visit given_is.Begin room b c tells later w more hears = absurd hears
  heard visit (given_is.Heard octets) room b c tells later w more hears =
      let s = stands_heard leads faults can_submit settings store start told w.pieces w.kept visit.kept octets visit.taken b c w.stands more hears.2 hears.3 in
      record {
        kept = w.kept;
        events = w.events ++ Spoke (piece_is.Heard octets) ∷ [];
        pieces = w.pieces ++ piece_is.Heard octets ∷ [];
        readings = w.readings;
        stands = s;
        has = w.has;
        turn = turn_heard settings w.events w.pieces w.readings (deeds_in w.kept) w.kept w.turn octets
            (waits_moment settings w.kept (visit.kept ++ octets) _ _ (deeds_in w.kept) [] s.kept_each s.heard s.said (sym (append-nil (deeds_in w.kept))));
        ready = w.ready;
      }
  heard visit given_is.Quiet room b c tells later w more hears = record { before = b; waits = w; more = more; stopped = hears }
  heard visit given_is.End room b c tells later w more hears = (
    record {
      kept = w.kept;
      events = w.events;
      pieces = w.pieces;
      readings = w.readings;
      stands = stands_ended leads faults can_submit settings store start told w.pieces w.kept visit.kept visit.taken b c w.stands hears;
      has = w.has;
      turn = w.turn;
      ready = w.ready;
    },
    more,
  )
  heard visit given_is.Fault room b c tells later w more hears = record { before = b; waits = w; more = more; stopped = hears }
  heard visit given_is.Said room b c tells later w more hears = absurd hears
  heard visit given_is.SayFault room b c tells later w more hears = absurd hears
  heard visit (given_is.Answered outcome) room b c tells later w more hears = absurd hears

  -- an answer was said, or a front of it
  pub said : (visit : Visit) (given : VisitGiven) (answer : Answer) (close : Bool) (b c : Course) (tells : Option (List ℕ)) (later : S)
      → Answers leads faults can_submit settings store start told visit.kept visit.taken b tells later answer close → IsPhaseOf (Say answer close) visit.phase
      → SaysSo (reply_text answer close) b given c → Due leads faults can_submit settings store start told given visit c tells later
  said visit given_is.Begin answer close b c tells later a is says = absurd says
  said visit (given_is.Heard octets) answer close b c tells later a is says = absurd says
  said visit given_is.Quiet answer close b c tells later a is says = absurd says
  said visit given_is.End answer close b c tells later a is says = absurd says
  said visit given_is.Fault answer close b c tells later a is says = absurd says
  said visit given_is.Said answer close b c tells later a is says =
      record { answer = answer; close = close; before = b; answers = a; phase = saying visit.phase answer close is; said = says }
  said visit given_is.SayFault answer close b c tells later a is says =
      record { answer = answer; close = close; before = b; answers = a; phase = saying visit.phase answer close is; said = says }
  said visit (given_is.Answered outcome) answer close b c tells later a is says = absurd says

  -- the parts of a request were handed in
  pub handed : ((a : S) → leads a [] a) → ((a b c : S) (xs ys : List Deed) → leads a xs b → leads b ys c → leads a (xs ++ ys) c)
      → (visit : Visit) (time : ℕ) (parts : List Sms) (outcome : Result Reply Refusal) (b : Course) (tells : Option (List ℕ)) (later after : S)
      → Hands leads faults can_submit settings store start told visit.kept visit.taken b tells later time parts [] visit.phase
      → leads later (record { parts = parts; time = time; outcome = outcome } ∷ []) after
      → (outcome ≡ Err refusal_is.Disk → Rose (faults later) (faults after))
      → (outcome ≢ Err refusal_is.Disk → faults after ≡ faults later) → faults later ≤ faults after → can_submit after
      → Decides leads faults can_submit settings store start told visit b tells after outcome
  handed nowhere leads_on visit time parts outcome b tells later after h led disk spared kept ready =
      let deed : Deed = record { parts = parts; time = time; outcome = outcome } in record {
        time = time;
        parts = parts;
        hands = record {
          kept = h.kept;
          front = h.front;
          head = h.head;
          heard = h.heard;
          asks = h.asks;
          in_phase = h.in_phase;
          events = h.events ++ Handed deed ∷ [];
          pieces = h.pieces;
          readings = h.readings;
          stands = h.stands;
          turn = turn_handed settings h.events h.pieces h.readings (deeds_in h.kept) h.kept
              (subst (λ deeds. IsInTurn settings h.events h.pieces h.readings deeds h.kept) (append-nil (deeds_in h.kept)) h.turn) deed
              (waits_moment settings h.kept (h.front ++ visit.kept) _ _ (deeds_in h.kept ++ deed ∷ []) (deed ∷ []) h.stands.kept_each h.stands.heard h.stands.said refl);
          read_at = read_at_more h.events (Handed deed ∷ []) h.kept h.front time h.read_at;
          has = has_done leads faults can_submit settings store start told nowhere leads_on h.readings (times_in h.kept ++ time ∷ []) (deeds_in h.kept) deed tells later after
              (subst (λ deeds. Has leads faults can_submit settings store start told h.readings (times_in h.kept ++ time ∷ []) deeds tells later) (append-nil (deeds_in h.kept)) h.has)
              led disk spared kept;
        };
        ready = ready;
      }

  -- octets were heard and lost
  pub lost : (visit : Visit) (budget room : ℕ) (memory : Memory) (b c d : Course) (tells : Option (List ℕ)) (later : S) (result : HttpEnd)
      → Waits leads faults can_submit settings store start told visit.kept visit.taken false b tells later → NeedsMore visit.kept → HearsSo room b (Err memory) c
      → visit.taken + room ≤ budget → SaysLost start.counts.starved c result d
      → Serves leads faults store later settings budget start d told tells result
  lost visit budget room memory b c d tells later result w more hears within says =
      let octets = hears.0 in
      let all = visit.kept ++ octets in
      let pieces = w.pieces ++ piece_is.Heard octets ∷ [] in
      let events = w.events ++ Spoke (piece_is.Heard octets) ∷ [] in
      let s = stands_heard leads faults can_submit settings store start told w.pieces w.kept visit.kept octets visit.taken b c w.stands more hears.1.2 hears.1.3 in
      let e : Exchange = record { octets = all; times = []; deeds = []; answer = OutOfMemory; close = true } in
      let is : IsExchange settings false e = inr (record {
        cause = inr (record { some = some_more visit.kept octets hears.1.0; answered = refl });
        no_time = refl;
        no_deed = refl;
        close = refl;
      }) in
      let stands = subst (λ left. Stands leads faults can_submit settings store start told pieces w.kept left (visit.taken + length octets) false c) (sym (append-nil all)) s in
      let times : times_in w.kept ≡ times_in (w.kept ++ e ∷ []) = sym (times_last w.kept e ∙ append-nil (times_in w.kept)) in
      let deeds : deeds_in w.kept ≡ deeds_in (w.kept ++ e ∷ []) = sym (deeds_last w.kept e ∙ append-nil (deeds_in w.kept)) in
      let has = subst (λ deeds. Has leads faults can_submit settings store start told w.readings (times_in (w.kept ++ e ∷ [])) deeds tells later) deeds
      (subst (λ times. Has leads faults can_submit settings store start told w.readings times (deeds_in w.kept) tells later) times w.has) in
      let heard_so = turn_heard settings w.events w.pieces w.readings (deeds_in w.kept) w.kept w.turn octets
      (waits_moment settings w.kept all _ _ (deeds_in w.kept) [] s.kept_each s.heard s.said (sym (append-nil (deeds_in w.kept)))) in
      let turn = turn_last settings events pieces w.readings (deeds_in (w.kept ++ e ∷ [])) w.kept
      (subst (λ deeds. IsInTurn settings events pieces w.readings deeds w.kept) deeds heard_so) e (All-nil (IsReadAt events w.kept all)) in
      let fits : visit.taken + length octets ≤ budget = omega (arith, within, hears.1.1) in
      by result e stands is has turn fits says refl refl
    where
      taken : ℕ
      taken = visit.taken + length hears.0

      pieces : List Piece
      pieces = w.pieces ++ piece_is.Heard hears.0 ∷ []

      events : List Event
      events = w.events ++ Spoke (piece_is.Heard hears.0) ∷ []

      cut : (result : HttpEnd) (e : Exchange) → Stands leads faults can_submit settings store start told pieces w.kept (e.octets ++ []) taken false c → IsExchange settings false e
          → Has leads faults can_submit settings store start told w.readings (times_in (w.kept ++ e ∷ [])) (deeds_in (w.kept ++ e ∷ [])) tells later
          → IsInTurn settings events pieces w.readings (deeds_in (w.kept ++ e ∷ [])) (w.kept ++ e ∷ [])
          → taken ≤ budget → ((gone : ℕ) × SaysFront (reply_text OutOfMemory true) gone c d × IsEndOf end_is.Fault start.counts.starved d.counts.starved result)
          → text_of e ≡ reply_text OutOfMemory true → Serves leads faults store later settings budget start d told tells result
      cut result e stands is has turn fits says text =
          serves_cut leads faults can_submit settings store start told events pieces w.readings w.readings w.kept e [] taken budget false c d tells later result says.0 stands is has turn (λ es ps t. (es, t)) fits
          (subst (λ octets. SaysFront octets says.0 c d) (sym text) says.1) says.2

      by : (result : HttpEnd) (e : Exchange) → Stands leads faults can_submit settings store start told pieces w.kept (e.octets ++ []) taken false c → IsExchange settings false e
          → Has leads faults can_submit settings store start told w.readings (times_in (w.kept ++ e ∷ [])) (deeds_in (w.kept ++ e ∷ [])) tells later
          → IsInTurn settings events pieces w.readings (deeds_in (w.kept ++ e ∷ [])) (w.kept ++ e ∷ [])
          → taken ≤ budget → SaysLost start.counts.starved c result d → text_of e ≡ reply_text OutOfMemory true → e.close ≡ true
          → Serves leads faults store later settings budget start d told tells result
      by end_is.End e stands is has turn fits says text close =
          serves_closed leads faults can_submit settings store start told events pieces w.readings w.readings w.kept e [] taken budget false c d tells later stands is has turn (λ es ps t. (es, t)) close fits
          (subst (λ octets. SaysAll octets c d) (sym text) says)
      by end_is.Fault e stands is has turn fits says text close = cut end_is.Fault e stands is has turn fits says text
      by end_is.Quiet e stands is has turn fits says text close = cut end_is.Quiet e stands is has turn fits says text
      by (end_is.Budget most) e stands is has turn fits says text close = cut (end_is.Budget most) e stands is has turn fits says text
      by end_is.Memory e stands is has turn fits says text close = cut end_is.Memory e stands is has turn fits says text
