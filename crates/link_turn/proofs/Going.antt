-- A session goes on by what it is given.
use Rattle.std.proofs.Common.{◌≡◌, ◌∙◌, refl, sym, ap, subst, ℕ, ◌≤◌, inl, inr, ◌⊎◌, List, [], ◌∷◌, ◌++◌}
use Rattle.std.specs.Prelude.{Option, Some, None, Result}
use Rattle.std.proofs.lemmas.List.{append-nil}
use Rattle.gate_entries.specs.declared.passing.Passing.{Passing}
use Rattle.gate_entries.specs.declared.passing.Passing.TheVariants.{Up, Returned}
use Rattle.gate_entries.specs.declared.recorded.Recorded.{Recorded}
use Rattle.gate_model.specs.declared.reply.Refusal.{Refusal}
use Rattle.gate_model.specs.declared.reply.Reply.{Reply}
use Rattle.gate_store.specs.declared.taken.Taken.{Taken}
use Rattle.link_core.specs.Grammar.{IsFrame, HasFirst}
use Rattle.link_core.specs.declared.heard.Heard.{Heard}
use Rattle.link_core.specs.declared.out.Out.{Out}
use Rattle.link_core.specs.declared.out.Out.TheVariants as out_is
use Rattle.link_turn.specs.Steps.{Step, passed, says, records, passes, takes, leaves, heards_in, times_in, times_of_out, times_of_entry, said_in, deeds_in}
use Rattle.std.proofs.lemmas.Bool.{false≢true}
use Rattle.link_turn.specs.Due.{Due, come_up, give_back, due, out_for}
use Rattle.link_turn.specs.Session.{Talk, no_talk, messages, GoesOn, spoken_in, heard_by, spoken_by, deeds_by, IsCutShort}
use Rattle.link_turn.specs.SessionSteps.{AreApart, IsAnswer, with_step, handled, with_handled, message_said, message_ended, passed_step, Agrees, Keeps, Frames, Holds, IsReady, Owes, Ends, Begins, Heeds, IsToSay, Speaks, WasSaid, WasRecorded, HasPassedIn, WasTaken, IsOver, Stands, StandsIn, StandsBehind, StandsOn}
use Rattle.link_turn.specs.Talk.{AreReadings, IsCause, BreaksOff, IsIdle, LinkTalk}
use Rattle.link_turn.specs.declared.end_cause.EndCause.{EndCause}
use Rattle.link_turn.specs.declared.given.Given.{Given}
use Rattle.link_turn.specs.declared.given.Given.TheVariants as given_is
use Rattle.link_turn.specs.declared.session.Phase.{Phase}
use Rattle.link_turn.specs.declared.session.Phase.TheVariants.{Fresh, Listening, ComingUp, GivingBack, Taking, Leaving, Done}
use Rattle.link_turn.specs.declared.session.Phase.TheVariants as phase_is
use Rattle.link_turn.specs.declared.session.Recording.{Recording}
use Rattle.link_turn.specs.declared.session.Saying.{Saying}
use Rattle.link_turn.specs.declared.session.Saying.TheVariants as saying_is
use Rattle.link_turn.specs.declared.session.Session.{Session}
use Rattle.link_turn.specs.declared.terms.Terms.{Terms}
use Rattle.link_turn.specs.declared.wish.Wish.{Wish}
use Rattle.link_turn.specs.declared.wish.Wish.TheVariants as wish_is
use Rattle.link_turn.proofs.Readings.{readings_more, frames_more}
use Rattle.link_turn.proofs.Speaking.{timed_now}

-- a talk with one reading more
abbrev pub with_reading : (now : ℕ) → Talk → Talk
with_reading now talk = record talk { readings = talk.readings ++ now ∷ [] }

-- a talk in which these octets were heard too
abbrev pub with_octets : (octets : List ℕ) → Talk → Talk
with_octets octets talk = record talk { heard = talk.heard ++ octets }

deeds-handled : (heards : List Heard) (steps : List Step) → deeds_in (handled heards steps) ≡ deeds_in steps
deeds-handled [] steps = refl
deeds-handled (heard ∷ heards) steps = deeds-handled heards steps

said-handled : (said : Out → List ℕ) (heards : List Heard) (steps : List Step) → said_in said (handled heards steps) ≡ said_in said steps
said-handled said [] steps = refl
said-handled said (heard ∷ heards) steps = said-handled said heards steps

-- it goes on so behind some frames
goes_behind : (said : Out → List ℕ) (wish : Wish) (given : Given) (now : ℕ) (cut : List ℕ) (old new : Talk) (heards : List Heard) → GoesOn said wish given now cut old new
    → GoesOn said wish given now cut old (with_handled heards new)
goes_behind said wish given now cut old new heards g = record {
  heard = g.heard;
  readings = g.readings;
  spoken = ap (λ (xs : List ℕ). xs ++ new.cut) (said-handled said heards new.steps) ∙ g.spoken;
  deeds = deeds-handled heards new.steps ∙ g.deeds;
}

answer_times : (out : Out) → IsAnswer out → times_of_out out ≡ []
answer_times (out_is.ReportReply tag) is = refl
answer_times (out_is.MessageReply tag good) is = refl
answer_times (out_is.KeepReply tag) is = refl
answer_times (out_is.Nack tag id) is = refl
answer_times (out_is.Login tag) is = absurd is
answer_times (out_is.Submit tag number sms at) is = absurd is
answer_times (out_is.Keep tag) is = absurd is
answer_times (out_is.ByeReply tag) is = absurd is

module _ {C : Type 0} (hears_so : List ℕ → Heard → Type 0) (refuses : List ℕ → ℕ → ℕ → Type 0) (said : C → Out → List ℕ) (core : C) (terms : Terms) where
  abbrev On : Wish → Given → ℕ → List ℕ → Talk → Wish → Session C → Type 0
  On = StandsOn hears_so refuses said core terms

  abbrev TalkOf : Talk → EndCause → Type 0
  TalkOf talk cause = LinkTalk hears_so refuses (said core) terms talk.heard (spoken_in (said core) talk) talk.readings (deeds_in talk.steps) cause

  over_talk : (cause : EndCause) (talk : Talk) (s : Session C) → IsOver hears_so refuses said core terms cause talk s → TalkOf talk cause
  over_talk cause talk s o = record {
    steps = talk.steps;
    rest = o.rest;
    cut = talk.cut;
    each = o.agrees.each;
    frames = o.frames;
    says = refl;
    timed = o.agrees.timed;
    done = refl;
    caused = o.caused;
    none_held = o.none_held;
    is_down = o.is_down;
  }

  -- what a session leaves that is over is the talk of a link
  pub ended_talk : (phase : Phase) (next : Wish) (cause : EndCause) (talk : Talk) (s : Session C) → StandsIn hears_so refuses said core terms phase next talk s → next ≡ wish_is.Over cause → TalkOf talk cause
  ended_talk Done next cause talk s stands is =
      let both : wish_is.Over stands.0 ≡ wish_is.Over cause = sym stands.1 ∙ is in
      let same : stands.0 ≡ cause = cc in
      subst (TalkOf talk) same (over_talk stands.0 talk s stands.2)
  ended_talk Fresh next cause talk s stands is = absurd (let e : wish_is.Listen ≡ wish_is.Over cause = sym stands.0 ∙ is in cc)
  ended_talk Listening next cause talk s stands is = absurd (let e : wish_is.Listen ≡ wish_is.Over cause = sym stands.0 ∙ is in cc)
  ended_talk (phase_is.Saying saying) next cause talk s stands is = absurd (let e : wish_is.Say (said core stands.0) ≡ wish_is.Over cause = sym stands.1 ∙ is in cc)
  ended_talk (phase_is.Recording recording) next cause talk s stands is = absurd (let e : wish_is.Perform stands.0 ≡ wish_is.Over cause = sym stands.1 ∙ is in cc)
  ended_talk ComingUp next cause talk s stands is = absurd (let e : wish_is.Pass (Up terms.link) ≡ wish_is.Over cause = sym stands.0 ∙ is in cc)
  ended_talk (GivingBack message) next cause talk s stands is = absurd (let e : wish_is.Pass (Returned message) ≡ wish_is.Over cause = sym stands.0 ∙ is in cc)
  ended_talk Taking next cause talk s stands is = absurd (let e : wish_is.TakeNext s.latest ≡ wish_is.Over cause = sym stands.0 ∙ is in cc)
  ended_talk (Leaving why one) next cause talk s stands is = absurd (let e : wish_is.Pass stands.0 ≡ wish_is.Over cause = sym stands.1 ∙ is in cc)

  pub stands_on : (wish next : Wish) (given : Given) (now : ℕ) (cut : List ℕ) (talk later : Talk) (s : Session C) → GoesOn (said core) wish given now cut talk later
      → Stands hears_so refuses said core terms next later s → On wish given now cut talk next s
  stands_on wish next given now cut talk later s g stands = record {
    later = later;
    goes = g;
    stands = stands;
    ended = λ cause is. ended_talk s.phase next cause later s stands is;
  }

  pub stands_on_behind : (wish next : Wish) (given : Given) (now : ℕ) (cut : List ℕ) (talk later : Talk) (s : Session C) → GoesOn (said core) wish given now cut talk later
      → StandsBehind hears_so refuses said core terms next later s → On wish given now cut talk next s
  stands_on_behind wish next given now cut talk later s g stands =
      let more : Talk = with_handled stands.0 later in record {
        later = more;
        goes = goes_behind (said core) wish given now cut talk later stands.0 g;
        stands = stands.1;
        ended = λ cause is. ended_talk s.phase next cause more s stands.1 is;
      }

  -- ---- one reading more

  abbrev at : (now : ℕ) → Session C → Session C
  at now s = record s { latest = now }

  agrees_read : (now : ℕ) (talk : Talk) (s : Session C) → Agrees hears_so refuses said core terms talk s → Agrees hears_so refuses said core terms (with_reading now talk) (at now s)
  agrees_read now talk s a = record {
    core_is = a.core_is;
    terms_are = a.terms_are;
    each = a.each;
    timed = readings_more (times_in talk.steps) talk.readings now a.timed;
    is_up = a.is_up;
    apart = a.apart;
  }

  keeps_read : (now : ℕ) (talk : Talk) (s : Session C) → Keeps hears_so refuses said core terms talk s → Keeps hears_so refuses said core terms (with_reading now talk) (at now s)
  keeps_read now talk s k = record {
    agrees = agrees_read now talk s k.agrees;
    staying = k.staying;
    latest = (talk.readings, refl);
    used = k.used;
    asked = k.asked;
    spoke = k.spoke;
    found = k.found;
  }

  holds_read : (one : Option ℕ) (now : ℕ) (talk : Talk) (s : Session C) → Holds hears_so refuses said core terms one talk s → Holds hears_so refuses said core terms one (with_reading now talk) (at now s)
  holds_read one now talk s h = record { others = h.others; among = h.among }

  ready_read : (now : ℕ) (talk : Talk) (s : Session C) → IsReady hears_so refuses said core terms talk s → IsReady hears_so refuses said core terms (with_reading now talk) (at now s)
  ready_read now talk s r = record {
    keeps = keeps_read now talk s r.keeps;
    holds = holds_read None now talk s r.holds;
    nothing_due = r.nothing_due;
    whole = r.whole;
  }

  -- ---- behind listening

  -- it was listening
  pub listened : (s : Session C) (wish : Wish) (talk : Talk) → s.phase ≡ Listening → Stands hears_so refuses said core terms wish talk s
      → (wish ≡ wish_is.Listen) × IsReady hears_so refuses said core terms talk s × Frames hears_so refuses said core terms talk s × (¬ HasFirst (IsFrame hears_so) s.kept)
  listened s wish talk pe stands =
      let l = subst (λ (p : Phase). StandsIn hears_so refuses said core terms p wish talk s) pe stands in (l.0, l.1, l.2, l.3)

  silently : (given : Given) (now : ℕ) (cut : List ℕ) (talk : Talk) (wish : Wish) → heard_by given ≡ [] → spoken_by wish_is.Listen given cut ≡ [] → deeds_by wish_is.Listen given ≡ [] → wish ≡ wish_is.Listen
      → GoesOn (said core) wish given now cut talk (with_reading now talk)
  silently given now cut talk wish hn sn dn we =
      subst (λ (w : Wish). GoesOn (said core) w given now cut talk (with_reading now talk)) (sym we) (record {
        heard = sym (append-nil talk.heard) ∙ ap (λ (xs : List ℕ). talk.heard ++ xs) (sym hn);
        readings = refl;
        spoken = sym (append-nil (spoken_in (said core) talk)) ∙ ap (λ (xs : List ℕ). spoken_in (said core) talk ++ xs) (sym sn);
        deeds = ap (λ ds. ds ++ deeds_in talk.steps) (sym dn);
      })

  -- nothing came in time
  pub goes_quiet : (now : ℕ) (cut : List ℕ) (talk : Talk) (s : Session C) (wish : Wish) → s.phase ≡ Listening → Stands hears_so refuses said core terms wish talk s
      → GoesOn (said core) wish given_is.Quiet now cut talk (with_reading now talk)
      × IsReady hears_so refuses said core terms (with_reading now talk) (at now s) × Frames hears_so refuses said core terms (with_reading now talk) (at now s)
  goes_quiet now cut talk s wish pe stands =
      let l = listened s wish talk pe stands in
      (silently given_is.Quiet now cut talk wish refl refl refl l.0, ready_read now talk s l.1, l.2)

  -- octets came
  pub goes_heard : (octets : List ℕ) (now : ℕ) (cut : List ℕ) (talk : Talk) (s : Session C) (wish : Wish) → s.phase ≡ Listening → Stands hears_so refuses said core terms wish talk s
      → GoesOn (said core) wish (given_is.Heard octets) now cut talk (with_octets octets (with_reading now talk))
      × Heeds hears_so refuses said core terms octets (with_octets octets (with_reading now talk)) (at now s)
  goes_heard octets now cut talk s wish pe stands =
      let l = listened s wish talk pe stands in
      let r = ready_read now talk s l.1 in
      let more : Talk = with_octets octets (with_reading now talk) in
      let ready : IsReady hears_so refuses said core terms more (at now s) = record {
        keeps = record {
          agrees = record {
            core_is = r.keeps.agrees.core_is;
            terms_are = r.keeps.agrees.terms_are;
            each = r.keeps.agrees.each;
            timed = r.keeps.agrees.timed;
            is_up = r.keeps.agrees.is_up;
            apart = r.keeps.agrees.apart;
          };
          staying = r.keeps.staying;
          latest = r.keeps.latest;
          used = r.keeps.used;
          asked = r.keeps.asked;
          spoke = r.keeps.spoke;
          found = r.keeps.found;
        };
        holds = record { others = r.holds.others; among = tt };
        nothing_due = r.nothing_due;
        whole = r.whole;
      } in (
        subst (λ (w : Wish). GoesOn (said core) w (given_is.Heard octets) now cut talk more) (sym l.0) (record {
          heard = refl;
          readings = refl;
          spoken = sym (append-nil (spoken_in (said core) talk));
          deeds = refl;
        }),
        record { ready = ready; frames = frames_more hears_so talk.heard octets (heards_in talk.steps) s.kept l.2 },
      )

  -- it ends behind listening, for a cause that nothing due stands behind
  pub goes_over : (given : Given) (cause : EndCause) (now : ℕ) (cut : List ℕ) (talk : Talk) (s : Session C) (wish : Wish) → s.phase ≡ Listening → Stands hears_so refuses said core terms wish talk s
      → heard_by given ≡ [] → spoken_by wish_is.Listen given cut ≡ [] → deeds_by wish_is.Listen given ≡ []
      → (IsIdle hears_so refuses (said core) terms talk.steps s.kept talk.cut → IsCause hears_so refuses (said core) terms cause talk.steps s.kept talk.cut)
      → GoesOn (said core) wish given now cut talk (with_reading now talk) × Ends hears_so refuses said core terms cause None (with_reading now talk) (at now s)
  goes_over given cause now cut talk s wish pe stands hn sn dn caused =
      let l = listened s wish talk pe stands in
      let r = ready_read now talk s l.1 in (
        silently given now cut talk wish hn sn dn l.0,
        record {
          agrees = r.keeps.agrees;
          staying = r.keeps.staying;
          holds = r.holds;
          rest = s.kept;
          frames = l.2;
          caused = caused (record { nothing_due = l.1.nothing_due; all_handled = l.3; whole = l.1.whole });
        },
      )

  -- ---- behind the beginning

  pub goes_begun : (now : ℕ) (cut : List ℕ) (talk : Talk) (s : Session C) (wish : Wish) → s.phase ≡ Fresh → Stands hears_so refuses said core terms wish talk s
      → GoesOn (said core) wish given_is.Begin now cut talk (with_reading now no_talk) × Begins hears_so refuses said core terms (with_reading now no_talk) (at now s)
  goes_begun now cut talk s wish pe stands =
      let f = subst (λ (p : Phase). StandsIn hears_so refuses said core terms p wish talk s) pe stands in
      let n = f.2 in (
        subst (λ (t : Talk). GoesOn (said core) wish given_is.Begin now cut t (with_reading now no_talk)) (sym f.1)
            (subst (λ (w : Wish). GoesOn (said core) w given_is.Begin now cut no_talk (with_reading now no_talk)) (sym f.0)
            (record { heard = refl; readings = refl; spoken = refl; deeds = refl })),
        record {
          keeps = record {
            agrees = record {
              core_is = n.core_is;
              terms_are = n.terms_are;
              each = tt;
              timed = tt;
              is_up = n.is_down;
              apart = subst AreApart (sym n.none_used) tt;
            };
            staying = refl;
            latest = ([], refl);
            used = n.none_used;
            asked = n.none_asked;
            spoke = n.unsaid;
            found = λ yes. absurd (false≢true (sym n.unsearched ∙ yes));
          };
          holds = record { others = ap messages (sym n.none_used); among = tt };
          frames = sym n.kept;
          first = refl;
          whole = refl;
        },
      )

  -- ---- behind saying

  abbrev SpokeSo : Wish → Talk → Session C → Saying → Type 0
  SpokeSo wish talk s saying = (out : Out) × (wish ≡ wish_is.Say (said core out)) × Speaks hears_so refuses said core terms saying out talk s

  pub spoke_so : (s : Session C) (wish : Wish) (talk : Talk) (saying : Saying) → s.phase ≡ phase_is.Saying saying → Stands hears_so refuses said core terms wish talk s → SpokeSo wish talk s saying
  spoke_so s wish talk saying pe stands = subst (λ (p : Phase). StandsIn hears_so refuses said core terms p wish talk s) pe stands

  times_to_say : (saying : Saying) (out : Out) (talk : Talk) (now : ℕ) → IsToSay hears_so refuses said core terms saying out talk now → (times_of_out out ≡ []) ⊎ (times_of_out out ≡ now ∷ [])
  times_to_say (saying_is.Login tag) out talk now to = inl (ap times_of_out to.0)
  times_to_say (saying_is.Submit tag message) out talk now to = inr (ap times_of_out to.1)
  times_to_say saying_is.Answer out talk now to = inl (answer_times out to.1)
  times_to_say saying_is.Farewell out talk now to = inl (ap times_of_out to.1)
  times_to_say saying_is.Keep out talk now to = inl (ap times_of_out to.1)

  to_say_read : (saying : Saying) (out : Out) (now : ℕ) (talk : Talk) (before : ℕ) → IsToSay hears_so refuses said core terms saying out talk before
      → IsToSay hears_so refuses said core terms saying out (with_reading now talk) before
  to_say_read (saying_is.Login tag) out now talk before to = to
  to_say_read (saying_is.Submit tag message) out now talk before to = to
  to_say_read saying_is.Answer out now talk before to = to
  to_say_read saying_is.Farewell out now talk before to = to
  to_say_read saying_is.Keep out now talk before to = to

  -- it was said whole
  pub goes_said : (saying : Saying) (now : ℕ) (cut : List ℕ) (talk : Talk) (s : Session C) (wish : Wish) → s.phase ≡ phase_is.Saying saying → s.latest ≤ now
      → Stands hears_so refuses said core terms wish talk s
      → (out : Out) × GoesOn (said core) wish given_is.Said now cut talk (with_step (says out now) (with_reading now talk))
      × WasSaid hears_so refuses said core terms saying out (with_reading now talk) (at now s)
  goes_said saying now cut talk s wish pe order stands =
      let p = spoke_so s wish talk saying pe stands in
      let speaks = p.2 in
      let k = speaks.keeps in
      let timed : AreReadings (times_in talk.steps ++ times_of_out p.0) talk.readings = elim (times_to_say saying p.0 talk s.latest speaks.to_say) [
        | inl none ↦ subst (λ (ts : List ℕ). AreReadings (times_in talk.steps ++ ts) talk.readings) (sym none)
            (subst (λ (ts : List ℕ). AreReadings ts talk.readings) (sym (append-nil (times_in talk.steps))) k.agrees.timed)
        | inr one ↦ subst (λ (ts : List ℕ). AreReadings (times_in talk.steps ++ ts) talk.readings) (sym one)
            (timed_now (times_in talk.steps) talk.readings s.latest k.agrees.timed k.latest)
      ] in (
        p.0,
        subst (λ (w : Wish). GoesOn (said core) w given_is.Said now cut talk (with_step (says p.0 now) (with_reading now talk))) (sym p.1) (record {
          heard = sym (append-nil talk.heard);
          readings = refl;
          spoken = ap (λ (c : List ℕ). (said_in (said core) talk.steps ++ said core p.0) ++ c) speaks.whole ∙ append-nil (said_in (said core) talk.steps ++ said core p.0)
              ∙ ap (λ (xs : List ℕ). xs ++ said core p.0) (sym (append-nil (said_in (said core) talk.steps)) ∙ ap (λ (c : List ℕ). said_in (said core) talk.steps ++ c) (sym speaks.whole));
          deeds = refl;
        }),
        record {
          keeps = keeps_read now talk s k;
          holds = holds_read (message_said saying) now talk s speaks.holds;
          frames = speaks.frames;
          before = s.latest;
          to_say = to_say_read saying p.0 now talk s.latest speaks.to_say;
          order = order;
          timed = readings_more (times_in talk.steps ++ times_of_out p.0) talk.readings now timed;
          whole = speaks.whole;
        },
      )

  -- what was to be said was due
  to_break : (saying : Saying) (out : Out) (talk : Talk) (now : ℕ) → IsToSay hears_so refuses said core terms saying out talk now
      → (tag : ℕ) × (time : ℕ) × (out_for (due talk.steps) tag time ≡ Some out)
  to_break (saying_is.Login tag) out talk now to = (tag, 0, ap (λ (steps : List Step). out_for (due steps) tag 0) to.1 ∙ ap Some (sym to.0))
  to_break (saying_is.Submit tag message) out talk now to = (tag, now, ap (λ (d : Due). out_for d tag now) to.2 ∙ ap Some (sym to.1))
  to_break saying_is.Answer out talk now to = (0, 0, ap (λ (d : Due). out_for d 0 0) to.0)
  to_break saying_is.Farewell out talk now to = (0, 0, ap (λ (d : Due). out_for d 0 0) to.2)
  to_break saying_is.Keep out talk now to = (to.0, 0, ap (λ (d : Due). out_for d to.0 0) to.2 ∙ ap Some (sym to.1))

  -- saying it broke off
  pub goes_broken : (given : Given) (cause : EndCause) (saying : Saying) (now : ℕ) (cut : List ℕ) (talk : Talk) (s : Session C) (wish : Wish) → s.phase ≡ phase_is.Saying saying
      → Stands hears_so refuses said core terms wish talk s → heard_by given ≡ [] → ((octets : List ℕ) → spoken_by (wish_is.Say octets) given cut ≡ cut)
      → ((octets : List ℕ) → deeds_by (wish_is.Say octets) given ≡ []) → ((octets : List ℕ) → wish ≡ wish_is.Say octets → IsCutShort octets cut)
      → (BreaksOff hears_so refuses (said core) terms talk.steps cut → IsCause hears_so refuses (said core) terms cause talk.steps s.kept cut)
      → GoesOn (said core) wish given now cut talk (record (with_reading now talk) { cut = cut })
      × Ends hears_so refuses said core terms cause (message_said saying) (record (with_reading now talk) { cut = cut }) (at now s)
  goes_broken given cause saying now cut talk s wish pe stands hn sn dn short caused =
      let p = spoke_so s wish talk saying pe stands in
      let speaks = p.2 in
      let r = keeps_read now talk s speaks.keeps in
      let h = holds_read (message_said saying) now talk s speaks.holds in
      let off = short (said core p.0) p.1 in
      let to = to_break saying p.0 talk s.latest speaks.to_say in
      let breaks : BreaksOff hears_so refuses (said core) terms talk.steps cut =
      record { out = p.0; tag = to.0; time = to.1; to_say = to.2; gone = off.0; less = off.1; front = off.2 } in (
        subst (λ (w : Wish). GoesOn (said core) w given now cut talk (record (with_reading now talk) { cut = cut })) (sym p.1) (record {
          heard = sym (append-nil talk.heard) ∙ ap (λ (xs : List ℕ). talk.heard ++ xs) (sym hn);
          readings = refl;
          spoken = ap (λ (xs : List ℕ). xs ++ cut) (sym (append-nil (said_in (said core) talk.steps)) ∙ ap (λ (c : List ℕ). said_in (said core) talk.steps ++ c) (sym speaks.whole))
              ∙ ap (λ (xs : List ℕ). spoken_in (said core) talk ++ xs) (sym (sn (said core p.0)));
          deeds = ap (λ ds. ds ++ deeds_in talk.steps) (sym (dn (said core p.0)));
        }),
        record {
          agrees = record {
            core_is = r.agrees.core_is;
            terms_are = r.agrees.terms_are;
            each = r.agrees.each;
            timed = r.agrees.timed;
            is_up = r.agrees.is_up;
            apart = r.agrees.apart;
          };
          staying = r.staying;
          holds = record { others = h.others; among = h.among };
          rest = s.kept;
          frames = speaks.frames;
          caused = caused breaks;
        },
      )

  -- ---- behind the store

  pub goes_recorded : (outcome : Result Reply Refusal) (recording : Recording) (now : ℕ) (cut : List ℕ) (talk : Talk) (s : Session C) (wish : Wish) → s.phase ≡ phase_is.Recording recording
      → Stands hears_so refuses said core terms wish talk s
      → (kept : Recorded) × GoesOn (said core) wish (given_is.Answered outcome) now cut talk (with_step (records kept outcome) (with_reading now talk))
      × WasRecorded hears_so refuses said core terms kept (with_reading now talk) (at now s)
  goes_recorded outcome recording now cut talk s wish pe stands =
      let p = subst (λ (ph : Phase). StandsIn hears_so refuses said core terms ph wish talk s) pe stands in
      let r = p.2 in (
        p.0,
        subst (λ (w : Wish). GoesOn (said core) w (given_is.Answered outcome) now cut talk (with_step (records p.0 outcome) (with_reading now talk))) (sym p.1) (record {
          heard = sym (append-nil talk.heard);
          readings = refl;
          spoken = sym (append-nil (spoken_in (said core) talk));
          deeds = refl;
        }),
        (
          recording,
          pe,
          record {
            keeps = keeps_read now talk s r.keeps;
            holds = holds_read (message_ended recording) now talk s r.holds;
            frames = r.frames;
            time = r.time;
            entry = r.entry;
            timed = readings_more (times_in talk.steps ++ times_of_entry p.0) talk.readings now r.timed;
            to_record = r.to_record;
            ends = r.ends;
            whole = r.whole;
          },
        ),
      )

  owes_read : (owed : Due) (one : Option ℕ) (now : ℕ) (talk : Talk) (s : Session C) → Owes hears_so refuses said core terms owed one talk s
      → Owes hears_so refuses said core terms owed one (with_reading now talk) (at now s)
  owes_read owed one now talk s o = record {
    keeps = keeps_read now talk s o.keeps;
    holds = holds_read one now talk s o.holds;
    due_is = o.due_is;
    whole = o.whole;
  }

  goes_passed_so : (step : Step) (brief : Passing) (now : ℕ) (cut : List ℕ) (talk : Talk) (wish : Wish) → wish ≡ wish_is.Pass brief → deeds_in (step ∷ talk.steps) ≡ passed brief ∷ deeds_in talk.steps
      → said_in (said core) (step ∷ talk.steps) ≡ said_in (said core) talk.steps → GoesOn (said core) wish given_is.Passed now cut talk (with_step step (with_reading now talk))
  goes_passed_so step brief now cut talk wish we de se =
      subst (λ (w : Wish). GoesOn (said core) w given_is.Passed now cut talk (with_step step (with_reading now talk))) (sym we) (record {
        heard = sym (append-nil talk.heard);
        readings = refl;
        spoken = ap (λ (xs : List ℕ). xs ++ talk.cut) se ∙ sym (append-nil (spoken_in (said core) talk));
        deeds = de;
      })

  pub goes_passed : (now : ℕ) (cut : List ℕ) (talk : Talk) (s : Session C) (wish : Wish) (phase : Phase) → s.phase ≡ phase
      → (phase ≡ ComingUp) ⊎ ((message : ℕ) × (phase ≡ GivingBack message)) ⊎ ((cause : EndCause) × (one : Option ℕ) × (phase ≡ Leaving cause one))
      → StandsIn hears_so refuses said core terms phase wish talk s
      → (brief : Passing) × GoesOn (said core) wish given_is.Passed now cut talk (with_step (passed_step phase brief) (with_reading now talk))
      × HasPassedIn hears_so refuses said core terms phase brief (with_reading now talk) (at now s)
  goes_passed now cut talk s wish ComingUp pe fits stands =
      (Up terms.link, goes_passed_so (passes (Up terms.link)) (Up terms.link) now cut talk wish stands.0 refl refl, (refl, owes_read come_up None now talk s stands.1, stands.2))
  goes_passed now cut talk s wish (GivingBack message) pe fits stands = (
    Returned message,
    goes_passed_so (passes (Returned message)) (Returned message) now cut talk wish stands.0 refl refl,
    (refl, owes_read (give_back message) (Some message) now talk s stands.1, stands.2),
  )
  goes_passed now cut talk s wish (Leaving cause one) pe fits stands =
      let l = stands.2 in
      let a = agrees_read now (with_step (leaves stands.0) talk) s l.agrees in (
        stands.0,
        goes_passed_so (leaves stands.0) stands.0 now cut talk wish stands.1 refl refl,
        record {
          agrees = record {
            core_is = a.core_is;
            terms_are = a.terms_are;
            each = a.each;
            timed = a.timed;
            is_up = a.is_up;
            apart = a.apart;
          };
          holds = record { others = l.holds.others; among = l.holds.among };
          rest = l.rest;
          frames = l.frames;
          caused = l.caused;
        },
      )
  goes_passed now cut talk s wish Fresh pe fits stands = absurd (elim fits [ inl e ↦ cc | inr more ↦ elim more [ inl e ↦ let is = e.1 in cc | inr e ↦ let is = e.2 in cc ] ])
  goes_passed now cut talk s wish Listening pe fits stands = absurd (elim fits [ inl e ↦ cc | inr more ↦ elim more [ inl e ↦ let is = e.1 in cc | inr e ↦ let is = e.2 in cc ] ])
  goes_passed now cut talk s wish (phase_is.Saying saying) pe fits stands = absurd (elim fits [ inl e ↦ cc | inr more ↦ elim more [ inl e ↦ let is = e.1 in cc | inr e ↦ let is = e.2 in cc ] ])
  goes_passed now cut talk s wish (phase_is.Recording recording) pe fits stands = absurd (elim fits [ inl e ↦ cc | inr more ↦ elim more [ inl e ↦ let is = e.1 in cc | inr e ↦ let is = e.2 in cc ] ])
  goes_passed now cut talk s wish Taking pe fits stands = absurd (elim fits [ inl e ↦ cc | inr more ↦ elim more [ inl e ↦ let is = e.1 in cc | inr e ↦ let is = e.2 in cc ] ])
  goes_passed now cut talk s wish Done pe fits stands = absurd (elim fits [ inl e ↦ cc | inr more ↦ elim more [ inl e ↦ let is = e.1 in cc | inr e ↦ let is = e.2 in cc ] ])

  pub goes_taken : (outcome : Result (Option Taken) Refusal) (now : ℕ) (cut : List ℕ) (talk : Talk) (s : Session C) (wish : Wish) → s.phase ≡ Taking
      → Stands hears_so refuses said core terms wish talk s
      → (time : ℕ) × GoesOn (said core) wish (given_is.Taken outcome) now cut talk (with_step (takes time outcome) (with_reading now talk))
      × WasTaken hears_so refuses said core terms time (with_reading now talk) (at now s)
  goes_taken outcome now cut talk s wish pe stands =
      let p = subst (λ (ph : Phase). StandsIn hears_so refuses said core terms ph wish talk s) pe stands in
      let r = p.1 in (
        s.latest,
        subst (λ (w : Wish). GoesOn (said core) w (given_is.Taken outcome) now cut talk (with_step (takes s.latest outcome) (with_reading now talk))) (sym p.0) (record {
          heard = sym (append-nil talk.heard);
          readings = refl;
          spoken = sym (append-nil (spoken_in (said core) talk));
          deeds = refl;
        }),
        record {
          ready = ready_read now talk s r;
          frames = p.2;
          up = p.3;
          unsearched = p.4;
          timed = readings_more (times_in talk.steps ++ s.latest ∷ []) talk.readings now (timed_now (times_in talk.steps) talk.readings s.latest r.keeps.agrees.timed r.keeps.latest);
        },
      )
