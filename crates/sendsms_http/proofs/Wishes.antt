-- What is so once the visit wishes something, by what it was given.
use Rattle.std.proofs.Common.{◌≡◌, ◌≢◌, inl, inr, ℕ, ◌+◌, ◌≤◌, Bool, true, false, ◌||◌, List, [], ◌∷◌, ◌++◌, length, All, Option, Result, Ok, IfOk, refl, ap, sym, ◌∙◌, subst, arith}
use Rattle.std.proofs.lemmas.Bool.{false≢true}
use Rattle.std.proofs.lemmas.List.{append-nil}
use Rattle.std.proofs.lemmas.List.Elements.{All-nil, All-cons}
use Rattle.config_groups.specs.declared.settings.Settings.{Settings}
use Rattle.gate_model.specs.Acceptor.{Deed}
use Rattle.gate_model.specs.Reply.{IsAccepted}
use Rattle.gate_model.specs.declared.reply.Reply.{Reply}
use Rattle.gate_model.specs.declared.reply.Refusal.{Refusal}
use Rattle.http_text.specs.Answer.{reply_text}
use Rattle.http_text.specs.Head.{NeedsMore}
use Rattle.http_text.specs.declared.answer.Answer.{Answer}
use Rattle.http_text.specs.declared.head.Head.{Head}
use Rattle.kn_base.specs.Clock.{Adds}
use Rattle.kn_base.specs.Course.{Course}
use Rattle.kn_base.specs.Talk.{said_of, SaysAll, SaysFront}
use Rattle.sms_record.specs.declared.sms.Sms.{Sms}
use Rattle.sendsms_http.specs.Reply.{answer_of}
use Rattle.sendsms_http.specs.Request.{asked}
use Rattle.kn_base.specs.declared.piece.Piece.{Piece}
use Rattle.sendsms_http.specs.Events.{Event, Read, IsReadAt, IsInTurn}
use Rattle.sendsms_http.specs.Session.{Exchange, text_of, AnswersRequest, IsExchange, IsKept, ComesTo, closes_always, times_in, deeds_in, AreAmong, Serves}
use Rattle.sendsms_http.specs.SessionSteps.{IsEndOf, Stands, Has, Waits, Answers, Says, Decides, Due, Wished}
use Rattle.sendsms_http.specs.Visit.{IsVisit, FitsPhase, given_octets, Fits, IsNext, Owes, LooksAt, IsAtEnd, IsSaid, IsAnswered, answered, Wishes}
use Rattle.sendsms_http.specs.declared.http_end.HttpEnd.{HttpEnd}
use Rattle.sendsms_http.specs.declared.http_end.HttpEnd.TheVariants as end_is
use Rattle.sendsms_http.specs.declared.visit.Phase.{Phase}
use Rattle.sendsms_http.specs.declared.visit.Phase.TheVariants.{Fresh, Listening, Submitting, Saying, Done}
use Rattle.sendsms_http.specs.declared.visit.Visit.{Visit}
use Rattle.sendsms_http.specs.declared.visit.VisitGiven.{VisitGiven}
use Rattle.sendsms_http.specs.declared.visit.VisitGiven.TheVariants as given_is
use Rattle.sendsms_http.specs.declared.visit.VisitWish.{VisitWish}
use Rattle.sendsms_http.specs.declared.visit.VisitWish.TheVariants.{Listen, Submit, Say, Over}
use Rattle.sendsms_http.proofs.Events.{spoken, read_at_more, turn_read, read_now, turn_said, turn_last}
use Rattle.sendsms_http.proofs.Exchanges.{times_last, deeds_last}
use Rattle.sendsms_http.proofs.SessionLemmas.{stands_said, has_read, has_passed}
use Rattle.sendsms_http.proofs.Endings.{Finishes, none_rose, none_fell, serves_silent, serves_closed, serves_cut, serves_failed, serves_quiet}

-- the end of a session that came to one that is no fault
same_end : (end result : HttpEnd) (before now : ℕ) → end ≢ end_is.Fault → IsEndOf end before now result → result ≡ end
same_end end_is.End result before now other is = is
same_end end_is.Fault result before now other is = absurd (other refl)
same_end end_is.Quiet result before now other is = is
same_end (end_is.Budget taken) result before now other is = is
same_end end_is.Memory result before now other is = is

-- what was handed in for a request, and its answer by the outcome
abbrev decided : List ℕ → Head → ℕ → List Sms → Result Reply Refusal → Exchange
decided front head time parts outcome = record {
  octets = front;
  times = time ∷ [];
  deeds = record { parts = parts; time = time; outcome = outcome } ∷ [];
  answer = answer_of outcome;
  close = (head.close || head.body) || closes_always (answer_of outcome);
}

module _ {S : Type 0} (leads : S → List Deed → S → Type 0) (faults : S → ℕ) (can_submit : S → Type 0) (settings : Settings) (store : S) (start : Course) (told : Option (List ℕ)) where
  abbrev Standing : List Piece → List Exchange → List ℕ → ℕ → Bool → Course → Type 0
  Standing = Stands leads faults can_submit settings store start told

  abbrev Having : List ℕ → List ℕ → List Deed → Option (List ℕ) → S → Type 0
  Having = Has leads faults can_submit settings store start told

  abbrev WishedHere : ℕ → VisitWish → Visit → Course → Option (List ℕ) → S → Type 0
  WishedHere = Wished leads faults can_submit settings store start told

  -- an answer is owed without the store
  owes : (octets : List ℕ) (now : ℕ) (visit : Visit) (answer : Answer) (close ended : Bool) (b : Course) (tells tells_now : Option (List ℕ)) (later : S)
      → Waits leads faults can_submit settings store start told octets visit.taken ended b tells later → Adds now tells tells_now
      → Owes settings ended now octets visit answer close → (close ≡ false → ended ≡ false)
      → Answers leads faults can_submit settings store start told visit.kept visit.taken b tells_now later answer close
  owes octets now visit answer close ended b tells tells_now later w adds o open_yet =
      let e = o.exchange in
      let kept = w.kept in
      let readings = w.readings ++ now ∷ [] in
      let events = w.events ++ Read now ∷ [] in
      let read = has_read leads faults can_submit settings store start told w.readings (times_in kept) e.times (deeds_in kept) tells tells_now later now w.has adds o.timed in
      let deeds : deeds_in kept ≡ deeds_in (kept ++ e ∷ []) = sym (deeds_last kept e ∙ ap (λ more. deeds_in kept ++ more) o.no_deed ∙ append-nil (deeds_in kept)) in
      let stands = subst (λ left. Standing w.pieces kept left visit.taken ended b) o.cut w.stands in
      let turn = turn_read settings w.events w.pieces w.readings (deeds_in kept) kept w.turn now in
      let at = read_now settings w.events w.pieces w.readings (deeds_in kept) kept w.turn now e.octets visit.kept stands.heard stands.said refl in
      record {
        kept = kept;
        ended = ended;
        exchange = e;
        exchanged = o.exchanged;
        answered = o.answers;
        closes = o.closes;
        events = events;
        pieces = w.pieces;
        readings = readings;
        stands = stands;
        has = subst (λ deeds. Having readings (times_in (kept ++ e ∷ [])) deeds tells_now later) deeds
            (subst (λ times. Having readings times (deeds_in kept) tells_now later) (sym (times_last kept e)) read);
        turn = turn_last settings events w.pieces readings (deeds_in (kept ++ e ∷ [])) kept
            (subst (λ deeds. IsInTurn settings events w.pieces readings deeds kept) deeds turn) e
            (times_now e.times (IsReadAt events kept e.octets) o.timed at);
        open_yet = open_yet;
        ready = w.ready;
      }
    where
      -- the times of an exchange are this reading, or none
      times_now : (times : List ℕ) (P : ℕ → Type 0) → AreAmong times (now ∷ []) → P now → All P times
      times_now [] P among p = All-nil P
      times_now (time ∷ times) P (inl same) p =
          All-cons P time times (subst P (sym same.0) p) (subst (All P) (sym (none_more times same.1)) (All-nil P))
        where
          none_more : (times : List ℕ) → AreAmong times [] → times ≡ []
          none_more [] among = refl
          none_more (time ∷ times) among = absurd among
      times_now (time ∷ times) P (inr later) p = absurd later

  -- the budget is spent
  spent : (events : List Event) (pieces : List Piece) (readings : List ℕ) (kept : List Exchange) (left : List ℕ) (taken budget : ℕ) (b : Course) (tells : Option (List ℕ)) (later : S) (end result : HttpEnd)
      → Standing pieces kept left taken false b → Having readings (times_in kept) (deeds_in kept) tells later
      → IsInTurn settings events pieces readings (deeds_in kept) kept → NeedsMore left → taken ≡ budget → end ≡ end_is.Budget budget
      → IsEndOf end start.counts.starved b.counts.starved result → Serves leads faults store later settings budget start b told tells result
  spent events pieces readings kept left taken budget b tells later end result s h turn more all is so =
      let same = same_end (end_is.Budget budget) result start.counts.starved b.counts.starved (λ e. cc)
      (subst (λ end. IsEndOf end start.counts.starved b.counts.starved result) is so) in
      subst (λ end. Serves leads faults store later settings budget start b told tells end) (sym same)
      (serves_silent leads faults can_submit settings store start told events pieces readings kept left taken budget false b b tells later (end_is.Budget budget) s h turn (more, refl) (omega (arith, all))
      (refl, all) refl refl (none_fell b.counts b.counts refl) (none_rose start.counts b.counts false s.counts))

  -- octets were looked at
  from_looks : (octets : List ℕ) (budget now : ℕ) (visit : Visit) (wish : VisitWish) (b : Course) (tells tells_now : Option (List ℕ)) (later : S)
      → Waits leads faults can_submit settings store start told octets visit.taken false b tells later → Adds now tells tells_now
      → LooksAt settings now octets visit wish → visit.budget ≡ budget → WishedHere budget wish visit b tells_now later
  from_looks octets budget now visit Listen b tells tells_now later w adds looks most = record {
    kept = w.kept;
    events = w.events ++ Read now ∷ [];
    pieces = w.pieces;
    readings = w.readings ++ now ∷ [];
    stands = subst (λ left. Standing w.pieces w.kept left visit.taken false b) (sym looks) w.stands;
    has = has_passed leads faults can_submit settings store start told w.readings (times_in w.kept) (deeds_in w.kept) tells tells_now later now w.has adds;
    turn = turn_read settings w.events w.pieces w.readings (deeds_in w.kept) w.kept w.turn now;
    ready = w.ready;
  }
  from_looks octets budget now visit (Submit time parts) b tells tells_now later w adds looks most =
      let among : AreAmong (time ∷ []) (now ∷ []) = inl (looks.read_at, tt) in
      let readings = w.readings ++ now ∷ [] in
      let events = w.events ++ Read now ∷ [] in
      let read = has_read leads faults can_submit settings store start told w.readings (times_in w.kept) (time ∷ []) (deeds_in w.kept) tells tells_now later now w.has adds among in
      let stands = subst (λ left. Standing w.pieces w.kept left visit.taken false b) looks.cut w.stands in
      let at = read_now settings w.events w.pieces w.readings (deeds_in w.kept) w.kept w.turn now looks.front visit.kept stands.heard stands.said refl in (
        record {
          kept = w.kept;
          front = looks.front;
          head = looks.head;
          heard = looks.heard;
          asks = subst (λ at. asked settings looks.head at ≡ Ok parts.items) (sym looks.read_at) looks.asks;
          in_phase = looks.phase;
          events = events;
          pieces = w.pieces;
          readings = readings;
          stands = stands;
          has = subst (λ deeds. Having readings (times_in w.kept ++ time ∷ []) deeds tells_now later) (sym (append-nil (deeds_in w.kept))) read;
          turn = subst (λ deeds. IsInTurn settings events w.pieces readings deeds w.kept) (sym (append-nil (deeds_in w.kept)))
              (turn_read settings w.events w.pieces w.readings (deeds_in w.kept) w.kept w.turn now);
          read_at = subst (IsReadAt events w.kept looks.front) (sym looks.read_at) at;
        },
        looks.fits,
        w.ready,
      )
  from_looks octets budget now visit (Say answer close) b tells tells_now later w adds looks most =
      owes octets now visit answer close false b tells tells_now later w adds looks (λ open_yet. refl)
  from_looks octets budget now visit (Over end) b tells tells_now later w adds looks most = λ result so.
      let has = has_passed leads faults can_submit settings store start told w.readings (times_in w.kept) (deeds_in w.kept) tells tells_now later now w.has adds in
      let turn = turn_read settings w.events w.pieces w.readings (deeds_in w.kept) w.kept w.turn now in
      spent (w.events ++ Read now ∷ []) w.pieces (w.readings ++ now ∷ []) w.kept octets visit.taken budget b tells_now later end result w.stands has turn looks.1 (looks.2 ∙ most)
      (looks.3 ∙ ap (λ n. end_is.Budget n) (looks.2 ∙ most)) so

  -- the input ended
  from_end : (left : List ℕ) (budget now : ℕ) (visit : Visit) (wish : VisitWish) (b : Course) (tells tells_now : Option (List ℕ)) (later : S)
      → Waits leads faults can_submit settings store start told left visit.taken true b tells later → Adds now tells tells_now
      → IsAtEnd settings now left visit wish → visit.taken ≤ budget → WishedHere budget wish visit b tells_now later
  from_end [] budget now visit wish b tells tells_now later w adds ends within =
      subst (λ wish. WishedHere budget wish visit b tells_now later) (sym ends.0) (λ result so.
      let same = same_end end_is.End result start.counts.starved b.counts.starved (λ e. cc) so in
      let has = has_passed leads faults can_submit settings store start told w.readings (times_in w.kept) (deeds_in w.kept) tells tells_now later now w.has adds in
      let turn = turn_read settings w.events w.pieces w.readings (deeds_in w.kept) w.kept w.turn now in
      subst (λ end. Serves leads faults store later settings budget start b told tells_now end) (sym same)
      (serves_silent leads faults can_submit settings store start told (w.events ++ Read now ∷ []) w.pieces (w.readings ++ now ∷ []) w.kept [] visit.taken budget true b b tells_now later
      end_is.End w.stands has turn (refl, refl) within
      tt refl refl (none_fell b.counts b.counts refl) (none_rose start.counts b.counts true w.stands.counts)))
  from_end (octet ∷ octets) budget now visit Listen b tells tells_now later w adds ends within = absurd ends
  from_end (octet ∷ octets) budget now visit (Submit time parts) b tells tells_now later w adds ends within = absurd ends
  from_end (octet ∷ octets) budget now visit (Say answer close) b tells tells_now later w adds ends within =
      owes (octet ∷ octets) now visit answer close true b tells tells_now later w adds ends.0 (λ open_yet. absurd (false≢true (sym open_yet ∙ ends.1)))
  from_end (octet ∷ octets) budget now visit (Over end) b tells tells_now later w adds ends within = absurd ends

  -- the clock is read once more
  reads : (readings : List ℕ) (deeds : List Deed) (exchanges : List Exchange) (now : ℕ)
      → Finishes leads faults can_submit settings store start told readings (readings ++ now ∷ []) deeds exchanges
  reads readings deeds exchanges now = λ events pieces turn. (events ++ Read now ∷ [], turn_read settings events pieces readings deeds exchanges turn now)

  -- an answer was said whole
  from_said : (old visit : Visit) (budget now : ℕ) (wish : VisitWish) (b : Course) (tells tells_now : Option (List ℕ)) (later : S)
      → Says leads faults can_submit settings store start told SaysAll old b tells later → Adds now tells tells_now
      → IsSaid settings now old old.phase visit wish → visit.taken ≡ old.taken → visit.budget ≡ budget → visit.taken ≤ budget → WishedHere budget wish visit b tells_now later
  from_said old visit budget now wish b tells tells_now later says adds is same most within =
      by says.close says.answers (subst (λ phase. IsSaid settings now old phase visit wish) says.phase is) says.said
    where
      by : (close : Bool) (a : Answers leads faults can_submit settings store start told old.kept old.taken says.before tells later says.answer close)
          → IsSaid settings now old (Saying close) visit wish → SaysAll (reply_text says.answer close) says.before b → WishedHere budget wish visit b tells_now later
      by true a is said =
          let e = a.exchange in
          let text : reply_text says.answer true ≡ text_of e = (λ i. reply_text (sym a.answered i) (sym a.closes i)) in
          let has = has_passed leads faults can_submit settings store start told a.readings (times_in (a.kept ++ e ∷ [])) (deeds_in (a.kept ++ e ∷ [])) tells tells_now later now a.has adds in
          subst (λ wish. WishedHere budget wish visit b tells_now later) (sym is) (λ result so.
          let end = same_end end_is.End result start.counts.starved b.counts.starved (λ e. cc) so in
          subst (λ end. Serves leads faults store later settings budget start b told tells_now end) (sym end)
          (serves_closed leads faults can_submit settings store start told a.events a.pieces a.readings (a.readings ++ now ∷ []) a.kept e old.kept old.taken budget a.ended says.before b tells_now later
          a.stands a.exchanged has a.turn (reads a.readings (deeds_in (a.kept ++ e ∷ [])) (a.kept ++ e ∷ []) now) a.closes
          (subst (λ n. n ≤ budget) same within) (subst (λ octets. SaysAll octets says.before b) text said)))
      by false a is said =
          let e = a.exchange in
          let text : reply_text says.answer false ≡ text_of e = (λ i. reply_text (sym a.answered i) (sym a.closes i)) in
          let all = subst (λ octets. SaysAll octets says.before b) text said in
          let s = a.stands in
          let stands = stands_said leads faults can_submit settings store start told a.pieces a.kept e old.kept old.taken a.ended says.before b s (kept_open e a.ended a.exchanged a.closes) all in
          let turn = turn_said settings a.events a.pieces a.readings (deeds_in (a.kept ++ e ∷ [])) (a.kept ++ e ∷ []) a.turn a.kept e a.ended old.kept [] all.pieces s.kept_each
          a.exchanged s.heard s.said refl all.nothing_heard (sym (append-nil (said_of all.pieces) ∙ all.said)) in
          from_looks old.kept budget now visit wish b tells tells_now later
          (record {
            kept = a.kept ++ e ∷ [];
            events = a.events ++ spoken all.pieces;
            pieces = a.pieces ++ all.pieces;
            readings = a.readings;
            stands = subst (λ n. Standing (a.pieces ++ all.pieces) (a.kept ++ e ∷ []) old.kept n false b) (sym same)
                (subst (λ ended. Standing (a.pieces ++ all.pieces) (a.kept ++ e ∷ []) old.kept old.taken ended b) (a.open_yet refl) stands);
            has = a.has;
            turn = turn;
            ready = a.ready;
          }) adds is most
        where
          kept_open : (e : Exchange) (ended : Bool) → IsExchange settings ended e → e.close ≡ false → IsKept settings e
          kept_open e ended (inl request) open_yet = (request, open_yet)
          kept_open e ended (inr octets) open_yet = absurd (false≢true (sym open_yet ∙ octets.close))

  -- saying an answer failed
  from_say_fault : (old visit : Visit) (budget now : ℕ) (b : Course) (tells tells_now : Option (List ℕ)) (later : S)
      → Says leads faults can_submit settings store start told (λ text old new. (gone : ℕ) × SaysFront text gone old new) old b tells later → Adds now tells tells_now
      → old.taken ≤ budget → WishedHere budget (Over end_is.Fault) visit b tells_now later
  from_say_fault old visit budget now b tells tells_now later says adds within = λ result so.
      let a = says.answers in
      let e = a.exchange in
      let text : reply_text says.answer says.close ≡ text_of e = (λ i. reply_text (sym a.answered i) (sym a.closes i)) in
      let has = has_passed leads faults can_submit settings store start told a.readings (times_in (a.kept ++ e ∷ [])) (deeds_in (a.kept ++ e ∷ [])) tells tells_now later now a.has adds in
      serves_cut leads faults can_submit settings store start told a.events a.pieces a.readings (a.readings ++ now ∷ []) a.kept e old.kept old.taken budget a.ended says.before b tells_now later result says.said.0
      a.stands a.exchanged has a.turn (reads a.readings (deeds_in (a.kept ++ e ∷ [])) (a.kept ++ e ∷ []) now) within
      (subst (λ octets. SaysFront octets says.said.0 says.before b) text says.said.1) so

  -- the store answered
  from_answered : (old visit : Visit) (budget now : ℕ) (wish : VisitWish) (b : Course) (tells tells_now : Option (List ℕ)) (later : S) (outcome : Result Reply Refusal)
      → Decides leads faults can_submit settings store start told old b tells later outcome → IfOk outcome IsAccepted → Adds now tells tells_now
      → IsAnswered old.phase outcome wish → visit.kept ≡ old.kept → visit.taken ≡ old.taken → WishedHere budget wish visit b tells_now later
  from_answered old visit budget now wish b tells tells_now later outcome d accepted adds is kept same =
      let h = d.hands in
      let e = decided h.front h.head d.time d.parts outcome in
      let says : wish ≡ answered outcome (h.head.close || h.head.body) = subst (λ phase. IsAnswered phase outcome wish) h.in_phase is in
      let comes : ComesTo (asked settings h.head d.time) d.time e.deeds e.answer =
      subst (λ (asks : Result (List Sms) Answer). ComesTo asks d.time e.deeds e.answer) (sym h.asks) (outcome, accepted, refl, refl) in
      let request : AnswersRequest settings e = record {
        head = h.head;
        heard = h.heard;
        now = d.time;
        time = refl;
        comes_to = inl comes;
        close = refl;
      } in
      let times : times_in h.kept ++ d.time ∷ [] ≡ times_in (h.kept ++ e ∷ []) = sym (times_last h.kept e) in
      let deeds : deeds_in h.kept ++ e.deeds ≡ deeds_in (h.kept ++ e ∷ []) = sym (deeds_last h.kept e) in
      let has = has_passed leads faults can_submit settings store start told h.readings (times_in h.kept ++ d.time ∷ []) (deeds_in h.kept ++ e.deeds) tells tells_now later now h.has adds in
      let readings = h.readings ++ now ∷ [] in
      let events = h.events ++ Read now ∷ [] in
      let turn = turn_last settings events h.pieces readings (deeds_in h.kept ++ e.deeds) h.kept
      (turn_read settings h.events h.pieces h.readings (deeds_in h.kept ++ e.deeds) h.kept h.turn now) e
      (All-cons (IsReadAt events h.kept h.front) d.time [] (read_at_more h.events (Read now ∷ []) h.kept h.front d.time h.read_at) (All-nil (IsReadAt events h.kept h.front))) in
      subst (λ wish. WishedHere budget wish visit b tells_now later) (sym says) (record {
        kept = h.kept;
        ended = false;
        exchange = e;
        exchanged = inl request;
        answered = refl;
        closes = refl;
        events = events;
        pieces = h.pieces;
        readings = readings;
        stands = subst (λ n. Standing h.pieces h.kept (h.front ++ visit.kept) n false b) (sym same)
            (subst (λ left. Standing h.pieces h.kept (h.front ++ left) old.taken false b) (sym kept) h.stands);
        has = subst (λ deeds. Having readings (times_in (h.kept ++ e ∷ [])) deeds tells_now later) deeds
            (subst (λ times. Having readings times (deeds_in h.kept ++ e.deeds) tells_now later) times has);
        turn = subst (λ deeds. IsInTurn settings events h.pieces readings deeds (h.kept ++ e ∷ [])) deeds turn;
        open_yet = λ open_yet. refl;
        ready = d.ready;
      })

  -- what is so once the visit wishes something
  pub wished : (given : VisitGiven) (old visit : Visit) (budget now : ℕ) (wish : VisitWish) (b : Course) (tells tells_now : Option (List ℕ)) (later : S)
      → Due leads faults can_submit settings store start told given old b tells later → FitsPhase old.phase given → Adds now tells tells_now
      → Wishes settings now old given wish visit → visit.taken ≡ old.taken + length (given_octets given) → visit.budget ≡ budget → visit.taken ≤ budget
      → WishedHere budget wish visit b tells_now later
  wished given_is.Begin old visit budget now wish b tells tells_now later due fits adds wishes same most within =
      from_looks old.kept budget now visit wish b tells tells_now later
      (subst (λ n. Waits leads faults can_submit settings store start told old.kept n false b tells later) (plain same) due) adds wishes most
    where
      plain : visit.taken ≡ old.taken + 0 → old.taken ≡ visit.taken
      plain e = omega (arith, e)
  wished (given_is.Heard octets) old visit budget now wish b tells tells_now later due fits adds wishes same most within =
      from_looks (old.kept ++ octets) budget now visit wish b tells tells_now later
      (subst (λ n. Waits leads faults can_submit settings store start told (old.kept ++ octets) n false b tells later) (sym same) due) adds wishes most
  wished given_is.Quiet old visit budget now wish b tells tells_now later due fits adds wishes same most within =
      subst (λ wish. WishedHere budget wish visit b tells_now later) (sym wishes) (λ result so.
      let w = due.waits in
      let end = same_end end_is.Quiet result start.counts.starved b.counts.starved (λ e. cc) so in
      let has = has_passed leads faults can_submit settings store start told w.readings (times_in w.kept) (deeds_in w.kept) tells tells_now later now w.has adds in
      let turn = turn_read settings w.events w.pieces w.readings (deeds_in w.kept) w.kept w.turn now in
      subst (λ end. Serves leads faults store later settings budget start b told tells_now end) (sym end)
      (serves_quiet leads faults can_submit settings store start told (w.events ++ Read now ∷ []) w.pieces (w.readings ++ now ∷ []) old.kept old.taken budget b tells_now later w.kept due.before w.stands has turn due.more due.stopped (omega (arith, same, within))))
  wished given_is.End old visit budget now wish b tells tells_now later due fits adds wishes same most within =
      from_end old.kept budget now visit wish b tells tells_now later
      (subst (λ n. Waits leads faults can_submit settings store start told old.kept n true b tells later) (plain same) due.0) adds wishes within
    where
      plain : visit.taken ≡ old.taken + 0 → old.taken ≡ visit.taken
      plain e = omega (arith, e)
  wished given_is.Fault old visit budget now wish b tells tells_now later due fits adds wishes same most within =
      subst (λ wish. WishedHere budget wish visit b tells_now later) (sym wishes) (λ result so.
      let w = due.waits in
      let has = has_passed leads faults can_submit settings store start told w.readings (times_in w.kept) (deeds_in w.kept) tells tells_now later now w.has adds in
      let turn = turn_read settings w.events w.pieces w.readings (deeds_in w.kept) w.kept w.turn now in
      serves_failed leads faults can_submit settings store start told (w.events ++ Read now ∷ []) w.pieces (w.readings ++ now ∷ []) old.kept old.taken budget b tells_now later result w.kept due.before w.stands has turn due.more due.stopped (omega (arith, same, within)) so)
  wished given_is.Said old visit budget now wish b tells tells_now later due fits adds wishes same most within =
      from_said old visit budget now wish b tells tells_now later due adds wishes (omega (arith, same)) most within
  wished given_is.SayFault old visit budget now wish b tells tells_now later due fits adds wishes same most within =
      subst (λ wish. WishedHere budget wish visit b tells_now later) (sym wishes)
      (from_say_fault old visit budget now b tells tells_now later due adds (omega (arith, same, within)))
  wished (given_is.Answered outcome) old visit budget now wish b tells tells_now later due fits adds wishes same most within =
      from_answered old visit budget now wish b tells tells_now later outcome due (accepted old.phase fits) adds wishes.1 wishes.0 (omega (arith, same))
    where
      accepted : (phase : Phase) → FitsPhase phase (given_is.Answered outcome) → IfOk outcome IsAccepted
      accepted Fresh fits = absurd fits
      accepted (Listening place) fits = absurd fits
      accepted (Submitting close) fits = fits
      accepted (Saying close) fits = absurd fits
      accepted Done fits = absurd fits

  -- the same by what is known of a step
  pub step : (given : VisitGiven) (old visit : Visit) (budget now : ℕ) (wish : VisitWish) (b : Course) (tells tells_now : Option (List ℕ)) (later : S)
      → Due leads faults can_submit settings store start told given old b tells later → Fits old given → old.budget ≡ budget → Adds now tells tells_now
      → IsNext settings now old given wish visit → IsVisit visit → WishedHere budget wish visit b tells_now later
  step given old visit budget now wish b tells tells_now later due fits most adds next is =
      wished given old visit budget now wish b tells tells_now later due fits.phase adds next.wishes next.taken (next.budget ∙ most)
      (subst (λ n. visit.taken ≤ n) (next.budget ∙ most) is.within)
