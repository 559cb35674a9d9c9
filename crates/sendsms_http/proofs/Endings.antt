-- What a session came to, by its end.
use Rattle.std.proofs.Common.{◌≡◌, ◌⊎◌, inl, inr, ℕ, ◌≤◌, Bool, true, false, ◌||◌, List, [], ◌∷◌, ◌++◌, length, take, drop, Option, Some, None, refl, ap, sym, ◌∙◌, subst, arith, append_assoc}
use Rattle.std.proofs.lemmas.List.{append-nil, take-append-drop}
use Rattle.config_groups.specs.declared.settings.Settings.{Settings}
use Rattle.gate_model.specs.Acceptor.{Deed}
use Rattle.http_text.specs.Head.{NeedsMore}
use Rattle.kn_base.specs.Count.{Counts, CountsFailure, NoneFell, Rose}
use Rattle.kn_base.specs.Course.{Course, with_more, Fails, IsQuiet}
use Rattle.kn_base.specs.Talk.{said_of, heard_of, SaysAll, SaysFront}
use Rattle.kn_base.proofs.Counts.{fell_then, failure_fell}
use Rattle.kn_base.proofs.Talks.{said_of-append, heard_of-append, with_more-with_more}
use Rattle.kn_base.specs.declared.piece.Piece.{Piece}
use Rattle.sendsms_http.specs.Events.{Event, IsInTurn}
use Rattle.sendsms_http.specs.Session.{Exchange, text_of, IsExchange, heard_in, said_in, times_in, deeds_in, IsCutShort, SaysLast, IsSilence, IsCaused, IsSpent, Serves}
use Rattle.sendsms_http.specs.SessionSteps.{IsEndOf, Stands, Has}
use Rattle.sendsms_http.specs.declared.http_end.HttpEnd.{HttpEnd}
use Rattle.sendsms_http.specs.declared.http_end.HttpEnd.TheVariants.{End, Fault, Quiet, Budget, Memory}
use Rattle.sendsms_http.proofs.Events.{spoken, turn_said}
use Rattle.sendsms_http.proofs.Exchanges.{heard_last, prompt_said}

-- ---- counts

-- no count rose
abbrev pub NoneRose : Counts → Counts → Type 0
NoneRose old new = IsCaused End old new

pub none_rose : (a b : Counts) (ended : Bool) → b ≡ record a { ended = ended || a.ended } → NoneRose a b
none_rose a b ended e = e ∙ ap (λ (d : Counts). record a { ended = d.ended }) (sym e)

pub none_fell : (a b : Counts) → NoneRose a b → NoneFell a b
none_fell a b s = record {
  faults = omega (arith, ap (λ (d : Counts). d.faults) s);
  starved = omega (arith, ap (λ (d : Counts). d.starved) s);
  quiets = omega (arith, ap (λ (d : Counts). d.quiets) s);
}

-- counts that didn't rise in a first step stand for those before it
pub fell_behind : (a b c : Counts) → NoneRose a b → NoneFell b c → NoneFell a c
fell_behind a b c s t = fell_then a b c (none_fell a b s) t

pub caused_behind : (end : HttpEnd) (a b c : Counts) → NoneRose a b → IsCaused end b c → IsCaused end a c
caused_behind End a b c s r = r ∙ ap (λ (d : Counts). record d { ended = c.ended }) s
caused_behind Fault a b c s r = subst (λ n. Rose n c.faults) (ap (λ (d : Counts). d.faults) s) r
caused_behind Quiet a b c s r = subst (λ n. Rose n c.quiets) (ap (λ (d : Counts). d.quiets) s) r
caused_behind (Budget taken) a b c s r = r ∙ ap (λ (d : Counts). record d { ended = c.ended }) s
caused_behind Memory a b c s r = subst (λ n. Rose n c.starved) (ap (λ (d : Counts). d.starved) s) r

-- the end after a call that failed: which count rose decides
pub failure_caused : (a b c : Counts) (result : HttpEnd) → NoneRose a b → CountsFailure b c → IsEndOf Fault a.starved c.starved result → IsCaused result a c
failure_caused a b c End s f is = cc
failure_caused a b c Fault s f is = elim f.cause [
  | inl faults ↦ subst (λ n. Rose n c.faults) (ap (λ (d : Counts). d.faults) s) faults
  | inr starved ↦ absurd (is (subst (λ n. Rose n c.starved) (ap (λ (d : Counts). d.starved) s) starved))
]
failure_caused a b c Quiet s f is = cc
failure_caused a b c (Budget taken) s f is = cc
failure_caused a b c Memory s f is = is

-- what a failed call is the end of: a fault or want of memory
pub failure_or : (before now : ℕ) (result : HttpEnd) → IsEndOf Fault before now result → (result ≡ Fault) ⊎ (result ≡ Memory)
failure_or before now End is = cc
failure_or before now Fault is = inl refl
failure_or before now Quiet is = cc
failure_or before now (Budget taken) is = cc
failure_or before now Memory is = inr refl

module _ {S : Type 0} (leads : S → List Deed → S → Type 0) (faults : S → ℕ) (can_submit : S → Type 0) (settings : Settings) (store : S) (start : Course) (told : Option (List ℕ)) where
  -- nothing more was said
  pub serves_silent : (events : List Event) (pieces : List Piece) (readings : List ℕ) (kept : List Exchange) (left : List ℕ) (taken budget : ℕ) (ended : Bool) (b c : Course) (tells : Option (List ℕ)) (later : S) (end : HttpEnd)
      → Stands leads faults can_submit settings store start told pieces kept left taken ended b
      → Has leads faults can_submit settings store start told readings (times_in kept) (deeds_in kept) tells later
      → IsInTurn settings events pieces readings (deeds_in kept) kept
      → IsSilence end left ended → taken ≤ budget → IsSpent end budget taken → c.talk ≡ b.talk → c.counts.ended ≡ b.counts.ended
      → NoneFell b.counts c.counts → IsCaused end start.counts c.counts
      → Serves leads faults store later settings budget start c told tells end
  serves_silent events pieces readings kept left taken budget ended b c tells later end s h turn silence within spent talk input fell caused = record {
    readings = readings;
    deeds = deeds_in kept;
    events = events;
    peer = record {
      pieces = pieces;
      ended = ended;
      told = talk ∙ s.talk;
      input_ended = input ∙ ap (λ (d : Counts). d.ended) s.counts;
      talk = record {
        kept = kept;
        last = None;
        rest = left;
        said_last = [];
        kept_each = s.kept_each;
        last_one = tt;
        hears = s.heard;
        says = s.said ∙ sym (append-nil (said_in kept));
        timed = h.timed;
        handed_in = refl;
        ends = (silence, refl);
      };
      prompt = s.prompt;
      within = subst (λ n. n ≤ budget) (sym s.many) within;
      spent = subst (λ n. IsSpent end budget n) (sym s.many) spent;
      fell = fell_behind start.counts b.counts c.counts (none_rose start.counts b.counts ended s.counts) fell;
      caused = caused;
    };
    turn = turn;
    clock = h.clock;
    led = h.led;
    own = h.own;
    counts = h.counts;
  }

  -- a last answer was said, or a front of it
  -- what is read of the clock behind what was said last
  abbrev pub Finishes : (readings last : List ℕ) → List Deed → List Exchange → Type 0
  Finishes readings last deeds exchanges =
      (events : List Event) (pieces : List Piece) → IsInTurn settings events pieces readings deeds exchanges
      → (all : List Event) × IsInTurn settings all pieces last deeds exchanges

  pub serves_last : (events : List Event) (pieces : List Piece) (readings last : List ℕ) (kept : List Exchange) (e : Exchange) (left : List ℕ) (taken budget : ℕ) (ended : Bool) (b c : Course) (tells : Option (List ℕ)) (later : S) (end : HttpEnd)
      (octets : List ℕ) (more : SaysAll octets b c)
      → Stands leads faults can_submit settings store start told pieces kept (e.octets ++ left) taken ended b → IsExchange settings ended e
      → Has leads faults can_submit settings store start told last (times_in (kept ++ e ∷ [])) (deeds_in (kept ++ e ∷ [])) tells later
      → IsInTurn settings events pieces readings (deeds_in (kept ++ e ∷ [])) (kept ++ e ∷ [])
      → Finishes readings last (deeds_in (kept ++ e ∷ [])) (kept ++ e ∷ [])
      → (gone : List ℕ) → text_of e ≡ octets ++ gone
      → SaysLast end e octets → taken ≤ budget → IsSpent end budget taken
      → (d : Course) → d.talk ≡ c.talk → d.counts.ended ≡ c.counts.ended → NoneFell c.counts d.counts → IsCaused end start.counts d.counts
      → Serves leads faults store later settings budget start d told tells end
  serves_last events pieces readings last kept e left taken budget ended b c tells later end octets more s is h turn finish gone text says within spent d talk input fell caused =
      let same : c.counts ≡ b.counts = ap (λ (d : Course). d.counts) more.after in
      let counts : c.counts ≡ record (start.counts) { ended = ended || start.counts.ended } = same ∙ s.counts in
      let heard : heard_of (pieces ++ more.pieces) ≡ heard_of pieces =
      heard_of-append pieces more.pieces ∙ ap (λ back. heard_of pieces ++ back) more.nothing_heard ∙ append-nil (heard_of pieces) in
      let many : length (heard_of (pieces ++ more.pieces)) ≡ taken = ap length heard ∙ s.many in
      let so_far = turn_said settings events pieces readings (deeds_in (kept ++ e ∷ [])) (kept ++ e ∷ []) turn kept e ended left gone more.pieces s.kept_each is
      s.heard s.said refl more.nothing_heard (text ∙ ap (λ front. front ++ gone) (sym more.said)) in
      let all = finish (events ++ spoken more.pieces) (pieces ++ more.pieces) so_far in
      record {
        readings = last;
        deeds = deeds_in (kept ++ e ∷ []);
        events = all.0;
        peer = record {
          pieces = pieces ++ more.pieces;
          ended = ended;
          told = talk ∙ ap (λ (d : Course). d.talk) more.after ∙ ap (λ t. with_more t more.pieces) s.talk ∙ with_more-with_more start.talk pieces more.pieces;
          input_ended = input ∙ ap (λ (d : Counts). d.ended) counts;
          talk = record {
            kept = kept;
            last = Some e;
            rest = left;
            said_last = octets;
            kept_each = s.kept_each;
            last_one = is;
            hears = heard ∙ s.heard ∙ sym (append_assoc (heard_in kept) e.octets left) ∙ ap (λ front. front ++ left) (sym (heard_last kept e));
            says = said_of-append pieces more.pieces ∙ ap (λ front. front ++ said_of more.pieces) s.said ∙ ap (λ back. said_in kept ++ back) more.said;
            timed = h.timed;
            handed_in = refl;
            ends = says;
          };
          prompt = prompt_said settings pieces more.pieces s.prompt more.nothing_heard;
          within = subst (λ n. n ≤ budget) (sym many) within;
          spent = subst (λ n. IsSpent end budget n) (sym many) spent;
          fell = fell_behind start.counts c.counts d.counts (none_rose start.counts c.counts ended counts) fell;
          caused = caused;
        };
        turn = all.1;
        clock = h.clock;
        led = h.led;
        own = h.own;
        counts = h.counts;
      }

  -- a whole answer was said behind which the connection closes
  pub serves_closed : (events : List Event) (pieces : List Piece) (readings last : List ℕ) (kept : List Exchange) (e : Exchange) (left : List ℕ) (taken budget : ℕ) (ended : Bool) (b c : Course) (tells : Option (List ℕ)) (later : S)
      → Stands leads faults can_submit settings store start told pieces kept (e.octets ++ left) taken ended b → IsExchange settings ended e
      → Has leads faults can_submit settings store start told last (times_in (kept ++ e ∷ [])) (deeds_in (kept ++ e ∷ [])) tells later
      → IsInTurn settings events pieces readings (deeds_in (kept ++ e ∷ [])) (kept ++ e ∷ [])
      → Finishes readings last (deeds_in (kept ++ e ∷ [])) (kept ++ e ∷ [])
      → e.close ≡ true → taken ≤ budget → SaysAll (text_of e) b c → Serves leads faults store later settings budget start c told tells End
  serves_closed events pieces readings last kept e left taken budget ended b c tells later s is h turn finish close within more =
      let counts : c.counts ≡ record (start.counts) { ended = ended || start.counts.ended } = ap (λ (d : Course). d.counts) more.after ∙ s.counts in
      serves_last events pieces readings last kept e left taken budget ended b c tells later End (text_of e) more s is h turn finish [] (sym (append-nil (text_of e)))
      (close, refl) within tt c refl refl
      (none_fell c.counts c.counts refl) (none_rose start.counts c.counts ended counts)

  cut_last : (result : HttpEnd) (e : Exchange) (octets : List ℕ) → (result ≡ Fault) ⊎ (result ≡ Memory) → IsCutShort octets (text_of e) → SaysLast result e octets
  cut_last result e octets (inl is) cut = subst (λ end. SaysLast end e octets) (sym is) cut
  cut_last result e octets (inr is) cut = subst (λ end. SaysLast end e octets) (sym is) cut

  not_spent : (result : HttpEnd) (budget taken : ℕ) → (result ≡ Fault) ⊎ (result ≡ Memory) → IsSpent result budget taken
  not_spent result budget taken (inl is) = subst (λ end. IsSpent end budget taken) (sym is) tt
  not_spent result budget taken (inr is) = subst (λ end. IsSpent end budget taken) (sym is) tt

  cut_off : (result : HttpEnd) (left : List ℕ) → (result ≡ Fault) ⊎ (result ≡ Memory) → NeedsMore left → IsSilence result left false
  cut_off result left (inl is) more = subst (λ end. IsSilence end left false) (sym is) (more, refl)
  cut_off result left (inr is) more = subst (λ end. IsSilence end left false) (sym is) (more, refl)

  -- saying an answer failed
  pub serves_cut : (events : List Event) (pieces : List Piece) (readings last : List ℕ) (kept : List Exchange) (e : Exchange) (left : List ℕ) (taken budget : ℕ) (ended : Bool) (b d : Course) (tells : Option (List ℕ)) (later : S)
      (result : HttpEnd) (gone : ℕ)
      → Stands leads faults can_submit settings store start told pieces kept (e.octets ++ left) taken ended b → IsExchange settings ended e
      → Has leads faults can_submit settings store start told last (times_in (kept ++ e ∷ [])) (deeds_in (kept ++ e ∷ [])) tells later
      → IsInTurn settings events pieces readings (deeds_in (kept ++ e ∷ [])) (kept ++ e ∷ [])
      → Finishes readings last (deeds_in (kept ++ e ∷ [])) (kept ++ e ∷ [])
      → taken ≤ budget → SaysFront (text_of e) gone b d → IsEndOf Fault start.counts.starved d.counts.starved result
      → Serves leads faults store later settings budget start d told tells result
  serves_cut events pieces readings last kept e left taken budget ended b d tells later result gone s is h turn finish within front end =
      let c = front.between in
      let counts : c.counts ≡ record (start.counts) { ended = ended || start.counts.ended } = ap (λ (d : Course). d.counts) front.front.after ∙ s.counts in
      let rose = none_rose start.counts c.counts ended counts in
      let which = failure_or start.counts.starved d.counts.starved result end in
      serves_last events pieces readings last kept e left taken budget ended b c tells later result (take gone (text_of e)) front.front s is h turn finish
      (drop gone (text_of e)) (sym (take-append-drop gone (text_of e)))
      (cut_last result e (take gone (text_of e)) which (gone, front.less, refl)) within (not_spent result budget taken which)
      d (ap (λ (d : Course). d.talk) front.fails.same) (ap (λ (d : Counts). d.ended) front.fails.counts.same)
      (failure_fell c.counts d.counts front.fails.counts) (failure_caused start.counts c.counts d.counts result rose front.fails.counts end)

  -- a take failed
  pub serves_failed : (events : List Event) (pieces : List Piece) (readings : List ℕ) (left : List ℕ) (taken budget : ℕ) (now : Course) (tells : Option (List ℕ)) (later : S) (result : HttpEnd) (kept : List Exchange) (b : Course)
      → Stands leads faults can_submit settings store start told pieces kept left taken false b
      → Has leads faults can_submit settings store start told readings (times_in kept) (deeds_in kept) tells later
      → IsInTurn settings events pieces readings (deeds_in kept) kept → NeedsMore left → Fails b now
      → taken ≤ budget → IsEndOf Fault start.counts.starved now.counts.starved result
      → Serves leads faults store later settings budget start now told tells result
  serves_failed events pieces readings left taken budget now tells later result kept b s h turn more fails within end =
      let which = failure_or start.counts.starved now.counts.starved result end in
      let rose = none_rose start.counts b.counts false s.counts in
      serves_silent events pieces readings kept left taken budget false b now tells later result s h turn (cut_off result left which more) within (not_spent result budget taken which)
      (ap (λ (d : Course). d.talk) fails.same) (ap (λ (d : Counts). d.ended) fails.counts.same)
      (failure_fell b.counts now.counts fails.counts) (failure_caused start.counts b.counts now.counts result rose fails.counts end)

  -- a take was quiet
  pub serves_quiet : (events : List Event) (pieces : List Piece) (readings : List ℕ) (left : List ℕ) (taken budget : ℕ) (now : Course) (tells : Option (List ℕ)) (later : S) (kept : List Exchange) (b : Course)
      → Stands leads faults can_submit settings store start told pieces kept left taken false b
      → Has leads faults can_submit settings store start told readings (times_in kept) (deeds_in kept) tells later
      → IsInTurn settings events pieces readings (deeds_in kept) kept → NeedsMore left → IsQuiet b now
      → taken ≤ budget → Serves leads faults store later settings budget start now told tells Quiet
  serves_quiet events pieces readings left taken budget now tells later kept b s h turn more quiet within =
      let rose = none_rose start.counts b.counts false s.counts in
      serves_silent events pieces readings kept left taken budget false b now tells later Quiet s h turn (more, refl) within tt
      (ap (λ (d : Course). d.talk) quiet.same) (ap (λ (d : Counts). d.ended) quiet.counts.same)
      (record {
        faults = omega (arith, ap (λ (d : Counts). d.faults) quiet.counts.same);
        starved = omega (arith, ap (λ (d : Counts). d.starved) quiet.counts.same);
        quiets = quiet.counts.kept;
      }) (caused_behind Quiet start.counts b.counts now.counts rose quiet.counts.quiets)
