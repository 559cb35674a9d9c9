-- What a session did so far, after each step.
use Rattle.std.proofs.Common.{◌≡◌, ℕ, ◌+◌, ◌≤◌, Bool, true, false, List, [], ◌∷◌, ◌++◌, length, All, Option, refl, ap, sym, ◌∙◌, subst, arith, append_assoc, length-append}
use Rattle.std.proofs.lemmas.List.{append-nil}
use Rattle.std.proofs.lemmas.List.Elements.{All-nil, All-cons, All-append, All-head, All-tail, All-weaker}
use Rattle.config_groups.specs.declared.settings.Settings.{Settings}
use Rattle.gate_model.specs.Acceptor.{Deed, CountsFaults, IsFaultCounted, IsSpared}
use Rattle.http_text.specs.Head.{NeedsMore}
use Rattle.kn_base.specs.Clock.{Adds}
use Rattle.kn_base.specs.Count.{Counts}
use Rattle.kn_base.specs.Course.{Course, with_more, Ends}
use Rattle.kn_base.specs.Talk.{said_of, heard_of, SaysAll}
use Rattle.kn_base.specs.declared.piece.Piece.{Piece}
use Rattle.kn_base.specs.declared.piece.Piece.TheVariants.{Heard}
use Rattle.kn_base.proofs.Readings.{AddsAll-nil, AddsAll-append}
use Rattle.kn_base.proofs.Talks.{said_of-append, heard_of-append, with_more-nil, with_more-with_more}
use Rattle.sendsms_http.specs.Session.{Exchange, text_of, IsKept, heard_in, said_in, AreAmong}
use Rattle.sendsms_http.specs.SessionSteps.{Stands, Has}
use Rattle.sendsms_http.proofs.Events.{own_none, own_more}
use Rattle.sendsms_http.proofs.Exchanges.{heard_last, said_last, among_more, prompt_none, prompt_said, prompt_heard}

-- ---- the store's count of faults

pub CountsFaults-nil : (count : ℕ) → CountsFaults count count []
CountsFaults-nil count = record { counted = All-nil (IsFaultCounted count count); spared = λ all. refl; kept = omega arith }

module _ {S : Type 0} (leads : S → List Deed → S → Type 0) (faults : S → ℕ) (can_submit : S → Type 0) (settings : Settings) (store : S) (start : Course) (told : Option (List ℕ)) where
  -- before the first step
  pub stands_none : Stands leads faults can_submit settings store start told [] [] [] 0 false start
  stands_none = record {
    kept_each = All-nil (IsKept settings);
    heard = refl;
    said = refl;
    prompt = prompt_none settings;
    many = refl;
    talk = sym (with_more-nil start.talk);
    counts = refl;
  }

  -- octets were heard
  pub stands_heard : (pieces : List Piece) (kept : List Exchange) (left octets : List ℕ) (taken : ℕ) (b c : Course)
      → Stands leads faults can_submit settings store start told pieces kept left taken false b → NeedsMore left → c.counts ≡ b.counts
      → c.talk ≡ with_more b.talk (Heard octets ∷ [])
      → Stands leads faults can_submit settings store start told (pieces ++ Heard octets ∷ []) kept (left ++ octets) (taken + length octets) false c
  stands_heard pieces kept left octets taken b c s more counts talk =
      let heard : heard_of (pieces ++ Heard octets ∷ []) ≡ heard_of pieces ++ octets =
      heard_of-append pieces (Heard octets ∷ []) ∙ ap (λ back. heard_of pieces ++ back) (append-nil octets) in
      record {
        kept_each = s.kept_each;
        heard = heard ∙ ap (λ front. front ++ octets) s.heard ∙ append_assoc (heard_in kept) left octets;
        said = said_of-append pieces (Heard octets ∷ []) ∙ append-nil (said_of pieces) ∙ s.said;
        prompt = prompt_heard settings pieces octets s.prompt
            (record { kept = kept; kept_each = s.kept_each; left = left; heard = s.heard; said = s.said; needs_more = more });
        many = ap length heard ∙ length-append (heard_of pieces) octets ∙ ap (λ n. n + length octets) s.many;
        talk = talk ∙ ap (λ t. with_more t (Heard octets ∷ [])) s.talk ∙ with_more-with_more start.talk pieces (Heard octets ∷ []);
        counts = counts ∙ s.counts;
      }

  -- the input ended
  pub stands_ended : (pieces : List Piece) (kept : List Exchange) (left : List ℕ) (taken : ℕ) (b c : Course)
      → Stands leads faults can_submit settings store start told pieces kept left taken false b → Ends b c
      → Stands leads faults can_submit settings store start told pieces kept left taken true c
  stands_ended pieces kept left taken b c s e = record {
    kept_each = s.kept_each;
    heard = s.heard;
    said = s.said;
    prompt = s.prompt;
    many = s.many;
    talk = ap (λ (d : Course). d.talk) e.same ∙ s.talk;
    counts = ap (λ (d : Course). d.counts) e.same ∙ ap (λ (d : Counts). record d { ended = true }) s.counts;
  }

  -- an answer was said behind which the connection is kept
  pub stands_said : (pieces : List Piece) (kept : List Exchange) (e : Exchange) (left : List ℕ) (taken : ℕ) (ended : Bool) (b c : Course)
      → Stands leads faults can_submit settings store start told pieces kept (e.octets ++ left) taken ended b → IsKept settings e
      → (says : SaysAll (text_of e) b c)
      → Stands leads faults can_submit settings store start told (pieces ++ says.pieces) (kept ++ e ∷ []) left taken ended c
  stands_said pieces kept e left taken ended b c s is says =
      let heard : heard_of (pieces ++ says.pieces) ≡ heard_of pieces =
      heard_of-append pieces says.pieces ∙ ap (λ back. heard_of pieces ++ back) says.nothing_heard ∙ append-nil (heard_of pieces) in
      record {
        kept_each = All-append (IsKept settings) kept (e ∷ []) s.kept_each (All-cons (IsKept settings) e [] is (All-nil (IsKept settings)));
        heard = heard ∙ s.heard ∙ sym (append_assoc (heard_in kept) e.octets left) ∙ ap (λ front. front ++ left) (sym (heard_last kept e));
        said = said_of-append pieces says.pieces ∙ ap (λ front. front ++ said_of says.pieces) s.said ∙ ap (λ back. said_in kept ++ back) says.said
            ∙ sym (said_last kept e);
        prompt = prompt_said settings pieces says.pieces s.prompt says.nothing_heard;
        many = ap length heard ∙ s.many;
        talk = ap (λ (d : Course). d.talk) says.after ∙ ap (λ t. with_more t says.pieces) s.talk ∙ with_more-with_more start.talk pieces says.pieces;
        counts = ap (λ (d : Course). d.counts) says.after ∙ s.counts;
      }

  -- nothing was read or handed in
  pub has_none : leads store [] store → Has leads faults can_submit settings store start told [] [] [] told store
  has_none led = record {
    timed = tt;
    clock = AddsAll-nil told;
    led = led;
    own = own_none leads faults store;
    counts = CountsFaults-nil (faults store);
  }

  -- the clock was read, and perhaps that is a time of use
  pub has_read : (readings times more : List ℕ) (deeds : List Deed) (tells now : Option (List ℕ)) (later : S) (reading : ℕ)
      → Has leads faults can_submit settings store start told readings times deeds tells later → Adds reading tells now → AreAmong more (reading ∷ [])
      → Has leads faults can_submit settings store start told (readings ++ reading ∷ []) (times ++ more) deeds now later
  has_read readings times more deeds tells now later reading h adds among = record {
    timed = among_more times readings more reading h.timed among;
    clock = AddsAll-append readings (reading ∷ []) told tells now h.clock adds;
    led = h.led;
    own = h.own;
    counts = h.counts;
  }

  -- the clock was read, and that is no time of use
  pub has_passed : (readings times : List ℕ) (deeds : List Deed) (tells now : Option (List ℕ)) (later : S) (reading : ℕ)
      → Has leads faults can_submit settings store start told readings times deeds tells later → Adds reading tells now
      → Has leads faults can_submit settings store start told (readings ++ reading ∷ []) times deeds now later
  has_passed readings times deeds tells now later reading h adds =
      subst (λ all. Has leads faults can_submit settings store start told (readings ++ reading ∷ []) all deeds now later) (append-nil times)
      (has_read readings times [] deeds tells now later reading h adds tt)

  -- something was handed in
  pub has_done : ((a : S) → leads a [] a) → ((a b c : S) (xs ys : List Deed) → leads a xs b → leads b ys c → leads a (xs ++ ys) c)
      → (readings times : List ℕ) (deeds : List Deed) (deed : Deed) (tells : Option (List ℕ)) (later after : S)
      → Has leads faults can_submit settings store start told readings times deeds tells later → leads later (deed ∷ []) after
      → IsFaultCounted (faults later) (faults after) deed → (IsSpared deed → faults after ≡ faults later) → faults later ≤ faults after
      → Has leads faults can_submit settings store start told readings times (deeds ++ deed ∷ []) tells after
  has_done nowhere leads_on readings times deeds deed tells later after h led counted spared kept = record {
    timed = h.timed;
    clock = h.clock;
    led = leads_on store later after deeds (deed ∷ []) h.led led;
    own = own_more leads faults nowhere leads_on store later after deeds deed h.own h.led led counted spared;
    counts = record {
      counted = All-append (IsFaultCounted (faults store) (faults after)) deeds (deed ∷ [])
          (All-weaker (IsFaultCounted (faults store) (faults later)) (IsFaultCounted (faults store) (faults after))
          (λ d c disk. let rose = c disk in omega (arith, rose, kept)) deeds h.counts.counted)
          (All-cons (IsFaultCounted (faults store) (faults after)) deed [] (λ disk. let rose = counted disk in omega (arith, rose, h.counts.kept)) (All-nil (IsFaultCounted (faults store) (faults after))));
      spared = λ all. spared (All-head IsSpared deed [] (All-back deeds all)) ∙ h.counts.spared (All-front deeds all);
      kept = omega (arith, kept, h.counts.kept);
    };
  }
    where
      All-front : (xs : List Deed) → All IsSpared (xs ++ deed ∷ []) → All IsSpared xs
      All-front [] all = All-nil IsSpared
      All-front (x ∷ xs) all = All-cons IsSpared x xs (All-head IsSpared x (xs ++ deed ∷ []) all) (All-front xs (All-tail IsSpared x (xs ++ deed ∷ []) all))

      All-back : (xs : List Deed) → All IsSpared (xs ++ deed ∷ []) → All IsSpared (deed ∷ [])
      All-back [] all = all
      All-back (x ∷ xs) all = All-back xs (All-tail IsSpared x (xs ++ deed ∷ []) all)
