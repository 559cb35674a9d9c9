-- What a session keeps, where something of it changes, and by one step more.
use Rattle.std.proofs.Common.{◌≡◌, ◌∙◌, refl, sym, ap, subst, ℕ, true, List, [], ◌∷◌, ◌++◌, drop}
use Rattle.std.specs.Prelude.{Option, None}
use Rattle.std.proofs.lemmas.List.{append-nil}
use Rattle.link_core.specs.Streams.{AreFrames}
use Rattle.link_core.specs.declared.heard.Heard.{Heard}
use Rattle.link_core.specs.declared.out.Out.{Out}
use Rattle.link_turn.specs.Steps.{hears, heards_in, times_in}
use Rattle.link_turn.specs.Back.{login_heard, uses_heard}
use Rattle.link_turn.specs.Due.{Due, nothing, due_by}
use Rattle.link_turn.specs.Session.{Talk, messages}
use Rattle.link_turn.specs.SessionSteps.{AreApart, IsLast, with_step, Agrees, Keeps, Holds, IsReady, Owes, Faces, StandsThen}
use Rattle.link_turn.specs.Talk.{AreReadings}
use Rattle.link_turn.specs.declared.session.Session.{Session}
use Rattle.link_turn.specs.declared.terms.Terms.{Terms}

-- Two sessions that differ in nothing that the steps tell, but for what waits for answers.
pub record AreAlike {C : Type 0} (s t : Session C) : Type 0 where
  pub core : t.core ≡ s.core
  pub terms : t.terms ≡ s.terms
  pub up : t.up ≡ s.up
  pub now : t.latest ≡ s.latest
  pub spoke : t.last_said ≡ s.last_said
  pub found : t.searched ≡ true → s.searched ≡ true

-- times, with none more
pub timed_same : (times readings : List ℕ) → AreReadings times readings → AreReadings (times ++ []) readings
timed_same times readings are = subst (λ (ts : List ℕ). AreReadings ts readings) (sym (append-nil times)) are

module _ {C : Type 0} (hears_so : List ℕ → Heard → Type 0) (refuses : List ℕ → ℕ → ℕ → Type 0) (said : C → Out → List ℕ) (core : C) (terms : Terms) where
  pub agrees_same : (talk : Talk) (s t : Session C) → t.core ≡ s.core → t.terms ≡ s.terms → t.up ≡ s.up → t.in_use.items ≡ s.in_use.items
      → Agrees hears_so refuses said core terms talk s → Agrees hears_so refuses said core terms talk t
  agrees_same talk s t ce te ue ie a = record {
    core_is = ce ∙ a.core_is;
    terms_are = te ∙ a.terms_are;
    each = a.each;
    timed = a.timed;
    is_up = ue ∙ a.is_up;
    apart = subst AreApart (sym ie) a.apart;
  }

  pub keeps_same : (talk : Talk) (s t : Session C) → AreAlike s t → t.in_use.items ≡ s.in_use.items → t.login ≡ s.login
      → Keeps hears_so refuses said core terms talk s → Keeps hears_so refuses said core terms talk t
  keeps_same talk s t like ie le k = record {
    agrees = agrees_same talk s t like.core like.terms like.up ie k.agrees;
    staying = k.staying;
    latest = subst (λ (now : ℕ). IsLast now talk.readings) (sym like.now) k.latest;
    used = ie ∙ k.used;
    asked = le ∙ k.asked;
    spoke = like.spoke ∙ k.spoke;
    found = λ yes. k.found (like.found yes);
  }

  pub holds_same : (one : Option ℕ) (talk : Talk) (s t : Session C) → t.in_use.items ≡ s.in_use.items
      → Holds hears_so refuses said core terms one talk s → Holds hears_so refuses said core terms one talk t
  holds_same one talk s t ie h = record { others = h.others ∙ ap messages (sym ie); among = h.among }

  pub ready_same : (talk : Talk) (s t : Session C) → AreAlike s t → t.in_use.items ≡ s.in_use.items → t.login ≡ s.login
      → IsReady hears_so refuses said core terms talk s → IsReady hears_so refuses said core terms talk t
  ready_same talk s t like ie le r = record {
    keeps = keeps_same talk s t like ie le r.keeps;
    holds = holds_same None talk s t ie r.holds;
    nothing_due = r.nothing_due;
    whole = r.whole;
  }

  pub owes_same : (owed : Due) (one : Option ℕ) (talk : Talk) (s t : Session C) → AreAlike s t → t.in_use.items ≡ s.in_use.items → t.login ≡ s.login
      → Owes hears_so refuses said core terms owed one talk s → Owes hears_so refuses said core terms owed one talk t
  owes_same owed one talk s t like ie le o = record {
    keeps = keeps_same talk s t like ie le o.keeps;
    holds = holds_same one talk s t ie o.holds;
    due_is = o.due_is;
    whole = o.whole;
  }

  -- a frame was handled
  pub heard_keeps : (heard : Heard) (talk : Talk) (s t : Session C) → AreAlike s t → IsReady hears_so refuses said core terms talk s
      → t.in_use.items ≡ uses_heard heard s.in_use.items → t.login ≡ login_heard heard s.login → AreApart t.in_use.items
      → Keeps hears_so refuses said core terms (with_step (hears heard) talk) t
  heard_keeps heard talk s t like r ie le apart =
      let k = r.keeps in
      let a = k.agrees in record {
        agrees = record {
          core_is = like.core ∙ a.core_is;
          terms_are = like.terms ∙ a.terms_are;
          each = (r.nothing_due, a.each);
          timed = timed_same (times_in talk.steps) talk.readings a.timed;
          is_up = like.up ∙ a.is_up;
          apart = apart;
        };
        staying = refl;
        latest = subst (λ (now : ℕ). IsLast now talk.readings) (sym like.now) k.latest;
        used = ie ∙ ap (uses_heard heard) k.used;
        asked = le ∙ ap (login_heard heard) k.asked;
        spoke = like.spoke ∙ k.spoke;
        found = λ yes. k.found (like.found yes);
      }

  -- a frame was handled that asks for something else than the end of a message
  pub heard_owes : (heard : Heard) (owed : Due) (talk : Talk) (s t : Session C) → AreAlike s t → IsReady hears_so refuses said core terms talk s
      → t.in_use.items ≡ s.in_use.items → uses_heard heard s.in_use.items ≡ s.in_use.items → t.login ≡ login_heard heard s.login → due_by heard talk.steps ≡ owed
      → Owes hears_so refuses said core terms owed None (with_step (hears heard) talk) t
  heard_owes heard owed talk s t like r ie ue le is = record {
    keeps = heard_keeps heard talk s t like r (ie ∙ sym ue) le (subst AreApart (sym ie) r.keeps.agrees.apart);
    holds = record { others = r.holds.others ∙ ap messages (sym ie); among = tt };
    due_is = is;
    whole = r.whole;
  }

  -- a frame was handled that asks for nothing
  pub heard_ready : (heard : Heard) (talk : Talk) (s t : Session C) → AreAlike s t → Faces hears_so refuses said core terms heard talk s → t.kept ≡ s.kept
      → t.in_use.items ≡ s.in_use.items → uses_heard heard s.in_use.items ≡ s.in_use.items → t.login ≡ login_heard heard s.login → due_by heard talk.steps ≡ nothing
      → StandsThen hears_so refuses said core terms None (with_step (hears heard) talk) t
  heard_ready heard talk s t like f ke ie ue le is =
      let o = heard_owes heard nothing talk s t like f.ready ie ue le is in (
        record { keeps = o.keeps; holds = o.holds; nothing_due = o.due_is; whole = o.whole },
        subst (λ (kept : List ℕ). AreFrames hears_so talk.heard (heards_in talk.steps ++ heard ∷ []) kept) (sym ke) f.frames,
      )

-- ---- what a part of a session leaves as it was

module _ {C : Type 0} where
  pub itself : (s : Session C) → AreAlike s s
  itself s = record { core = refl; terms = refl; up = refl; now = refl; spoke = refl; found = λ yes. yes }

  -- a tag was taken
  pub tag_taken : (s t : Session C) → t ≡ record s { last_tag = t.last_tag } → AreAlike s t × (t.in_use.items ≡ s.in_use.items) × (t.login ≡ s.login) × (t.kept ≡ s.kept)
  tag_taken s t e = (
    record {
      core = ap (λ (x : Session C). x.core) e;
      terms = ap (λ (x : Session C). x.terms) e;
      up = ap (λ (x : Session C). x.up) e;
      now = ap (λ (x : Session C). x.latest) e;
      spoke = ap (λ (x : Session C). x.last_said) e;
      found = λ yes. sym (ap (λ (x : Session C). x.searched) e) ∙ yes;
    },
    ap (λ (x : Session C). x.in_use.items) e,
    ap (λ (x : Session C). x.login) e,
    ap (λ (x : Session C). x.kept) e,
  )

  -- messages were taken out of those with tags
  pub uses_taken : (s t : Session C) → t ≡ record s { in_use = t.in_use } → AreAlike s t × (t.login ≡ s.login) × (t.kept ≡ s.kept) × (t.phase ≡ s.phase)
  uses_taken s t e = (
    record {
      core = ap (λ (x : Session C). x.core) e;
      terms = ap (λ (x : Session C). x.terms) e;
      up = ap (λ (x : Session C). x.up) e;
      now = ap (λ (x : Session C). x.latest) e;
      spoke = ap (λ (x : Session C). x.last_said) e;
      found = λ yes. sym (ap (λ (x : Session C). x.searched) e) ∙ yes;
    },
    ap (λ (x : Session C). x.login) e,
    ap (λ (x : Session C). x.kept) e,
    ap (λ (x : Session C). x.phase) e,
  )

  -- octets were dropped in front of those that are kept
  pub front_dropped : (len : ℕ) (s t : Session C) → t ≡ record s { kept = drop len s.kept } → AreAlike s t × (t.in_use.items ≡ s.in_use.items) × (t.login ≡ s.login) × (t.kept ≡ drop len s.kept)
  front_dropped len s t e = (
    record {
      core = ap (λ (x : Session C). x.core) e;
      terms = ap (λ (x : Session C). x.terms) e;
      up = ap (λ (x : Session C). x.up) e;
      now = ap (λ (x : Session C). x.latest) e;
      spoke = ap (λ (x : Session C). x.last_said) e;
      found = λ yes. sym (ap (λ (x : Session C). x.searched) e) ∙ yes;
    },
    ap (λ (x : Session C). x.in_use.items) e,
    ap (λ (x : Session C). x.login) e,
    ap (λ (x : Session C). x.kept) e,
  )
