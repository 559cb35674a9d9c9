-- What stands at each moment of a session over HTTP.
use Rattle.std.proofs.Common.{◌≡◌, inl, ⊎_elim, ℕ, Bool, false, List, [], ◌∷◌, ◌++◌, All, None, refl, ap, sym, ◌∙◌, append_assoc, subst}
use Rattle.std.proofs.lemmas.List.{append-nil}
use Rattle.std.proofs.lemmas.List.Elements.{All-append, All-cons, All-head, All-nil, All-tail}
use Rattle.config_groups.specs.declared.settings.Settings.{Settings}
use Rattle.gate_entries.specs.declared.recorded.Recorded.{Recorded}
use Rattle.gate_model.specs.Acceptor.{Deed}
use Rattle.gate_store.specs.Deeds.{Leads, done_of}
use Rattle.gate_store.specs.Store.{IsStore}
use Rattle.gate_store.specs.declared.store.Store.{Store}
use Rattle.gate_store.proofs.Commits.{gained}
use Rattle.gate_store.proofs.Standing.{stands_now}
use Rattle.sendsms_http.specs.Events.{Event, Spoke, Read, Handed, pieces_of, deeds_of, IsMoment, AnswersNext, AreMoments}
use Rattle.sendsms_http.specs.Exchange.{Exchange, IsExchange, IsKept, deeds_in, said_in, text_of}
use Rattle.kn_base.specs.Talk.{said_of}
use Rattle.store_disk.specs.Meaning.{Meaning}
use Rattle.boxes_main.specs.Moment.{AreStored, SaysStored, accepts_in, accepts_of}
use Rattle.boxes_main.proofs.Answered.{done_of-append, exchange_done, talk_done}

-- ---- what was said

-- exchanges behind which a connection was kept
all_kept : (settings : Settings) (kept : List Exchange) → All (IsKept settings) kept → All (λ exchange. (ended : Bool) × IsExchange settings ended exchange) kept
all_kept settings [] each = All-nil (λ exchange. (ended : Bool) × IsExchange settings ended exchange)
all_kept settings (exchange ∷ kept) each =
    All-cons (λ exchange. (ended : Bool) × IsExchange settings ended exchange) exchange kept (false, inl (All-head (IsKept settings) exchange kept each).0)
    (all_kept settings kept (All-tail (IsKept settings) exchange kept each))

all_more : {A : Type 0} (P : A → Type 0) (xs : List A) (x : A) → All P xs → P x → All P (xs ++ x ∷ [])
all_more P xs x each one = All-append P xs (x ∷ []) each (All-cons P x [] one (All-nil P))

said_more : (kept : List Exchange) (exchange : Exchange) → said_in (kept ++ exchange ∷ []) ≡ said_in kept ++ text_of exchange
said_more [] exchange = append-nil (text_of exchange)
said_more (first ∷ kept) exchange = ap (λ x. text_of first ++ x) (said_more kept exchange) ∙ sym (append_assoc (text_of first) (said_in kept) (text_of exchange))

accepts_more : (kept : List Exchange) (exchange : Exchange) → accepts_in (kept ++ exchange ∷ []) ≡ accepts_in kept ++ accepts_of exchange
accepts_more [] exchange = append-nil (accepts_of exchange)
accepts_more (first ∷ kept) exchange =
    ap (λ x. accepts_of first ++ x) (accepts_more kept exchange) ∙ sym (append_assoc (accepts_of first) (accepts_in kept) (accepts_of exchange))

module _ (settings : Settings) (heard said : List ℕ) (deeds : List Deed) (m : IsMoment settings heard said deeds) where
  -- what was done by then: for the requests that were answered whole, and for the next
  done_then : done_of deeds ≡ accepts_in m.kept ++ done_of m.handed_last
  done_then =
      ap done_of m.handed_in ∙ done_of-append (deeds_in m.kept) m.handed_last
      ∙ ap (λ es. es ++ done_of m.handed_last) (talk_done settings false m.kept None m.kept_each tt)

  says_none : m.said_last ≡ [] → SaysStored settings said (done_of deeds)
  says_none none = record {
    answered = m.kept;
    each = all_kept settings m.kept m.kept_each;
    unsaid = [];
    says = sym (append-nil said ∙ m.says ∙ ap (λ x. said_in m.kept ++ x) none ∙ append-nil (said_in m.kept));
    unanswered = done_of m.handed_last;
    stored = done_then;
  }

  says_next : AnswersNext settings m.left m.handed_last m.said_last → SaysStored settings said (done_of deeds)
  says_next next = record {
    answered = m.kept ++ next.exchange ∷ [];
    each = all_more (λ exchange. (ended : Bool) × IsExchange settings ended exchange) m.kept next.exchange (all_kept settings m.kept m.kept_each) (next.ended, next.is);
    unsaid = next.gone;
    says = said_more m.kept next.exchange ∙ ap (λ x. said_in m.kept ++ x) next.says ∙ sym (append_assoc (said_in m.kept) m.said_last next.gone)
        ∙ ap (λ x. x ++ next.gone) (sym m.says);
    unanswered = [];
    stored = done_then ∙ ap (λ es. accepts_in m.kept ++ es) (ap done_of next.handed_in ∙ exchange_done settings next.ended next.exchange next.is)
        ∙ sym (accepts_more m.kept next.exchange) ∙ sym (append-nil (accepts_in (m.kept ++ next.exchange ∷ [])));
  }

  says_stored : SaysStored settings said (done_of deeds)
  says_stored = ⊎_elim says_none says_next m.next

-- ---- the store between

deeds_append : (before after : List Event) → deeds_of (before ++ after) ≡ deeds_of before ++ deeds_of after
deeds_append [] after = refl
deeds_append (Spoke piece ∷ before) after = deeds_append before after
deeds_append (Read time ∷ before) after = deeds_append before after
deeds_append (Handed deed ∷ before) after = ap (λ ds. deed ∷ ds) (deeds_append before after)

module _ {D : Type 0} (meaning : Meaning D) where
  -- the store that the first deeds led to
  split_leads : (first rest : List Deed) (a c : Store D) → Leads meaning a (first ++ rest) c → (b : Store D) × Leads meaning a first b × Leads meaning b rest c
  split_leads [] rest a c led = (a, refl, led)
  split_leads (deed ∷ first) rest a c led = let more = split_leads first rest led.0 c led.2 in (more.0, (led.0, led.1, more.1), more.2)

  pub moments_by : (settings : Settings) (birth : ℕ) (entries : List Recorded) (opened closed : Store D) (events : List Event)
      → IsStore meaning opened birth entries → Leads meaning opened (deeds_of events) closed → AreMoments settings events
      → AreStored meaning settings birth entries opened closed events
  moments_by settings birth entries opened closed events holds led moments = λ before after split.
      let parts = split_leads (deeds_of before) (deeds_of after) opened closed
      (subst (λ (ds : List Deed). Leads meaning opened ds closed) (ap deeds_of split ∙ deeds_append before after) led) in
      record {
        between = parts.0;
        led = parts.1;
        leads_on = parts.2;
        stands = stands_now meaning parts.0 birth (entries ++ done_of (deeds_of before)) (gained meaning opened parts.0 (deeds_of before) parts.1 birth entries holds);
        says = says_stored settings _ (said_of (pieces_of before)) (deeds_of before) (moments before after split);
      }
