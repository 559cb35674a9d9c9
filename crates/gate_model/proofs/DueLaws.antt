-- The law of reports: what is awaited is what is open by the entries alone, and the jobs that are held are those that are due and left.
use Rattle.std.proofs.Common.{◌≡◌, refl, sym, ap, ◌∙◌, subst, ℕ, ◌+◌, ◌≤◌, ◌<◌, ◌==◌, Bool, true, false, not, cond, List, [], ◌∷◌, ◌++◌, length, map, filter, Option, Some, None, arith, append_assoc, ne_eqb, inl, inr, ⊎_elim}
use Rattle.std.specs.Prelude.{drop, fold, is_some, option_map, ◌&&◌, ◌||◌}
use Rattle.std.specs.List.{flat_map, list_any}
use Rattle.std.specs.Option.{option_or, option_and_then}
use Rattle.std.proofs.lemmas.Bool.{and_parts, cases_Bool, cases_lt}
use Rattle.std.proofs.lemmas.List.{append-nil, map-append}
use Rattle.std.proofs.lemmas.List.Elements.{filter-append}
use Rattle.sms_record.specs.declared.sms.Sms.{Sms}
use Rattle.dlr_table.specs.Reports.{oldest}
use Rattle.dlr_table.specs.declared.awaited.Awaited.{Awaited}
use Rattle.gate_entries.specs.Size.{parts_of}
use Rattle.gate_entries.specs.declared.recorded.Recorded.{Recorded}
use Rattle.gate_entries.specs.declared.recorded.Recorded.TheVariants as entry
use Rattle.gate_entries.specs.declared.reported.Reported.{Reported}
use Rattle.report_urls.specs.Report.{acked_report, rejected_report}
use Rattle.report_urls.specs.ReportUrl.{report_url}
use Rattle.gate_model.specs.declared.job.Job.{Job}
use Rattle.gate_model.specs.declared.waiting.Waiting.{Waiting}
use Rattle.gate_model.specs.Due.{messages_of, open_behind, open_after, due_from, is_end_of_job, urls_of, HaveReports}
use Rattle.gate_model.specs.Fates.{AreSound}
use Rattle.gate_model.specs.Fold.{recorded, does, after, moves, hears, closes, unleased, new_job, if_any, is_last, asked_by, called_url, url_in, sms_of}
use Rattle.gate_model.specs.Lawful.{suits}
use Rattle.gate_model.specs.Numbers.{Rise, is_held, value_under, without, numbered_from}
use Rattle.gate_model.specs.State.{State, IsInOrder, is_key}
use Rattle.gate_model.proofs.AwaitedLemmas.{same_lists, key_is}
use Rattle.gate_model.proofs.FatesLaws.{value_under-without_other, value_under-without, held-may_end, held_below}
use Rattle.gate_model.proofs.NumberLemmas.{by_number}
use Rattle.gate_model.proofs.OrderLemmas.{IsInOrder-does}
use Rattle.gate_model.proofs.WholeLemmas.{some_value}

-- ---- values under numbers

module _ {T : Type 0} where
  -- what stands in front is found first
  value_under-append : (number : ℕ) (pairs others : List (ℕ × T)) → value_under number (pairs ++ others) ≡ option_or (value_under number pairs) (value_under number others)
  value_under-append number [] others = refl
  value_under-append number (pair ∷ pairs) others =
      elim (pair.0 == number) as (λ b. cond b (Some pair.1) (value_under number (pairs ++ others)) ≡ option_or (cond b (Some pair.1) (value_under number pairs)) (value_under number others)) [
        | true ↦ refl
        | false ↦ value_under-append number pairs others
      ]

  -- numbers from one on
  value_under-below : (number first : ℕ) (values : List T) → number < first → value_under number (numbered_from first values) ≡ None
  value_under-below number first [] low = refl
  value_under-below number first (value ∷ values) low = rw (ne_eqb first number (λ e. omega arith)) (value_under-below number (first + 1) values (omega arith))

  value_under-above : (number first : ℕ) (values : List T) → first + length values ≤ number → value_under number (numbered_from first values) ≡ None
  value_under-above number first [] high = refl
  value_under-above number first (value ∷ values) high = rw (ne_eqb first number (λ e. omega arith)) (value_under-above number (first + 1) values (omega arith))

  value_under-past : (from below number : ℕ) (pairs : List (ℕ × T)) → Rise from below pairs → below ≤ number → value_under number pairs ≡ None
  value_under-past from below number [] rise high = refl
  value_under-past from below number (pair ∷ pairs) rise high = rw (ne_eqb pair.0 number (λ e. omega arith)) (value_under-past (pair.0 + 1) below number pairs rise.2 high)

  -- the values of two lists are numbered on
  numbered_from-append : (first : ℕ) (values others : List T) → numbered_from first (values ++ others) ≡ numbered_from first values ++ numbered_from (first + length values) others
  numbered_from-append first [] others = let same : first ≡ first + 0 = omega arith in ap (λ n. numbered_from n others) same
  numbered_from-append first (value ∷ values) others =
      let more : first + 1 + length values ≡ first + length (value ∷ values) = omega arith in
      ap (λ ps. (first, value) ∷ ps) (numbered_from-append (first + 1) values others ∙ ap (λ n. numbered_from (first + 1) values ++ numbered_from n others) more)

module _ {T U : Type 0} (f : T → U) where
  value_under-map : (number : ℕ) (pairs : List (ℕ × T)) → value_under number (map (λ pair. (pair.0, f pair.1)) pairs) ≡ option_map f (value_under number pairs)
  value_under-map number [] = refl
  value_under-map number (pair ∷ pairs) =
      elim (pair.0 == number) as (λ b. cond b (Some (f pair.1)) (value_under number (map (λ p. (p.0, f p.1)) pairs)) ≡ option_map f (cond b (Some pair.1) (value_under number pairs))) [
        | true ↦ refl
        | false ↦ value_under-map number pairs
      ]

  map-numbered_from : (first : ℕ) (values : List T) → map (λ pair. (pair.0, f pair.1)) (numbered_from first values) ≡ numbered_from first (map f values)
  map-numbered_from first [] = refl
  map-numbered_from first (value ∷ values) = ap (λ ps. (first, f value) ∷ ps) (map-numbered_from (first + 1) values)

-- ---- the messages that entries speak of

-- a message that was just accepted is itself
accepted_sms : (number first : ℕ) (parts : List Sms) → option_map (λ waiting. waiting.sms) (value_under number (numbered_from first (map unleased parts))) ≡ value_under number (numbered_from first parts)
accepted_sms number first [] = refl
accepted_sms number first (part ∷ parts) =
    elim (first == number) as (λ b. option_map (λ waiting. waiting.sms) (cond b (Some (unleased part)) (value_under number (numbered_from (first + 1) (map unleased parts)))) ≡ cond b (Some part) (value_under number (numbered_from (first + 1) parts))) [
      | true ↦ refl
      | false ↦ accepted_sms number (first + 1) parts
    ]

-- it has a number from the first on
given_past : (number first : ℕ) (parts : List Sms) → is_some (value_under number (numbered_from first (map unleased parts))) ≡ true → first ≤ number
given_past number first parts is =
    ⊎_elim (λ low. absurd (none_there (value_under-below number first (map unleased parts) low))) (λ high. high) (cases_lt number first)
  where
    none_there : value_under number (numbered_from first (map unleased parts)) ≡ None → ⊥
    none_there none = let e : false ≡ true = sym (ap is_some none) ∙ is in cc

-- What is known of the messages of a history in a state: those before it, and behind them those that are still to come, by their numbers.
record Knows (messages : List (ℕ × Sms)) (state : State) (history : List Recorded) : Type 0 where
  front : List (ℕ × Sms)
  split : messages ≡ front ++ numbered_from (state.last_message + 1) (flat_map parts_of history)
  below : (number : ℕ) → state.last_message < number → value_under number front ≡ None
  same : (number : ℕ) → is_held number state.waiting ≡ true → value_under number front ≡ sms_of number state

-- the message of a number that waits is that of the history
known : (messages : List (ℕ × Sms)) (state : State) (history : List Recorded) (number : ℕ) → Knows messages state history → is_held number state.waiting ≡ true
    → sms_of number state ≡ value_under number messages
known messages state history number knows held =
    let waiting = some_value (value_under number state.waiting) held in
    let is : sms_of number state ≡ Some waiting.0.sms = ap (option_map (λ w. w.sms)) waiting.1 in
    let later = numbered_from (state.last_message + 1) (flat_map parts_of history) in
    is
    ∙ sym (ap (value_under number) knows.split ∙ value_under-append number knows.front later
    ∙ ap (λ o. option_or o (value_under number later)) (knows.same number held ∙ is))

-- all of them are, at the start
knows_at_start : (start : State) (history : List Recorded) → IsInOrder start → Knows (messages_of start history) start history
knows_at_start start history order = record {
  front = map (λ pair. (pair.0, pair.1.sms)) start.waiting;
  split = refl;
  below = λ number high.
      value_under-map (λ (w : Waiting). w.sms) number start.waiting
      ∙ ap (option_map (λ w. w.sms)) (value_under-past 1 (start.last_message + 1) number start.waiting order.waiting (omega arith));
  same = λ number held. value_under-map (λ (w : Waiting). w.sms) number start.waiting;
}

-- an entry that hands in no message, and behind which none waits that didn't before
knows_still : (messages : List (ℕ × Sms)) (old new : State) (kept : Recorded) (history : List Recorded) → parts_of kept ≡ [] → new.last_message ≡ old.last_message
    → ((number : ℕ) → is_held number new.waiting ≡ true → value_under number new.waiting ≡ value_under number old.waiting)
    → Knows messages old (kept ∷ history) → Knows messages new history
knows_still messages old new kept history none last fewer knows = record {
  front = knows.front;
  split =
      knows.split ∙ ap (λ parts. knows.front ++ numbered_from (old.last_message + 1) (parts ++ flat_map parts_of history)) none
      ∙ ap (λ n. knows.front ++ numbered_from (n + 1) (flat_map parts_of history)) (sym last);
  below = λ number high. knows.below number (subst (λ n. n < number) last high);
  same = λ number held.
      let there = fewer number held in
      knows.same number (ap is_some (sym there) ∙ held) ∙ ap (option_map (λ w. w.sms)) (sym there);
}

-- one that hands in messages
knows_more : (messages : List (ℕ × Sms)) (old new : State) (parts : List Sms) (history : List Recorded)
    → new.waiting ≡ old.waiting ++ numbered_from (old.last_message + 1) (map unleased parts) → new.last_message ≡ old.last_message + length parts
    → (front : List (ℕ × Sms)) → messages ≡ front ++ numbered_from (old.last_message + 1) (parts ++ flat_map parts_of history)
    → ((number : ℕ) → old.last_message < number → value_under number front ≡ None)
    → ((number : ℕ) → is_held number old.waiting ≡ true → value_under number front ≡ sms_of number old)
    → Knows messages new history
knows_more messages old new parts history waiting last front split below same =
    let first = old.last_message + 1 in
    let own = numbered_from first parts in
    let given = numbered_from first (map unleased parts) in
    let later : first + length parts ≡ new.last_message + 1 = omega (arith, last) in
    record {
      front = front ++ own;
      split =
          split ∙ ap (λ ps. front ++ ps) (numbered_from-append first parts (flat_map parts_of history))
          ∙ sym (append_assoc front own (numbered_from (first + length parts) (flat_map parts_of history)))
          ∙ ap (λ n. (front ++ own) ++ numbered_from n (flat_map parts_of history)) later;
      below = λ number high.
          value_under-append number front own ∙ ap (λ o. option_or o (value_under number own)) (below number (omega (arith, last)))
          ∙ value_under-above number first parts (omega (arith, last));
      same = λ number held.
          let there : value_under number new.waiting ≡ option_or (value_under number old.waiting) (value_under number given) =
          ap (value_under number) waiting ∙ value_under-append number old.waiting given in
          let sms : sms_of number new ≡ option_map (λ w. w.sms) (option_or (value_under number old.waiting) (value_under number given)) = ap (option_map (λ w. w.sms)) there in
          value_under-append number front own
          ∙ by_held number (value_under number old.waiting) refl (ap is_some (sym there) ∙ held)
          ∙ sym sms;
    }
  where
    by_held : (number : ℕ) (o : Option Waiting) → value_under number old.waiting ≡ o
        → is_some (option_or (value_under number old.waiting) (value_under number (numbered_from (old.last_message + 1) (map unleased parts)))) ≡ true
        → option_or (value_under number front) (value_under number (numbered_from (old.last_message + 1) parts))
        ≡ option_map (λ w. w.sms) (option_or (value_under number old.waiting) (value_under number (numbered_from (old.last_message + 1) (map unleased parts))))
    by_held number (Some w) is held =
        let own = value_under number (numbered_from (old.last_message + 1) parts) in
        let given = value_under number (numbered_from (old.last_message + 1) (map unleased parts)) in
        let its : value_under number front ≡ Some w.sms = same number (ap is_some is) ∙ ap (option_map (λ x. x.sms)) is in
        ap (λ o. option_or o own) its ∙ sym (ap (λ o. option_map (λ x. x.sms) (option_or o given)) is)
    by_held number None is held =
        let own = value_under number (numbered_from (old.last_message + 1) parts) in
        let given = value_under number (numbered_from (old.last_message + 1) (map unleased parts)) in
        let there : is_some given ≡ true = ap (λ o. is_some (option_or o given)) (sym is) ∙ held in
        let high = given_past number (old.last_message + 1) parts there in
        ap (λ o. option_or o own) (below number (omega (arith, high)))
        ∙ sym (accepted_sms number (old.last_message + 1) parts)
        ∙ sym (ap (λ o. option_map (λ x. x.sms) (option_or o given)) is)

-- ---- one entry

-- a message that ends no longer waits
fewer_wait : (number : ℕ) (waiting : List (ℕ × Waiting)) → (other : ℕ) → is_held other (without number waiting) ≡ true → value_under other (without number waiting) ≡ value_under other waiting
fewer_wait number waiting other held =
    by_number (λ b. value_under other (without number waiting) ≡ value_under other waiting) number other
    (λ e. absurd (let gone : is_held other (without number waiting) ≡ false = ap is_some (subst (λ n. value_under other (without n waiting) ≡ None) (sym e) (value_under-without other waiting)) in let x : true ≡ false = sym held ∙ gone in cc))
    (λ ne. value_under-without_other number other waiting ne)

hears-same : (reported : Reported) (found : Option Awaited) (state : State)
    → ((hears reported found state).waiting ≡ state.waiting) × ((hears reported found state).last_message ≡ state.last_message)
    × ((hears reported found state).jobs ≡ state.jobs) × ((hears reported found state).last_job ≡ state.last_job)
hears-same reported None state = (refl, refl, refl, refl)
hears-same reported (Some awaited) state =
    elim (is_last reported.kind) as (λ b. ((cond b (closes reported.smsc reported.foreign state) state).waiting ≡ state.waiting)
    × ((cond b (closes reported.smsc reported.foreign state) state).last_message ≡ state.last_message)
    × ((cond b (closes reported.smsc reported.foreign state) state).jobs ≡ state.jobs)
    × ((cond b (closes reported.smsc reported.foreign state) state).last_job ≡ state.last_job)) [
      | true ↦ (refl, refl, refl, refl)
      | false ↦ (refl, refl, refl, refl)
    ]

module _ (birth : ℕ) (messages : List (ℕ × Sms)) (state : State) (history : List Recorded) where
  -- what is known behind an entry
  knows_next : (kept : Recorded) → Knows messages state (kept ∷ history) → Knows messages (does birth state (recorded kept)) history
  knows_next (entry.Accept accept) knows = knows_more messages state _ accept.parts history refl refl knows.front knows.split knows.below knows.same
  knows_next (entry.Acked acked) knows = knows_still messages state _ (entry.Acked acked) history refl refl (fewer_wait acked.message state.waiting) knows
  knows_next (entry.Rejected rejected) knows = knows_still messages state _ (entry.Rejected rejected) history refl refl (fewer_wait rejected.message state.waiting) knows
  knows_next (entry.Reported reported) knows =
      let same = hears-same reported (oldest (state.awaited reported.smsc reported.foreign)) state in
      knows_still messages state _ (entry.Reported reported) history refl same.1 (λ number held. ap (value_under number) same.0) knows
  knows_next (entry.Answered answered) knows = knows_more messages state _ answered.parts history refl refl knows.front knows.split knows.below knows.same
  knows_next other knows = knows_still messages state _ other history refl refl (λ number held. refl) knows

  -- the URL that an entry calls
  url_known : (kept : Recorded) → suits state kept ≡ true → Knows messages state (kept ∷ history)
      → url_in birth state kept ≡ called_url birth (λ message. value_under message messages) state.awaited kept
  url_known (entry.Acked acked) suited knows =
      ap (option_and_then (report_url birth (acked_report acked) acked.message)) (known messages state (entry.Acked acked ∷ history) acked.message knows (and_parts _ _ suited).0)
  url_known (entry.Rejected rejected) suited knows =
      ap (option_and_then (report_url birth (rejected_report rejected) rejected.message))
      (known messages state (entry.Rejected rejected ∷ history) rejected.message knows (held-may_end state rejected.message rejected.time rejected.cause (and_parts _ _ suited).0))
  url_known other suited knows = refl

  heard : (smsc foreign : List ℕ) (reported : Reported) (found : Option Awaited) → found ≡ oldest (state.awaited reported.smsc reported.foreign)
      → (hears reported found state).awaited smsc foreign ≡ open_behind messages smsc foreign (state.awaited smsc foreign) (entry.Reported reported)
  heard smsc foreign reported None none =
      elim (cases_Bool (is_key reported.smsc reported.foreign smsc foreign)) [
        | inl is ↦
            let key = key_is reported.smsc reported.foreign smsc foreign is in
            let empty : state.awaited smsc foreign ≡ [] = ap (λ s. state.awaited s foreign) key.0 ∙ ap (state.awaited reported.smsc) key.1 ∙ none_oldest _ (sym none) in
            subst (λ (list : List Awaited). list ≡ cond (is_key reported.smsc reported.foreign smsc foreign && is_last reported.kind) (drop 1 list) list) (sym empty)
            (by_both (is_key reported.smsc reported.foreign smsc foreign && is_last reported.kind))
        | inr differs ↦
            subst (λ b. state.awaited smsc foreign ≡ cond (b && is_last reported.kind) (drop 1 (state.awaited smsc foreign)) (state.awaited smsc foreign)) (sym differs) refl
      ]
    where
      none_oldest : (list : List Awaited) → oldest list ≡ None → list ≡ []
      none_oldest [] e = refl
      none_oldest (x ∷ xs) e = absurd cc

      by_both : (b : Bool) → ◌≡◌ {A = List Awaited} [] (cond b [] [])
      by_both true = refl
      by_both false = refl
  heard smsc foreign reported (Some awaited) some =
      elim (is_last reported.kind) as (λ b. (cond b (closes reported.smsc reported.foreign state) state).awaited smsc foreign
      ≡ cond (is_key reported.smsc reported.foreign smsc foreign && b) (drop 1 (state.awaited smsc foreign)) (state.awaited smsc foreign)) [
        | true ↦
            elim (cases_Bool (is_key reported.smsc reported.foreign smsc foreign)) [
              | inl is ↦
                  let key = key_is reported.smsc reported.foreign smsc foreign is in
                  let same : state.awaited reported.smsc reported.foreign ≡ state.awaited smsc foreign =
                  sym (ap (λ s. state.awaited s foreign) key.0 ∙ ap (state.awaited reported.smsc) key.1) in
                  subst (λ b. cond b (drop 1 (state.awaited reported.smsc reported.foreign)) (state.awaited smsc foreign)
                  ≡ cond (b && true) (drop 1 (state.awaited smsc foreign)) (state.awaited smsc foreign)) (sym is) (ap (drop 1) same)
              | inr differs ↦
                  subst (λ b. cond b (drop 1 (state.awaited reported.smsc reported.foreign)) (state.awaited smsc foreign)
                  ≡ cond (b && true) (drop 1 (state.awaited smsc foreign)) (state.awaited smsc foreign)) (sym differs) refl
            ]
        | false ↦
            elim (is_key reported.smsc reported.foreign smsc foreign) as (λ b. state.awaited smsc foreign ≡ cond (b && false) (drop 1 (state.awaited smsc foreign)) (state.awaited smsc foreign)) [
              | true ↦ refl
              | false ↦ refl
            ]
      ]

  -- what is awaited under a key
  open_next : (smsc foreign : List ℕ) (kept : Recorded) → suits state kept ≡ true → Knows messages state (kept ∷ history)
      → (does birth state (recorded kept)).awaited smsc foreign ≡ open_behind messages smsc foreign (state.awaited smsc foreign) kept
  open_next smsc foreign (entry.Acked acked) suited knows =
      let sms = known messages state (entry.Acked acked ∷ history) acked.message knows (and_parts _ _ suited).0 in
      elim (cases_Bool (is_key acked.smsc acked.foreign smsc foreign)) [
        | inl is ↦
            let key = key_is acked.smsc acked.foreign smsc foreign is in
            let same : state.awaited acked.smsc acked.foreign ≡ state.awaited smsc foreign =
            sym (ap (λ s. state.awaited s foreign) key.0 ∙ ap (state.awaited acked.smsc) key.1) in
            subst (λ b. cond b (state.awaited acked.smsc acked.foreign ++ asked_by acked (sms_of acked.message state)) (state.awaited smsc foreign)
            ≡ cond b (state.awaited smsc foreign ++ asked_by acked (value_under acked.message messages)) (state.awaited smsc foreign)) (sym is)
            (ap (λ list. list ++ asked_by acked (sms_of acked.message state)) same ∙ ap (λ s. state.awaited smsc foreign ++ asked_by acked s) sms)
        | inr differs ↦
            subst (λ b. cond b (state.awaited acked.smsc acked.foreign ++ asked_by acked (sms_of acked.message state)) (state.awaited smsc foreign)
            ≡ cond b (state.awaited smsc foreign ++ asked_by acked (value_under acked.message messages)) (state.awaited smsc foreign)) (sym differs) refl
      ]
  open_next smsc foreign (entry.Reported reported) suited knows = heard smsc foreign reported (oldest (state.awaited reported.smsc reported.foreign)) refl
  open_next smsc foreign other suited knows = refl

  lists_next : (kept : Recorded) → suits state kept ≡ true → Knows messages state (kept ∷ history)
      → (does birth state (recorded kept)).awaited ≡ open_after messages state.awaited (kept ∷ [])
  lists_next kept suited knows = same_lists _ _ (λ smsc foreign. open_next smsc foreign kept suited knows)

-- ---- open reports

open_all : (birth : ℕ) (messages : List (ℕ × Sms)) (state : State) (history : List Recorded) → AreSound birth state (map recorded history) → Knows messages state history
    → (smsc foreign : List ℕ) → (after birth state (map recorded history)).awaited smsc foreign ≡ open_after messages state.awaited history smsc foreign
open_all birth messages state [] sound knows smsc foreign = refl
open_all birth messages state (kept ∷ history) sound knows smsc foreign =
    open_all birth messages (does birth state (recorded kept)) history sound.1 (knows_next birth messages state history kept knows) smsc foreign
    ∙ ap (λ list. fold (open_behind messages smsc foreign) list history) (open_next birth messages state history smsc foreign kept sound.0.1 knows)

-- ---- jobs

abbrev url_of : ℕ × Job → ℕ × List ℕ
url_of pair = (pair.0, pair.1.url)

urls_new : (urls : Option (List ℕ)) → map (λ (job : Job). job.url) (map new_job (if_any urls)) ≡ if_any urls
urls_new None = refl
urls_new (Some url) = refl

module _ (number : ℕ) (gone : ℕ → Bool) where
  -- a job that is done with is left out
  left_without : (jobs : List (ℕ × Job)) → filter (λ job. not (gone job.0)) (map url_of (without number jobs)) ≡ filter (λ job. not (job.0 == number || gone job.0)) (map url_of jobs)
  left_without [] = refl
  left_without (pair ∷ jobs) =
      let rest = left_without jobs in
      elim (pair.0 == number) as (λ b. filter (λ job. not (gone job.0)) (map url_of (cond (not b) (pair ∷ without number jobs) (without number jobs)))
      ≡ cond (not (b || gone pair.0)) (url_of pair ∷ filter (λ job. not (job.0 == number || gone job.0)) (map url_of jobs)) (filter (λ job. not (job.0 == number || gone job.0)) (map url_of jobs))) [
        | true ↦ rest
        | false ↦ ap (λ ps. cond (not (gone pair.0)) (url_of pair ∷ ps) ps) rest
      ]

  -- and none of those that come later
  left_later : (first : ℕ) (urls : List (List ℕ)) → number < first → filter (λ job. not (gone job.0)) (numbered_from first urls) ≡ filter (λ job. not (job.0 == number || gone job.0)) (numbered_from first urls)
  left_later first [] low = refl
  left_later first (url ∷ urls) low =
      let rest = left_later (first + 1) urls (omega arith) in
      rw (ne_eqb first number (λ e. omega arith)) (ap (λ ps. cond (not (gone first)) ((first, url) ∷ ps) ps) rest)

-- an entry says of a job that it is done with, or of none
abbrev gone_by : List Recorded → ℕ → Bool
gone_by history job = list_any (is_end_of_job job) history

-- the jobs that are left of some behind entries
abbrev left_of : List Recorded → List (ℕ × List ℕ) → List (ℕ × List ℕ)
left_of history jobs = filter (λ job. not (list_any (is_end_of_job job.0) history)) jobs

filter_all : {T : Type 0} (items : List T) → filter (λ item. not false) items ≡ items
filter_all [] = refl
filter_all (item ∷ items) = ap (λ xs. item ∷ xs) (filter_all items)

-- the jobs behind a URL that is called, and the URLs that are due later
calls_urls : (jobs : List (ℕ × Job)) (last : ℕ) (url : Option (List ℕ)) (later : List (List ℕ))
    → map url_of (jobs ++ numbered_from (last + 1) (map new_job (if_any url))) ++ numbered_from (last + length (if_any url) + 1) later
    ≡ map url_of jobs ++ numbered_from (last + 1) (if_any url ++ later)
calls_urls jobs last url later =
    let first = last + 1 in
    let more : last + length (if_any url) + 1 ≡ first + length (if_any url) = omega arith in
    ap (λ ps. ps ++ numbered_from (last + length (if_any url) + 1) later)
    (map-append url_of jobs (numbered_from first (map new_job (if_any url)))
    ∙ ap (λ ps. map url_of jobs ++ ps) (map-numbered_from (λ (job : Job). job.url) first (map new_job (if_any url)) ∙ ap (numbered_from first) (urls_new url)))
    ∙ append_assoc (map url_of jobs) (numbered_from first (if_any url)) (numbered_from (last + length (if_any url) + 1) later)
    ∙ ap (λ n. map url_of jobs ++ (numbered_from first (if_any url) ++ numbered_from n later)) more
    ∙ ap (λ ps. map url_of jobs ++ ps) (sym (numbered_from-append first (if_any url) later))

-- what is left behind an entry that ends a job
left_ended : (number last : ℕ) (history : List Recorded) (jobs : List (ℕ × Job)) (later : List (List ℕ)) → number < last + 1
    → left_of history (map url_of (without number jobs ++ []) ++ numbered_from (last + 0 + 1) later)
    ≡ filter (λ job. not (job.0 == number || list_any (is_end_of_job job.0) history)) (map url_of jobs ++ numbered_from (last + 1) later)
left_ended number last history jobs later low =
    let gone = gone_by history in
    ap (left_of history) (calls_urls (without number jobs) last None later)
    ∙ filter-append (λ job. not (gone job.0)) (map url_of (without number jobs)) (numbered_from (last + 1) later)
    ∙ ap (λ ps. ps ++ filter (λ job. not (gone job.0)) (numbered_from (last + 1) later)) (left_without number gone jobs)
    ∙ ap (λ ps. filter (λ job. not (job.0 == number || gone job.0)) (map url_of jobs) ++ ps) (left_later number gone (last + 1) later low)
    ∙ sym (filter-append (λ job. not (job.0 == number || gone job.0)) (map url_of jobs) (numbered_from (last + 1) later))

module _ (birth : ℕ) (state : State) (history : List Recorded) (later : List (List ℕ)) where
  -- the jobs that are left behind one entry and others are those that are left behind all of them
  jobs_next : (kept : Recorded) → IsInOrder state → suits state kept ≡ true
      → left_of history (urls_of (does birth state (recorded kept)) ++ numbered_from ((does birth state (recorded kept)).last_job + 1) later)
      ≡ left_of (kept ∷ history) (urls_of state ++ numbered_from (state.last_job + 1) (if_any (url_in birth state kept) ++ later))
  jobs_next (entry.Acked acked) order suited = ap (left_of history) (calls_urls state.jobs state.last_job (url_in birth state (entry.Acked acked)) later)
  jobs_next (entry.Rejected rejected) order suited = ap (left_of history) (calls_urls state.jobs state.last_job (url_in birth state (entry.Rejected rejected)) later)
  jobs_next (entry.Reported reported) order suited =
      let url = url_in birth state (entry.Reported reported) in
      let same = hears-same reported (oldest (state.awaited reported.smsc reported.foreign)) state in
      ap (λ jobs. left_of history (map url_of (jobs ++ numbered_from ((moves (entry.Reported reported) state).last_job + 1) (map new_job (if_any url)))
      ++ numbered_from ((moves (entry.Reported reported) state).last_job + length (if_any url) + 1) later)) same.2
      ∙ ap (λ last. left_of history (map url_of (state.jobs ++ numbered_from (last + 1) (map new_job (if_any url))) ++ numbered_from (last + length (if_any url) + 1) later)) same.3
      ∙ ap (left_of history) (calls_urls state.jobs state.last_job url later)
  jobs_next (entry.Accept accept) order suited = ap (left_of history) (calls_urls state.jobs state.last_job None later)
  jobs_next (entry.Arrived arrived) order suited = ap (left_of history) (calls_urls state.jobs state.last_job None later)
  jobs_next (entry.Answered answered) order suited = ap (left_of history) (calls_urls state.jobs state.last_job None later)
  jobs_next other order suited =
      left_ended _ state.last_job history state.jobs later (held_below 1 (state.last_job + 1) _ state.jobs order.jobs suited)

jobs_all : (birth : ℕ) (messages : List (ℕ × Sms)) (state : State) (history : List Recorded) → IsInOrder state → AreSound birth state (map recorded history)
    → Knows messages state history
    → urls_of (after birth state (map recorded history)) ≡ left_of history (urls_of state ++ numbered_from (state.last_job + 1) (due_from birth messages state.awaited history))
jobs_all birth messages state [] order sound knows = sym (filter_all (urls_of state ++ []) ∙ append-nil (urls_of state))
jobs_all birth messages state (kept ∷ history) order sound knows =
    let next = does birth state (recorded kept) in
    let later = due_from birth messages (open_after messages state.awaited (kept ∷ [])) history in
    jobs_all birth messages next history (IsInOrder-does birth state (recorded kept) order) sound.1 (knows_next birth messages state history kept knows)
    ∙ ap (λ lists. left_of history (urls_of next ++ numbered_from (next.last_job + 1) (due_from birth messages lists history))) (lists_next birth messages state history kept sound.0.1 knows)
    ∙ jobs_next birth state history later kept order sound.0.1
    ∙ ap (λ url. left_of (kept ∷ history) (urls_of state ++ numbered_from (state.last_job + 1) (if_any url ++ later))) (url_known birth messages state history kept sound.0.1 knows)

-- the law of reports, of sound entries
pub have_reports : (birth : ℕ) (start : State) (history : List Recorded) → IsInOrder start → AreSound birth start (map recorded history)
    → HaveReports birth start history (after birth start (map recorded history))
have_reports birth start history order sound =
    let knows = knows_at_start start history order in
    record {
      awaited = open_all birth (messages_of start history) start history sound knows;
      jobs = jobs_all birth (messages_of start history) start history order sound knows;
    }
