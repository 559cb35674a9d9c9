-- The messages of which reports are awaited, as lists under keys.
use Rattle.std.proofs.Common.{◌≡◌, ◌≢◌, refl, sym, ap, ◌∙◌, subst, ℕ, ◌+◌, ◌-◌, Bool, true, false, cond, List, [], ◌∷◌, ◌++◌, length, Option, None, Some, Result, Ok, Err, arith, add-zero, inl, inr}
use Rattle.std.specs.Prelude.{drop, replicate, IsTrue, IsOk, IsSome, IfSome, OnOk}
use Rattle.std.specs.Option.{option_map_or}
use Rattle.std.proofs.lemmas.Bool.{cases_Bool, and_parts}
use Rattle.std.proofs.lemmas.List.{append-nil}
use Rattle.std.proofs.lemmas.Slice.Eq.{bytes_eq-Decides}
use Rattle.dlr_table.specs.declared.awaited.Awaited.{Awaited}
use Rattle.dlr_table.specs.declared.reports.Reports.{Reports}
use Rattle.dlr_table.specs.Reports.{under, count_of, SameLists}
use Rattle.gate_entries.specs.declared.reported.Reported.{Reported}
use Rattle.gate_entries.specs.declared.acked.Acked.{Acked}
use Rattle.sms_record.specs.declared.sms.Sms.{Sms}
use Rattle.gate_model.specs.declared.arrival.Arrival.{Arrival}
use Rattle.gate_model.specs.declared.job.Job.{Job}
use Rattle.gate_model.specs.declared.waiting.Waiting.{Waiting}
use Rattle.gate_model.specs.Fold.{asked_by, awaited_as, awaits, closes, is_awaited, sms_of}
use Rattle.gate_model.specs.Gate.{is_awaited_in, Becomes, KeepsAll}
use Rattle.gate_model.specs.declared.gate.Gate.{Gate}
use Rattle.gate_model.specs.State.{State, Lists, is_key, with_list, empty}

-- lists that are the same under each key are the same
pub same_lists : (a b : Lists) → ((smsc foreign : List ℕ) → a smsc foreign ≡ b smsc foreign) → a ≡ b
same_lists a b same = λ i smsc foreign. same smsc foreign i

module _ (smsc foreign : List ℕ) where
  -- a key is these two ids, or another
  pub key_is : (s f : List ℕ) → is_key smsc foreign s f ≡ true → (s ≡ smsc) × (f ≡ foreign)
  key_is s f is = let both = and_parts _ _ is in ((bytes_eq-Decides s smsc).0 both.0, (bytes_eq-Decides f foreign).0 both.1)

  key_differs : (s f : List ℕ) → is_key smsc foreign s f ≡ false → ◌≢◌ {A = List ℕ × List ℕ} (s, f) (smsc, foreign)
  key_differs s f differs same =
      let first = (bytes_eq-Decides s smsc).1 (ap (λ key. key.0) same) in
      let second = (bytes_eq-Decides f foreign).1 (ap (λ key. key.1) same) in
      let is : is_key smsc foreign s f ≡ true = rw (first, second) refl in
      let contrary : true ≡ false = sym is ∙ differs in cc

  -- lists of which one is another, and the others are as they were
  pub lists_changed : (old new : Lists) (list : List Awaited) → new smsc foreign ≡ list
      → ((key : List ℕ × List ℕ) → key ≢ (smsc, foreign) → new key.0 key.1 ≡ old key.0 key.1) → new ≡ with_list smsc foreign list old
  lists_changed old new list here elsewhere = same_lists new (with_list smsc foreign list old)
      (λ s f. elim (cases_Bool (is_key smsc foreign s f)) [
        | inl is ↦
            let same = key_is s f is in
            ap (λ x. new x f) same.0 ∙ ap (new smsc) same.1 ∙ here ∙ sym (ap (λ b. cond b list (old s f)) is)
        | inr differs ↦ elsewhere (s, f) (key_differs s f differs) ∙ sym (ap (λ b. cond b list (old s f)) differs)
      ])

  -- where nothing comes to a list, none changes
  pub with_same_list : (lists : Lists) → with_list smsc foreign (lists smsc foreign) lists ≡ lists
  with_same_list lists = sym (lists_changed lists lists (lists smsc foreign) refl (λ key differs. refl))

  pub with_nothing_more : (lists : Lists) → with_list smsc foreign (lists smsc foreign ++ []) lists ≡ lists
  with_nothing_more lists = ap (λ list. with_list smsc foreign list lists) (append-nil (lists smsc foreign)) ∙ with_same_list lists

-- messages that come last under a key, by the lists and the count that are then
pub awaits_by : (state : State) (smsc foreign : List ℕ) (more : List Awaited) (lists : Lists) (count : ℕ)
    → lists ≡ with_list smsc foreign (state.awaited smsc foreign ++ more) state.awaited → count ≡ state.awaited_count + length more
    → record state { awaited = lists; awaited_count = count } ≡ awaits smsc foreign more state
awaits_by state smsc foreign more lists count same counted = (λ i. record state { awaited = same i; awaited_count = counted i })

-- the oldest under a key goes
pub closes_by : (state : State) (smsc foreign : List ℕ) (lists : Lists) (count : ℕ)
    → lists ≡ with_list smsc foreign (drop 1 (state.awaited smsc foreign)) state.awaited → count ≡ state.awaited_count - 1
    → record state { awaited = lists; awaited_count = count } ≡ closes smsc foreign state
closes_by state smsc foreign lists count same counted = (λ i. record state { awaited = same i; awaited_count = counted i })

-- room that was made for a message that is to be awaited
pub room_if_awaited : (acked : Acked) (state : State) (sms : Sms) (Room : Type 0) → Some sms ≡ sms_of acked.message state
    → (IsTrue (is_awaited_in acked state) → Room) → IsTrue (is_awaited acked.foreign sms) → Room
room_if_awaited acked state sms Room is room asked = room (subst (λ o. IsTrue (option_map_or (is_awaited acked.foreign) o false)) is asked)

-- a state in which nothing has happened, by its parts
pub empty_by : (links : ℕ) (waiting : List (ℕ × Waiting)) (arrivals : List (ℕ × Arrival)) (jobs : List (ℕ × Job)) (lists : Lists) (count : ℕ) (up : List Bool)
    → waiting ≡ [] → arrivals ≡ [] → jobs ≡ [] → ((smsc foreign : List ℕ) → lists smsc foreign ≡ []) → count ≡ 0 → up ≡ replicate links false
    → record (empty links) { waiting = waiting; arrivals = arrivals; jobs = jobs; awaited = lists; awaited_count = count; up = up } ≡ empty links
empty_by links waiting arrivals jobs lists count up w a j l c u =
    (λ i. record (empty links) { waiting = w i; arrivals = a i; jobs = j i; awaited = λ smsc foreign. l smsc foreign i; awaited_count = c i; up = u i })

-- ---- the lists of a table, as a gate has them

-- a message that its centre took comes last, where it is to be awaited
pub await_by : (state : State) (acked : Acked) (sms : Sms) (smsc foreign : List ℕ) (lists : Lists) (count : ℕ) (awaited : Awaited) → smsc ≡ acked.smsc → foreign ≡ acked.foreign
    → is_awaited acked.foreign sms ≡ true → awaited ≡ awaited_as acked.message sms → lists smsc foreign ≡ state.awaited smsc foreign ++ awaited ∷ []
    → ((key : List ℕ × List ℕ) → key ≢ (smsc, foreign) → lists key.0 key.1 ≡ state.awaited key.0 key.1) → count ≡ state.awaited_count + 1
    → record state { awaited = lists; awaited_count = count } ≡ awaits acked.smsc acked.foreign (asked_by acked (Some sms)) state
await_by state acked sms smsc foreign lists count awaited same_smsc same_foreign asked is here elsewhere counted =
    let more : asked_by acked (Some sms) ≡ awaited ∷ [] =
    ap (λ b. cond b (awaited_as acked.message sms ∷ []) []) asked ∙ ap (λ a. a ∷ []) (sym is) in
    let changed : lists ≡ with_list smsc foreign (state.awaited smsc foreign ++ awaited ∷ []) state.awaited = lists_changed smsc foreign state.awaited lists _ here elsewhere in
    awaits_by state smsc foreign (awaited ∷ []) lists count changed counted
    ∙ ap (λ list. awaits smsc foreign list state) (sym more)
    ∙ ap (λ s. awaits s foreign (asked_by acked (Some sms)) state) same_smsc
    ∙ ap (λ f. awaits acked.smsc f (asked_by acked (Some sms)) state) same_foreign

-- and else nothing changes
pub await_none : (state : State) (acked : Acked) (sms : Sms) → is_awaited acked.foreign sms ≡ false → state ≡ awaits acked.smsc acked.foreign (asked_by acked (Some sms)) state
await_none state acked sms unasked =
    let none : asked_by acked (Some sms) ≡ [] = ap (λ b. cond b (awaited_as acked.message sms ∷ []) []) unasked in
    awaits_by state acked.smsc acked.foreign [] state.awaited state.awaited_count (sym (with_nothing_more acked.smsc acked.foreign state.awaited)) (sym (add-zero state.awaited_count))
    ∙ ap (λ list. awaits acked.smsc acked.foreign list state) (sym none)

pub awaits_nothing : (state : State) (acked : Acked) → state ≡ awaits acked.smsc acked.foreign (asked_by acked None) state
awaits_nothing state acked =
    awaits_by state acked.smsc acked.foreign [] state.awaited state.awaited_count (sym (with_nothing_more acked.smsc acked.foreign state.awaited)) (sym (add-zero state.awaited_count))

-- the oldest under the key of a report goes
pub close_by : (state : State) (reported : Reported) (smsc foreign : List ℕ) (lists : Lists) (count : ℕ) → smsc ≡ reported.smsc → foreign ≡ reported.foreign
    → lists smsc foreign ≡ drop 1 (state.awaited smsc foreign)
    → ((key : List ℕ × List ℕ) → key ≢ (smsc, foreign) → lists key.0 key.1 ≡ state.awaited key.0 key.1) → count + 1 ≡ state.awaited_count
    → record state { awaited = lists; awaited_count = count } ≡ closes reported.smsc reported.foreign state
close_by state reported smsc foreign lists count same_smsc same_foreign here elsewhere counted =
    let changed : lists ≡ with_list smsc foreign (drop 1 (state.awaited smsc foreign)) state.awaited = lists_changed smsc foreign state.awaited lists _ here elsewhere in
    let fewer : count ≡ state.awaited_count - 1 = omega (arith, counted) in
    closes_by state smsc foreign lists count changed fewer
    ∙ ap (λ s. closes s foreign state) same_smsc
    ∙ ap (λ f. closes reported.smsc f state) same_foreign

-- an answer that is Ok has what is known of one
pub on_ok : {T E : Type 0} (result : Result T E) (P : Type 0) → IsOk result → OnOk result P → P
on_ok (Ok value) P is p = p
on_ok (Err failed) P is p = absurd cc

-- an outcome that is there has what is known of one
pub if_some : {T : Type 0} (o : Option T) (P : Type 0) → IsSome o → IfSome o (λ _. P) → P
if_some None P is p = absurd cc
if_some (Some value) P is p = p

-- a gate whose table took memory holds what it held
pub same_state : (state : State) (old new : Reports) → SameLists old new → count_of new ≡ count_of old → record state { awaited = under new; awaited_count = count_of new } ≡ record state { awaited = under old; awaited_count = count_of old }
same_state state old new same counted =
    let lists = same_lists (under new) (under old) same in
    (λ i. record state { awaited = lists i; awaited_count = counted i })

-- what holds of two states one behind the other
pub keeps_both : (a b c : Gate) → KeepsAll a b → KeepsAll b c → KeepsAll a c
keeps_both a b c first then_ = record {
  rules = then_.rules ∙ first.rules;
  holds = then_.holds ∙ first.holds;
}

-- what follows from what is known of an answer that is Ok
pub on_ok_weaker : {T E : Type 0} (result : Result T E) (P Q : Type 0) → (P → Q) → OnOk result P → OnOk result Q
on_ok_weaker (Ok value) P Q f p = f p
on_ok_weaker (Err failed) P Q f p = tt

-- a gate becomes one thing and then another
pub becomes_both : (a b c : Gate) (first last : State) → Becomes a b first → Becomes b c last → Becomes a c last
becomes_both a b c first last one other =
    let before = one.places in
    let then_ = other.places in
    record {
      rules = other.rules ∙ one.rules;
      holds = other.holds;
      places = omega (arith, before, then_);
    }

-- and holds a state that is the same
pub becomes_same : (a b : Gate) (state other : State) → state ≡ other → Becomes a b state → Becomes a b other
becomes_same a b state other same is = record { rules = is.rules; holds = is.holds ∙ same; places = is.places }
