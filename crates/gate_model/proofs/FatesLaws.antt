-- The law of fates: no message ends twice, one that is known is stored exactly where it waits, and all are counted.
use Rattle.std.proofs.Common.{◌≡◌, ◌≢◌, refl, sym, ap, ◌∙◌, subst, ℕ, ◌+◌, ◌≤◌, ◌<◌, ◌==◌, Bool, true, false, not, cond, List, [], ◌∷◌, ◌++◌, length, map, Option, Some, None, arith, length-append, count_by, ne_eqb, ◌⊎◌, inl, inr, ⊎_elim}
use Rattle.std.specs.Prelude.{is_some, ◌↔◌}
use Rattle.std.specs.Option.{option_map_or}
use Rattle.std.proofs.lemmas.List.{length-map}
use Rattle.std.proofs.lemmas.List.Sums.{sum_by-cons}
use Rattle.std.proofs.lemmas.Bool.{cases_lt, and_parts}
use Rattle.sms_record.specs.declared.sms.Sms.{Sms}
use Rattle.route_rules.specs.declared.rules.Rules.{Rules}
use Rattle.gate_entries.specs.declared.cause.Cause.{Cause}
use Rattle.gate_entries.specs.declared.cause.Cause.TheVariants.{Centre, Expired}
use Rattle.gate_entries.specs.declared.recorded.Recorded.{Recorded}
use Rattle.gate_entries.specs.declared.recorded.Recorded.TheVariants as entry
use Rattle.gate_entries.specs.declared.passing.Passing.{Passing}
use Rattle.gate_entries.specs.declared.passing.Passing.TheVariants.{Up, Down, Took, Returned, TookJob, ReturnedJob, TookArrival, ReturnedArrival}
use Rattle.gate_model.specs.Numbers.{Rise, is_held, value_under, without, with_change, numbered_from}
use Rattle.dlr_table.specs.declared.awaited.Awaited.{Awaited}
use Rattle.gate_entries.specs.declared.reported.Reported.{Reported}
use Rattle.gate_model.specs.State.{State, IsInOrder, empty}
use Rattle.gate_model.specs.Fold.{Entry, recorded, passing, passes, does, after, accepts, answers, moves, hears, closes, unleased, is_last}
use Rattle.gate_model.specs.Lawful.{suits, may_end, has_expired}
use Rattle.gate_model.specs.Fates.{AreLawful, IsSoundIn, AreSound, Fate, taken, given_up, stored, fate, ended_by, is_end_of, IsCounted, HaveFates}
use Rattle.gate_model.proofs.NumberLemmas.{by_number, length-without, length-numbered_from}
use Rattle.gate_model.proofs.OrderLemmas.{IsInOrder-does, IsInOrder-empty}
use Rattle.gate_model.proofs.WholeLemmas.{some_value}

-- ---- pairs

module _ {T : Type 0} where
  -- the values under other numbers stay
  pub value_under-without_other : (number other : ℕ) (pairs : List (ℕ × T)) → number ≢ other → value_under other (without number pairs) ≡ value_under other pairs
  value_under-without_other number other [] ne = refl
  value_under-without_other number other (pair ∷ pairs) ne =
      let rest = value_under-without_other number other pairs ne in
      by_number
      (λ b. value_under other (cond (not b) (pair ∷ without number pairs) (without number pairs)) ≡ cond (pair.0 == other) (Some pair.1) (value_under other pairs)) pair.0 number
      (λ e. rw (ne_eqb pair.0 other (λ f. ne (sym e ∙ f))) rest)
      (λ differ. ap (cond (pair.0 == other) (Some pair.1)) rest)

  pub value_under-without : (number : ℕ) (pairs : List (ℕ × T)) → value_under number (without number pairs) ≡ None
  value_under-without number [] = refl
  value_under-without number (pair ∷ pairs) =
      let rest = value_under-without number pairs in
      by_number
      (λ b. value_under number (cond (not b) (pair ∷ without number pairs) (without number pairs)) ≡ None) pair.0 number
      (λ e. rest)
      (λ differ. rw (ne_eqb pair.0 number differ) rest)

  -- a change leaves which numbers there are
  held-with_change : (number other : ℕ) (change : T → T) (pairs : List (ℕ × T)) → is_held other (with_change number change pairs) ≡ is_held other pairs
  held-with_change number other change [] = refl
  held-with_change number other change (pair ∷ pairs) =
      let rest = held-with_change number other change pairs in
      by_number
      (λ b. is_some (value_under other (cond b (pair.0, change pair.1) pair ∷ with_change number change pairs)) ≡ is_some (cond (pair.0 == other) (Some pair.1) (value_under other pairs))) pair.0 number
      (λ e. by_number (λ b. is_some (cond b (Some (change pair.1)) (value_under other (with_change number change pairs))) ≡ is_some (cond b (Some pair.1) (value_under other pairs))) pair.0 other (λ f. refl) (λ f. rest))
      (λ e. by_number (λ b. is_some (cond b (Some pair.1) (value_under other (with_change number change pairs))) ≡ is_some (cond b (Some pair.1) (value_under other pairs))) pair.0 other (λ f. refl) (λ f. rest))

  -- what stands in front stays
  held-append : (number : ℕ) (pairs others : List (ℕ × T)) → is_held number (pairs ++ others) ≡ cond (is_held number pairs) true (is_held number others)
  held-append number [] others = refl
  held-append number (pair ∷ pairs) others =
      let rest = held-append number pairs others in
      by_number
      (λ b. is_some (cond b (Some pair.1) (value_under number (pairs ++ others))) ≡ cond (is_some (cond b (Some pair.1) (value_under number pairs))) true (is_held number others)) pair.0 number
      (λ e. refl) (λ e. rest)

  -- the numbers that are given are those from the first on
  held-numbered_from : (number first : ℕ) (values : List T) → first ≤ number → number < first + length values → is_held number (numbered_from first values) ≡ true
  held-numbered_from number first [] low high = absurd (omega arith)
  held-numbered_from number first (value ∷ values) low high =
      by_number
      (λ b. is_some (cond b (Some value) (value_under number (numbered_from (first + 1) values))) ≡ true) first number
      (λ e. refl) (λ ne. held-numbered_from number (first + 1) values (omega arith) (omega arith))

  pub below-numbered_from : (number first : ℕ) (values : List T) → number < first → is_held number (numbered_from first values) ≡ false
  below-numbered_from number first [] low = refl
  below-numbered_from number first (value ∷ values) low =
      by_number
      (λ b. is_some (cond b (Some value) (value_under number (numbered_from (first + 1) values))) ≡ false) first number
      (λ e. absurd (omega arith)) (λ ne. below-numbered_from number (first + 1) values (omega arith))

  -- what is held is below the end
  pub held_below : (from below number : ℕ) (pairs : List (ℕ × T)) → Rise from below pairs → is_held number pairs ≡ true → number < below
  held_below from below number [] rise held = absurd cc
  held_below from below number (pair ∷ pairs) rise held =
      by_number
      (λ b. is_some (cond b (Some pair.1) (value_under number pairs)) ≡ true → number < below) pair.0 number
      (λ e is. omega arith) (λ ne is. held_below (pair.0 + 1) below number pairs rise.2 is)
      held

-- ---- what one entry does to one message

-- What an entry does to a message, where it ends it and where not.
record Moves (message : ℕ) (ends : Bool) (old new : State) : Type 0 where
  was : ends ≡ true → is_held message old.waiting ≡ true
  gone : ends ≡ true → is_held message new.waiting ≡ false
  stays : ends ≡ false → is_held message old.waiting ≡ true → is_held message new.waiting ≡ true
  absent : message ≤ old.last_message → is_held message old.waiting ≡ false → is_held message new.waiting ≡ false
  grows : old.last_message ≤ new.last_message
  given : old.last_message < message → message ≤ new.last_message → is_held message new.waiting ≡ true

-- an entry that leaves which messages wait
moves-same : (message : ℕ) (old new : State) → is_held message new.waiting ≡ is_held message old.waiting → new.last_message ≡ old.last_message → Moves message false old new
moves-same message old new same last = record {
  was = λ e. absurd cc;
  gone = λ e. absurd cc;
  stays = λ e held. same ∙ held;
  absent = λ low none. same ∙ none;
  grows = omega arith;
  given = λ low high. absurd (omega arith);
}

-- one that gives numbers
moves-accepts : (message : ℕ) (old : State) (parts : List Sms) → Moves message false old (accepts parts old)
moves-accepts message old parts =
    let more = numbered_from (old.last_message + 1) (map unleased parts) in
    let both = held-append message old.waiting more in
    let count = length-map parts unleased in record {
      was = λ e. absurd cc;
      gone = λ e. absurd cc;
      stays = λ e held. both ∙ ap (λ b. cond b true (is_held message more)) held;
      absent = λ low none. both ∙ ap (λ b. cond b true (is_held message more)) none ∙ below-numbered_from message (old.last_message + 1) (map unleased parts) (omega arith);
      grows = omega arith;
      given = λ low high.
          let there = held-numbered_from message (old.last_message + 1) (map unleased parts) (omega arith) (omega (arith, count)) in
          both ∙ ap (cond (is_held message old.waiting) true) there ∙ either (is_held message old.waiting);
    }
  where
    either : (b : Bool) → cond b true true ≡ true
    either true = refl
    either false = refl

-- one that ends a message
moves-ends : (message number : ℕ) (old new : State) → new.waiting ≡ without number old.waiting → new.last_message ≡ old.last_message → is_held number old.waiting ≡ true → Moves message (number == message) old new
moves-ends message number old new ended last held =
    by_number (λ b. Moves message b old new) number message
    (λ e. record {
      was = λ is. subst (λ n. is_held n old.waiting ≡ true) e held;
      gone = λ is. subst (λ ps. is_held message ps ≡ false) (sym ended) (subst (λ n. is_held message (without n old.waiting) ≡ false) (sym e) (ap is_some (value_under-without message old.waiting)));
      stays = λ is. absurd cc;
      absent = λ low none. absurd (true_false (sym (subst (λ n. is_held n old.waiting ≡ true) e held) ∙ none));
      grows = omega arith;
      given = λ low high. absurd (omega arith);
    })
    (λ ne. moves-same message old new (ap (is_held message) ended ∙ ap is_some (value_under-without_other number message old.waiting ne)) last)
  where
    true_false : true ≡ false → ⊥
    true_false e = cc

held-hears : (message : ℕ) (reported : Reported) (found : Option Awaited) (state : State) → Moves message false state (hears reported found state)
held-hears message reported None state = moves-same message state _ refl refl
held-hears message reported (Some awaited) state =
    elim (is_last reported.kind) as (λ b. Moves message false state (cond b (closes reported.smsc reported.foreign state) state)) [
      | true ↦ moves-same message state _ refl refl
      | false ↦ moves-same message state _ refl refl
    ]

-- a message that may end waits
pub held-may_end : (state : State) (message time : ℕ) (cause : Cause) → may_end state message time cause ≡ true → is_held message state.waiting ≡ true
held-may_end state message time (Centre code) may = may
held-may_end state message time Expired may = by_value (value_under message state.waiting) may
  where
    by_value : (o : Option _) → option_map_or (has_expired time) o false ≡ true → is_some o ≡ true
    by_value None may = may
    by_value (Some waiting) may = refl

moves-moves : (message : ℕ) (state : State) (kept : Recorded) → suits state kept ≡ true → Moves message (is_end_of message (recorded kept)) state (moves kept state)
moves-moves message state (entry.Accept accept) suited = moves-accepts message state accept.parts
moves-moves message state (entry.Acked acked) suited = moves-ends message acked.message state _ refl refl (and_parts _ _ suited).0
moves-moves message state (entry.Rejected rejected) suited =
    moves-ends message rejected.message state _ refl refl (held-may_end state rejected.message rejected.time rejected.cause (and_parts _ _ suited).0)
moves-moves message state (entry.Reported reported) suited = held-hears message reported _ state
moves-moves message state (entry.Answered answered) suited =
    let m = moves-accepts message (answers answered.arrivals state) answered.parts in
    record { was = m.was; gone = m.gone; stays = m.stays; absent = m.absent; grows = m.grows; given = m.given }
moves-moves message state other suited = moves-same message state _ refl refl

moves-passes : (message : ℕ) (state : State) (brief : Passing) → Moves message false state (passes brief state)
moves-passes message state (Up link) = moves-same message state _ refl refl
moves-passes message state (Down link) = moves-same message state _ refl refl
moves-passes message state (Took link number time) = moves-same message state _ (held-with_change number message _ state.waiting) refl
moves-passes message state (Returned number) = moves-same message state _ (held-with_change number message _ state.waiting) refl
moves-passes message state (TookJob job) = moves-same message state _ refl refl
moves-passes message state (ReturnedJob job) = moves-same message state _ refl refl
moves-passes message state (TookArrival arrival) = moves-same message state _ refl refl
moves-passes message state (ReturnedArrival arrival) = moves-same message state _ refl refl

moves-does : (birth message : ℕ) (state : State) (one : Entry) → IsSoundIn state one → Moves message (is_end_of message one) state (does birth state one)
moves-does birth message state (recorded kept) sound =
    let m = moves-moves message state kept sound.1 in
    record { was = m.was; gone = m.gone; stays = m.stays; absent = m.absent; grows = m.grows; given = m.given }
moves-does birth message state (passing brief) sound = moves-passes message state brief

-- ---- what entries do to one message

-- one entry more is counted where it passes
count-cons : (message : ℕ) (one : Entry) (entries : List Entry) (b : Bool) → is_end_of message one ≡ b → count_by (is_end_of message) (one ∷ entries) ≡ cond b 1 0 + count_by (is_end_of message) entries
count-cons message one entries b is =
    sum_by-cons (λ x. cond (is_end_of message x) 1 0) one entries ∙ ap (λ e. cond e 1 0 + count_by (is_end_of message) entries) is

-- an entry that doesn't end a message leaves its fate
ended_by-other : (message : ℕ) (kept : Recorded) (f : Fate) → is_end_of message (recorded kept) ≡ false → ended_by message kept f ≡ f
ended_by-other message (entry.Acked acked) f is = ap (λ b. cond b taken f) is
ended_by-other message (entry.Rejected rejected) f is = ap (λ b. cond b (given_up rejected.cause) f) is
ended_by-other message other f is = refl

fate-other : (message : ℕ) (one : Entry) (entries : List Entry) → is_end_of message one ≡ false → fate (one ∷ entries) message ≡ fate entries message
fate-other message (recorded kept) entries is = ended_by-other message kept (fate entries message) is
fate-other message (passing brief) entries is = refl

-- one that ends it leaves it not stored
fate-ended : (message : ℕ) (one : Entry) (entries : List Entry) → is_end_of message one ≡ true → fate (one ∷ entries) message ≡ stored → ⊥
fate-ended message (recorded (entry.Acked acked)) entries is f = let t : taken ≡ stored = sym (ap (λ b. cond b taken (fate entries message)) is) ∙ f in cc
fate-ended message (recorded (entry.Rejected rejected)) entries is f = let t : given_up rejected.cause ≡ stored = sym (ap (λ b. cond b (given_up rejected.cause) (fate entries message)) is) ∙ f in cc
fate-ended message (recorded other) entries is f = cc
fate-ended message (passing brief) entries is f = cc

either : (b : Bool) → (b ≡ true) ⊎ (b ≡ false)
either true = inl refl
either false = inr refl

contrary : (b : Bool) → b ≡ true → b ≡ false → ⊥
contrary b ended lives = let e : true ≡ false = sym ended ∙ lives in cc

module _ (birth message : ℕ) where
  -- a message that is gone doesn't come back, and isn't ended again
  stays_gone : (state : State) (entries : List Entry) → AreSound birth state entries → message ≤ state.last_message → is_held message state.waiting ≡ false
      → (is_held message (after birth state entries).waiting ≡ false) × (count_by (is_end_of message) entries ≡ 0)
  stays_gone state [] sound low none = (none, refl)
  stays_gone state (one ∷ entries) sound low none =
      let m = moves-does birth message state one sound.0 in
      let grows = m.grows in
      let rest = stays_gone (does birth state one) entries sound.1 (omega (arith, grows)) (m.absent low none) in (
        rest.0,
        ⊎_elim (λ ended. absurd (contrary (is_held message state.waiting) (m.was ended) none))
            (λ lives. let c = count-cons message one entries false lives in let z = rest.1 in omega (arith, c, z)) (either (is_end_of message one)),
      )

  -- a message that an entry ends is gone behind it
  gone_behind : (state : State) (one : Entry) (entries : List Entry) → IsInOrder state → AreSound birth state (one ∷ entries) → is_end_of message one ≡ true
      → (is_held message (after birth state (one ∷ entries)).waiting ≡ false) × (count_by (is_end_of message) entries ≡ 0)
  gone_behind state one entries order sound ended =
      let m = moves-does birth message state one sound.0 in
      let grows = m.grows in
      let low = held_below 1 (state.last_message + 1) message state.waiting order.waiting (m.was ended) in
      stays_gone (does birth state one) entries sound.1 (omega (arith, grows, low)) (m.gone ended)

  ends_once : (state : State) (entries : List Entry) → IsInOrder state → AreSound birth state entries → count_by (is_end_of message) entries ≤ 1
  ends_once state [] order sound = omega arith
  ends_once state (one ∷ entries) order sound =
      let rest = ends_once (does birth state one) entries (IsInOrder-does birth state one order) sound.1 in
      ⊎_elim
      (λ ended. let c = count-cons message one entries true ended in let z = (gone_behind state one entries order sound ended).1 in omega (arith, c, z))
      (λ lives. let c = count-cons message one entries false lives in omega (arith, c, rest)) (either (is_end_of message one))

  -- one that waits is stored exactly where it still waits
  stored_held : (state : State) (entries : List Entry) → IsInOrder state → AreSound birth state entries → is_held message state.waiting ≡ true
      → (fate entries message ≡ stored) ↔ (is_held message (after birth state entries).waiting ≡ true)
  stored_held state [] order sound held = (λ f. held, λ h. refl)
  stored_held state (one ∷ entries) order sound held =
      let m = moves-does birth message state one sound.0 in
      ⊎_elim
      (λ ended. (
        λ f. absurd (fate-ended message one entries ended f),
        λ h. absurd (contrary (is_held message (after birth state (one ∷ entries)).waiting) h (gone_behind state one entries order sound ended).0),
      ))
      (λ lives.
      let rest = stored_held (does birth state one) entries (IsInOrder-does birth state one order) sound.1 (m.stays lives held) in
      let same = fate-other message one entries lives in (λ f. rest.0 (sym same ∙ f), λ h. same ∙ rest.1 h))
      (either (is_end_of message one))

  -- so is one that the entries accept
  stored_given : (state : State) (entries : List Entry) → IsInOrder state → AreSound birth state entries → state.last_message < message → message ≤ (after birth state entries).last_message
      → (fate entries message ≡ stored) ↔ (is_held message (after birth state entries).waiting ≡ true)
  stored_given state [] order sound low high = absurd (omega arith)
  stored_given state (one ∷ entries) order sound low high =
      let m = moves-does birth message state one sound.0 in
      let ordered = IsInOrder-does birth state one order in
      let lives : is_end_of message one ≡ false =
      ⊎_elim (λ ended. absurd (let below = held_below 1 (state.last_message + 1) message state.waiting order.waiting (m.was ended) in omega (arith, below))) (λ lives. lives) (either (is_end_of message one)) in
      let same = fate-other message one entries lives in
      let rest : (fate entries message ≡ stored) ↔ (is_held message (after birth (does birth state one) entries).waiting ≡ true) =
      ⊎_elim (λ given. stored_held (does birth state one) entries ordered sound.1 (m.given low given))
      (λ later. stored_given (does birth state one) entries ordered sound.1 later high) (le_or_lt message (does birth state one).last_message) in
      (λ f. rest.0 (sym same ∙ f), λ h. same ∙ rest.1 h)
    where
      le_or_lt : (a b : ℕ) → (a ≤ b) ⊎ (b < a)
      le_or_lt a b = ⊎_elim (λ lt. inr lt) (λ le. inl le) (cases_lt b a)

-- ---- the counts

module _ (state : State) (counted : IsCounted state) where
  counted-ends : (message : ℕ) → IsInOrder state → is_held message state.waiting ≡ true → state.accepted ≡ state.acked + state.rejected + length (without message state.waiting) + 1
  counted-ends message order held =
      let value = some_value (value_under message state.waiting) held in
      let one = length-without 1 (state.last_message + 1) message value.0 state.waiting order.waiting value.1 in
      omega (arith, one, counted)

  counted-accepts : (parts : List Sms) → IsCounted (accepts parts state)
  counted-accepts parts =
      let many = length-append state.waiting (numbered_from (state.last_message + 1) (map unleased parts)) in
      let numbered = length-numbered_from (state.last_message + 1) (map unleased parts) in
      let same = length-map parts unleased in
      omega (arith, many, numbered, same, counted)

  counted-moves : (kept : Recorded) → IsInOrder state → suits state kept ≡ true → IsCounted (moves kept state)
  counted-moves (entry.Accept accept) order suited = counted-accepts accept.parts
  counted-moves (entry.Acked acked) order suited = let less = counted-ends acked.message order (and_parts _ _ suited).0 in omega (arith, less)
  counted-moves (entry.Rejected rejected) order suited =
      let less = counted-ends rejected.message order (held-may_end state rejected.message rejected.time rejected.cause (and_parts _ _ suited).0) in omega (arith, less)
  counted-moves (entry.Reported reported) order suited = counted-hears reported _
    where
      counted-hears : (reported : Reported) (found : Option Awaited) → IsCounted (hears reported found state)
      counted-hears reported None = counted
      counted-hears reported (Some awaited) =
          elim (is_last reported.kind) as (λ b. IsCounted (cond b (closes reported.smsc reported.foreign state) state)) [
            | true ↦ counted
            | false ↦ counted
          ]
  counted-moves (entry.Answered answered) order suited = counted-accepts answered.parts
  counted-moves other order suited = counted

  pub counted-passes : (brief : Passing) → IsCounted (passes brief state)
  counted-passes (Up link) = counted
  counted-passes (Down link) = counted
  counted-passes (Took link message time) = counted ∙ ap (λ n. state.acked + state.rejected + n) (sym (length-map state.waiting _))
  counted-passes (Returned message) = counted ∙ ap (λ n. state.acked + state.rejected + n) (sym (length-map state.waiting _))
  counted-passes (TookJob job) = counted
  counted-passes (ReturnedJob job) = counted
  counted-passes (TookArrival arrival) = counted
  counted-passes (ReturnedArrival arrival) = counted

pub counted-does : (birth : ℕ) (state : State) (one : Entry) → IsInOrder state → IsSoundIn state one → IsCounted state → IsCounted (does birth state one)
counted-does birth state (recorded kept) order sound counted = counted-moves state counted kept order sound.1
counted-does birth state (passing brief) order sound counted = counted-passes state counted brief

pub counted-after : (birth : ℕ) (state : State) (entries : List Entry) → IsInOrder state → AreSound birth state entries → IsCounted state → IsCounted (after birth state entries)
counted-after birth state [] order sound counted = counted
counted-after birth state (one ∷ entries) order sound counted =
    counted-after birth (does birth state one) entries (IsInOrder-does birth state one order) sound.1 (counted-does birth state one order sound.0 counted)

-- the law of fates, of sound entries
pub sound_have_fates : (birth : ℕ) (state : State) (entries : List Entry) → IsInOrder state → IsCounted state → AreSound birth state entries → HaveFates birth state entries
sound_have_fates birth state entries order counted sound = record {
  once = λ message. ends_once birth message state entries order sound;
  stored = λ message known.
      ⊎_elim (λ held. stored_held birth message state entries order sound held) (λ given. stored_given birth message state entries order sound given.0 given.1) known;
  counted = counted-after birth state entries order sound counted;
}

-- lawful entries are sound
pub are_sound_where_lawful : (birth : ℕ) (rules : Rules) (state : State) (entries : List Entry) → AreLawful birth rules state entries → AreSound birth state entries
are_sound_where_lawful birth rules state [] lawful = tt
are_sound_where_lawful birth rules state (recorded kept ∷ entries) lawful = (lawful.0.0, are_sound_where_lawful birth rules (does birth state (recorded kept)) entries lawful.1)
are_sound_where_lawful birth rules state (passing brief ∷ entries) lawful = (tt, are_sound_where_lawful birth rules (does birth state (passing brief)) entries lawful.1)

-- so lawful entries have fates
pub have_fates : (birth : ℕ) (rules : Rules) (state : State) (entries : List Entry) → IsInOrder state → IsCounted state → AreLawful birth rules state entries → HaveFates birth state entries
have_fates birth rules state entries order counted lawful = sound_have_fates birth state entries order counted (are_sound_where_lawful birth rules state entries lawful)

-- and so have those since a store's birth
pub fates_since_birth : (birth links : ℕ) (entries : List Entry) → AreSound birth (empty links) entries → HaveFates birth (empty links) entries
fates_since_birth birth links entries sound = sound_have_fates birth (empty links) entries (IsInOrder-empty links) refl sound
