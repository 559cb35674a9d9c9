-- Loading a store: the entries that were handed out so far.
use Rattle.std.proofs.Common.{◌≡◌, ℕ, ◌+◌, length, Option, Some, None, Ok, List, [], ◌∷◌, ◌++◌, refl, ap, sym, ◌∙◌, append_assoc, subst, arith}
use Rattle.std.proofs.lemmas.List.{append-nil}
use Rattle.gate_entries.specs.declared.recorded.Recorded.{Recorded}
use Rattle.gate_entries.specs.Entry.{entry_octets}
use Rattle.gate_model.specs.Fold.{does, recorded}
use Rattle.gate_model.specs.Gate.{IsGate, model_of, rules_of}
use Rattle.gate_model.specs.Settling.{settle}
use Rattle.gate_model.specs.declared.gate.Gate.{Gate}
use Rattle.gate_model.specs.Loading.{gate_in, birth_in, loaded, IsTaken, IsOutside, ComesNext}
use Rattle.gate_model.specs.State.{State}
use Rattle.gate_model.specs.declared.loader.Loader.{Loader}
use Rattle.route_rules.specs.declared.rules.Rules.{Rules}
use Rattle.store_disk.specs.Meaning.{Meaning}
use Rattle.store_journal.specs.Area.{gate_place, unit}
use Rattle.store_journal.proofs.Keeping.{gate_more}
use Rattle.store_journal.specs.Journal.{IsJournal, HoldsSame, Hands, MovesOn, disk_of, area_of, birth_of, left, gate_of, next_gate}
use Rattle.store_journal.specs.declared.journal.Journal.{Journal}
use Rattle.gate_store.specs.Entries.{payloads, start, state_of, AreInTurn, StopsAt}
use Rattle.gate_store.specs.Store.{rules_in}
use Rattle.gate_store.specs.StoreSteps.{Loads}
use Rattle.gate_store.specs.declared.store.Store.{Store}
use Rattle.gate_store.proofs.Commits.{settle-state_of}
use Rattle.gate_store.proofs.Recording.{make_store}
use Rattle.gate_store.proofs.Turns.{after_more, in_turn_more, payloads_more}

-- the closed gate moves on by a unit
gate_place_more : (there : List (List ℕ)) (payload : List ℕ) → gate_place (there ++ payload ∷ []) ≡ gate_place there + 5 + length payload
gate_place_more there payload =
    let size : length (unit payload) ≡ 5 + length payload = omega arith in
    let more : gate_place (there ++ payload ∷ []) ≡ gate_place there + length (unit payload) = gate_more there payload in
    omega (arith, more, size)

some_is : {T : Type 0} (a b : T) → Some a ≡ Some b → a ≡ b
some_is a b same = cc

-- nothing was left, and nothing is
handed_none : (before now : List (List ℕ)) (handed : Option (List ℕ)) → Hands before (Ok handed) now → handed ≡ None → (before ≡ []) × (now ≡ [])
handed_none before now handed hands is = let P : Option (List ℕ) → Type 0 = λ h. Hands before (Ok h) now in subst P is hands

-- The entries so far are those in front of what is left to hand out, each in its turn, and the loader has read them.
pub record HasLoaded {D : Type 0} (meaning : Meaning D) (rules : Rules) (first now : Journal D) (loader : Loader) : Type 0 where
  pub entries : List Recorded
  pub split : left first ≡ payloads entries ++ left now
  pub in_turn : AreInTurn (birth_of first) (start rules) entries
  pub whole : IsGate (gate_in loader)
  pub ruled : rules_of (gate_in loader) ≡ rules
  pub state : loaded loader ≡ state_of (birth_of first) rules entries
  pub birth : birth_in loader ≡ birth_of first
  pub journal : IsJournal meaning now (birth_of first) (left first) None
  pub disk : disk_of now ≡ disk_of first
  pub area : area_of now ≡ area_of first
  pub gate : next_gate now ≡ gate_place (payloads entries)

module _ {D : Type 0} (meaning : Meaning D) (rules : Rules) (first : Journal D) where
  -- before the first
  pub HasLoaded-nil : (loader : Loader) → IsJournal meaning first (birth_of first) (left first) None → next_gate first ≡ 16 → IsGate (gate_in loader)
      → rules_of (gate_in loader) ≡ rules → loaded loader ≡ start rules → birth_in loader ≡ birth_of first → HasLoaded meaning rules first first loader
  HasLoaded-nil loader is gate whole ruled none born = record {
    entries = [];
    split = refl;
    in_turn = tt;
    whole = whole;
    ruled = ruled;
    state = none;
    birth = born;
    journal = is;
    disk = refl;
    area = refl;
    gate = gate;
  }

  -- one more
  pub HasLoaded-more : (now next : Journal D) (loader later : Loader) (payload : List ℕ) → HasLoaded meaning rules first now loader
      → left now ≡ payload ∷ left next → HoldsSame meaning now next → disk_of next ≡ disk_of now → area_of next ≡ area_of now
      → next_gate next ≡ next_gate now + 5 + length payload
      → IsTaken (birth_in loader) payload (loaded loader) (loaded later) → IsGate (gate_in later) → rules_of (gate_in later) ≡ rules_of (gate_in loader)
      → birth_in later ≡ birth_in loader
      → HasLoaded meaning rules first next later
  HasLoaded-more now next loader later payload h took same disk area gate taken whole ruled born =
      let kept = taken.kept in
      let spelled : payload ≡ entry_octets kept = taken.next.spelled in
      let comes : ComesNext (state_of (birth_of first) rules h.entries) (entry_octets kept) kept =
      subst (λ (s : State). ComesNext s (entry_octets kept) kept) h.state (subst (λ octets. ComesNext (loaded loader) octets kept) spelled taken.next) in
      record {
        entries = h.entries ++ kept ∷ [];
        split = h.split ∙ ap (λ x. payloads h.entries ++ x) (took ∙ ap (λ p. p ∷ left next) spelled)
            ∙ sym (append_assoc (payloads h.entries) (entry_octets kept ∷ []) (left next))
            ∙ ap (λ x. x ++ left next) (sym (payloads_more h.entries kept));
        in_turn = in_turn_more (birth_of first) (start rules) h.entries kept h.in_turn comes;
        whole = whole;
        ruled = ruled ∙ h.ruled;
        state = taken.holds ∙ ap (λ b. does b (loaded loader) (recorded kept)) h.birth ∙ ap (λ s. does (birth_of first) s (recorded kept)) h.state
            ∙ sym (after_more (birth_of first) (start rules) h.entries kept);
        birth = born ∙ h.birth;
        journal = same (birth_of first) (left first) None h.journal;
        disk = disk ∙ h.disk;
        area = area ∙ h.area;
        gate = gate ∙ ap (λ n. n + 5 + length payload) h.gate ∙ ap (λ p. gate_place (payloads h.entries) + 5 + length p) spelled
            ∙ sym (gate_place_more (payloads h.entries) (entry_octets kept)) ∙ ap gate_place (sym (payloads_more h.entries kept));
      }

  -- where a payload isn't one that may come next, what is left to hand out stops at its gate
  pub stops_at : (now next : Journal D) (loader : Loader) (payload : List ℕ) → HasLoaded meaning rules first now loader
      → left now ≡ payload ∷ left next → gate_of next ≡ next_gate now → IsOutside payload (loaded loader) → StopsAt (birth_of first) rules (left first) (gate_of next)
  stops_at now next loader payload h took gate outside = record {
    entries = h.entries;
    payload = payload;
    rest = left next;
    split = h.split ∙ ap (λ x. payloads h.entries ++ x) took;
    in_turn = h.in_turn;
    outside = subst (IsOutside payload) h.state outside;
    place = gate ∙ h.gate;
  }

  -- the entries are all that there is
  pub all_loaded : (now : Journal D) (loader : Loader) (h : HasLoaded meaning rules first now loader) → left now ≡ [] → left first ≡ payloads h.entries
  all_loaded now loader h ended = h.split ∙ ap (λ x. payloads h.entries ++ x) ended ∙ append-nil (payloads h.entries)

  -- a store over them
  pub loads_all : (now next : Journal D) (loader : Loader) (store : Store D) (handed : Option (List ℕ)) → HasLoaded meaning rules first now loader
      → Hands (left now) (Ok handed) (left next) → handed ≡ None → HoldsSame meaning now next → disk_of next ≡ disk_of now → birth_of next ≡ birth_of now
      → store.journal ≡ next → Some store.gate ≡ Some (gate_in loader) → store.unsure ≡ None → Loads meaning rules first store
  loads_all now next loader store handed h hands none same disk born journal gates sure =
      let ended = handed_none (left now) (left next) handed hands none in
      let gate : store.gate ≡ gate_in loader = some_is store.gate (gate_in loader) gates in
      let all = all_loaded now loader h ended.0 in
      let ruled : rules_in store ≡ rules = ap rules_of gate ∙ h.ruled in
      let held : IsJournal meaning store.journal (birth_of first) (payloads h.entries) None =
      subst (λ (j : Journal D). IsJournal meaning j (birth_of first) (payloads h.entries) None) (sym journal)
      (subst (λ ps. IsJournal meaning next (birth_of first) ps None) all (same (birth_of first) (left first) None h.journal)) in
      record {
        entries = h.entries;
        ruled = ruled;
        born = ap (λ (j : Journal D). birth_of j) journal ∙ born ∙ h.journal.born;
        handed = all;
        holds = make_store meaning store rules (birth_of first) h.entries None ruled sure held
            (ap (λ (j : Journal D). left j) journal ∙ ended.1) h.in_turn tt (subst (λ (g : Gate). IsGate g) (sym gate) h.whole)
            (ap (λ (g : Gate). settle (model_of g)) gate ∙ ap settle h.state ∙ settle-state_of (birth_of first) rules h.entries);
        state = ap (λ (g : Gate). model_of g) gate ∙ h.state;
        sure = sure;
        disk = ap (λ (j : Journal D). disk_of j) journal ∙ disk ∙ h.disk;
      }

-- the payload that was handed out stood first
pub handed_first : (before now : List (List ℕ)) (handed : Option (List ℕ)) (payload : List ℕ) → Hands before (Ok handed) now → handed ≡ Some payload
    → before ≡ payload ∷ now
handed_first before now handed payload hands is = let P : Option (List ℕ) → Type 0 = λ h. Hands before (Ok h) now in subst P is hands

-- and its gate stood next
pub moved_on : {D : Type 0} (old new : Journal D) (handed : Option (List ℕ)) (payload : List ℕ) → MovesOn old (Ok handed) new → handed ≡ Some payload
    → (gate_of new ≡ next_gate old) × (next_gate new ≡ next_gate old + 5 + length payload)
moved_on old new handed payload moves is = let P : Option (List ℕ) → Type 0 = λ h. MovesOn old (Ok h) new in subst P is moves
