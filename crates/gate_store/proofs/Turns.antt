-- Entries in their turn.
use Rattle.std.proofs.Common.{◌≡◌, refl, ℕ, List, [], ◌∷◌, ◌++◌, map, sym, ap, ◌∙◌, subst}
use Rattle.std.proofs.lemmas.List.{append-nil, map-append}
use Rattle.std.proofs.lemmas.List.Sums.{fold-append}
use Rattle.gate_entries.specs.declared.recorded.Recorded.{Recorded}
use Rattle.gate_entries.specs.Entry.{entry_octets}
use Rattle.gate_entries.proofs.Alone.{one_entry}
use Rattle.gate_model.specs.Fold.{after, does, recorded}
use Rattle.gate_model.specs.Loading.{ComesNext, IsOutside}
use Rattle.gate_model.specs.State.{State}
use Rattle.route_rules.specs.declared.rules.Rules.{Rules}
use Rattle.store_journal.specs.Area.{Standing, unborn, born, foreign}
use Rattle.gate_store.specs.Entries.{payloads, start, state_of, AreInTurn, StandsFor}

-- the state behind one entry more
pub after_more : (birth : ℕ) (state : State) (entries : List Recorded) (kept : Recorded)
    → after birth state (map recorded (entries ++ kept ∷ [])) ≡ does birth (after birth state (map recorded entries)) (recorded kept)
after_more birth state entries kept =
    ap (after birth state) (map-append recorded entries (kept ∷ [])) ∙ fold-append (does birth) state (map recorded entries) (recorded kept ∷ [])

-- one more, in its turn
pub in_turn_more : (birth : ℕ) (state : State) (entries : List Recorded) (kept : Recorded) → AreInTurn birth state entries
    → ComesNext (after birth state (map recorded entries)) (entry_octets kept) kept → AreInTurn birth state (entries ++ kept ∷ [])
in_turn_more birth state [] kept turn next = (next, tt)
in_turn_more birth state (first ∷ entries) kept turn next = (turn.0, in_turn_more birth (does birth state (recorded first)) entries kept turn.1 next)

pub payloads_more : (entries : List Recorded) (kept : Recorded) → payloads (entries ++ kept ∷ []) ≡ payloads entries ++ entry_octets kept ∷ []
payloads_more entries kept = map-append entry_octets entries (kept ∷ [])

-- two entries in their turn with the same octets are one
one_kept : (state : State) (a b : Recorded) → ComesNext state (entry_octets a) a → ComesNext state (entry_octets b) b → entry_octets a ≡ entry_octets b → a ≡ b
one_kept state a b first second same =
    (one_entry a b [] [] first.sound.0 second.sound.0 (append-nil (entry_octets a) ∙ same ∙ sym (append-nil (entry_octets b)))).0

-- where a payload behind entries in their turn isn't one that may come next, the payloads are no entries in their turn
pub none_in_turn : (birth : ℕ) (state : State) (entries : List Recorded) (payload : List ℕ) (rest : List (List ℕ)) → AreInTurn birth state entries
    → IsOutside payload (after birth state (map recorded entries))
    → (others : List Recorded) → AreInTurn birth state others → payloads entries ++ payload ∷ rest ≡ payloads others → ⊥
none_in_turn birth state [] payload rest turn outside [] other same = absurd cc
none_in_turn birth state [] payload rest turn outside (next ∷ others) other same =
    let is : payload ≡ entry_octets next = cc in
    outside next (subst (λ octets. ComesNext state octets next) (sym is) other.0)
none_in_turn birth state (first ∷ entries) payload rest turn outside [] other same = absurd cc
none_in_turn birth state (first ∷ entries) payload rest turn outside (next ∷ others) other same =
    let octets : entry_octets first ≡ entry_octets next = cc in
    let behind : payloads entries ++ payload ∷ rest ≡ payloads others = cc in
    let one : first ≡ next = one_kept state first next turn.0 other.0 octets in
    none_in_turn birth (does birth state (recorded first)) entries payload rest turn.1 outside others
    (subst (λ kept. AreInTurn birth (does birth state (recorded kept)) others) (sym one) other.1) behind

-- entries in their turn are those of their payloads
same_entries : (birth : ℕ) (state : State) (entries others : List Recorded) → AreInTurn birth state entries → AreInTurn birth state others
    → payloads entries ≡ payloads others → entries ≡ others
same_entries birth state [] [] turn other same = refl
same_entries birth state [] (next ∷ others) turn other same = absurd cc
same_entries birth state (first ∷ entries) [] turn other same = absurd cc
same_entries birth state (first ∷ entries) (next ∷ others) turn other same =
    let octets : entry_octets first ≡ entry_octets next = cc in
    let behind : payloads entries ≡ payloads others = cc in
    let one : first ≡ next = one_kept state first next turn.0 other.0 octets in
    let rest = same_entries birth (does birth state (recorded first)) entries others turn.1
    (subst (λ kept. AreInTurn birth (does birth state (recorded kept)) others) (sym one) other.1) behind in
    (λ i. one i ∷ rest i)

-- areas stand for one state
pub same_state : (rules : Rules) (standing : Standing) (birth other : ℕ) (entries others : List Recorded) → StandsFor standing birth entries → StandsFor standing other others
    → AreInTurn birth (start rules) entries → AreInTurn other (start rules) others → state_of birth rules entries ≡ state_of other rules others
same_state rules unborn birth other entries others first second turn then_ = ap (state_of birth rules) first ∙ sym (ap (state_of other rules) second)
same_state rules (born there area payloads_there) birth other entries others first second turn then_ =
    let one : other ≡ birth = sym second.0 ∙ first.0 in
    let same = same_entries birth (start rules) entries others turn (subst (λ b. AreInTurn b (start rules) others) one then_) (sym first.1 ∙ second.1) in
    ap (state_of birth rules) same ∙ ap (λ b. state_of b rules others) (sym one)
same_state rules (foreign area at) birth other entries others first second turn then_ = absurd first
