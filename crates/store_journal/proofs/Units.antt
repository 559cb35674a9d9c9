-- The units with which octets begin: the first of them, and those behind it.
use Rattle.std.proofs.Common.{◌≡◌, ℕ, suc, ◌-◌, ◌<◌, ◌≤◌, ◌+◌, false, eqb, leb, List, [], ◌∷◌, ◌++◌, length, length-drop, take, drop, Ok, Err, refl, sym, ◌∙◌, ap, subst, arith, length-append, append_assoc}
use Rattle.std.proofs.lemmas.Bool.{eqb-false, false_from_ne_true, and_parts, leb-true}
use Rattle.std.proofs.lemmas.List.{drop_at, take-append-drop, take_rest}
use Rattle.exact_octets.specs.Alphabet.{within}
use Rattle.exact_octets.specs.declared.read_fault.ReadFault.{ReadFault}
use Rattle.exact_octets.specs.declared.read_fault.ReadFault.TheVariants as faults
use Rattle.exact_octets.proofs.Readers.{AreOctets, Answers}
use Rattle.exact_octets.proofs.Streams.{StandsNone, many_none, many_more}
use Rattle.store_journal.specs.Area.{unit, unit_at, payloads_in, IsPayload}
use Rattle.store_journal.specs.Opening.{IsFirstUnit, IsNoUnit}
use Rattle.store_journal.proofs.Readers.{unit_reads}

-- a unit has octets
pub some_octets : (payload : List ℕ) → IsPayload payload → 0 < length (unit payload)
some_octets payload good = omega arith

-- a closed gate begins no unit
pub closed_none : (gate : ℕ) (behind : List ℕ) → eqb gate 1 ≡ false → StandsNone unit_at (gate ∷ behind)
unfolding unit_at
closed_none gate behind closed =
    let other : within 1 1 gate ≡ false = false_from_ne_true (within 1 1 gate) (λ is_open. let parts = and_parts (leb 1 gate) (leb gate 1) is_open in eqb-false gate 1 closed (omega (arith, leb-true 1 gate parts.0, leb-true gate 1 parts.1))) in
    (faults.Malformed (suc (length behind)), rw other refl)

-- octets of which no unit is read begin with none
pub no_unit : (octets : List ℕ) (fault : ReadFault) → unit_at octets ≡ Err fault → IsNoUnit octets
no_unit octets fault read = many_none unit_at octets (fault, read)

-- no octets have no payloads
pub no_payloads : payloads_in [] ≡ []
unfolding unit_at
no_payloads = ap (λ (found : List (List ℕ) × List ℕ). found.0) (no_unit [] faults.Short refl)

-- octets of which a unit is read begin with it
pub first_unit : (octets payload behind : List ℕ) → AreOctets octets → unit_at octets ≡ Ok (payload, behind) → IsFirstUnit octets payload behind
first_unit octets payload behind fits read =
    let on = many_more IsPayload unit unit_at unit_reads some_octets octets payload behind fits read in
    record {
      apart = (subst (Answers IsPayload unit octets) read (unit_reads.answers octets fits)).1;
      payloads = ap (λ (found : List (List ℕ) × List ℕ). found.0) on;
      rest = ap (λ (found : List (List ℕ) × List ℕ). found.1) on;
    }

-- fewer octets stand behind a unit
pub unit_shorter : (octets payload behind : List ℕ) → IsFirstUnit octets payload behind → length behind < length octets
unit_shorter octets payload behind is = omega (arith, ap length is.apart, length-append (unit payload) behind)

-- one unit on from a place
pub step : (octets : List ℕ) (place : ℕ) (payload behind : List ℕ) → IsFirstUnit (take (length octets - place) (drop place octets)) payload behind
    → payloads_in (drop place octets) ≡ payload ∷ payloads_in (drop (length octets - length behind) octets)
step octets place payload behind is =
    let all : take (length octets - place) (drop place octets) ≡ drop place octets = take_rest octets place in
    let apart : octets ≡ (take place octets ++ unit payload) ++ behind =
    sym (take-append-drop place octets) ∙ ap (λ (l : List ℕ). take place octets ++ l) (sym all ∙ is.apart) ∙ sym (append_assoc (take place octets) (unit payload) behind) in
    let on : drop (length octets - length behind) octets ≡ behind =
    ap (drop (length octets - length behind)) apart ∙ drop_at (take place octets ++ unit payload) behind (length octets - length behind) (omega (arith, ap length apart, length-append (take place octets ++ unit payload) behind)) in
    ap payloads_in (sym all) ∙ is.payloads ∙ ap (λ (l : List ℕ). payload ∷ payloads_in l) (sym on)

-- and how far that is
pub step_far : (octets : List ℕ) (place : ℕ) (payload behind : List ℕ) → place ≤ length octets → IsFirstUnit (take (length octets - place) (drop place octets)) payload behind → length octets - length behind ≡ place + 5 + length payload
step_far octets place payload behind le is =
    let size : length (unit payload) ≡ 5 + length payload = omega arith in
    omega (arith, le, size, ap length is.apart, length-append (unit payload) behind, ap length (take_rest octets place), length-drop place octets)

-- no unit at a place
pub stop : (octets : List ℕ) (place : ℕ) → IsNoUnit (take (length octets - place) (drop place octets)) → payloads_in (drop place octets) ≡ []
stop octets place none = ap payloads_in (sym (take_rest octets place)) ∙ ap (λ (found : List (List ℕ) × List ℕ). found.0) none

-- a closed gate alone has no payloads
pub closed_alone : payloads_in (0 ∷ []) ≡ []
closed_alone = ap (λ (found : List (List ℕ) × List ℕ). found.0) (many_none unit_at (0 ∷ []) (closed_none 0 [] refl))
