-- The link that is chosen for a message carries it.
use Rattle.std.proofs.Common.{◌≡◌, ◌≢◌, ◌∙◌, refl, sym, ap, subst, ℕ, suc, ◌+◌, Bool, true, cond, not, inl, inr, List, [], ◌∷◌, length, arith}
use Rattle.std.specs.Prelude.{◌==◌, Some, None, find, slice_get}
use Rattle.std.proofs.lemmas.Bool.{cases_Bool, and_parts, false≢true}
use Rattle.route_rules.specs.Carriage.{carries}
use Rattle.route_rules.specs.Routes.{fit, is_at_least, is_ready, numbers_from, pool, has_fewest, chosen, takes_id, takes_receiver, prefers}
use Rattle.route_rules.specs.declared.fit.Fit.{Fit}
use Rattle.route_rules.specs.declared.fit.Fit.TheVariants.{No, Plain, Preferred}
use Rattle.route_rules.specs.declared.link_rule.LinkRule.{LinkRule}
use Rattle.route_rules.specs.declared.rules.Rules.{Rules}
use Rattle.sms_record.specs.declared.sms.Sms.{Sms}
use Rattle.link_turn.specs.Back.{IsAmong}
use Rattle.link_turn.proofs.Uses.{among_cases, among_head, among_tail}

pub none_among : (k : ℕ) → IsAmong k [] → ⊥
none_among k among = let e : None ≡ Some k = among in cc

never : (least : Fit) → is_at_least least No ≡ true → least ≢ No → ⊥
never No is some = some refl
never Plain is some = false≢true is
never Preferred is some = false≢true is

-- what suits a message is carried
suits_carried : (least : Fit) (rule : LinkRule) (sms : Sms) → least ≢ No → is_at_least least (fit rule sms) ≡ true → carries rule.kind sms ≡ true
suits_carried least rule sms some suits =
    elim (cases_Bool (carries rule.kind sms)) [
      | inl is ↦ is
      | inr not_carried ↦ absurd (never least (ap (λ (c : Bool). is_at_least least (cond (not c) No (cond (not (takes_id rule sms.smsc)) No (cond (not (takes_receiver rule sms.receiver)) No (cond (prefers rule sms) Preferred Plain))))) (sym not_carried) ∙ suits) some)
    ]

-- the link under a number suits the message
pub record Suits (least : Fit) (rules : List LinkRule) (sms : Sms) (link : ℕ) : Type 0 where
  pub rule : LinkRule
  pub there : slice_get rules link ≡ Some rule
  pub suits : is_at_least least (fit rule sms) ≡ true

one_further : (least : Fit) (rule : LinkRule) (rules : List LinkRule) (sms : Sms) (k link first : ℕ) → k ≡ link + (first + 1) → Suits least rules sms link → (l : ℕ) × (k ≡ l + first) × Suits least (rule ∷ rules) sms l
one_further least rule rules sms k link first is s = (suc link, omega arith, record { rule = s.rule; there = s.there; suits = s.suits })

among_suits : (first : ℕ) (least : Fit) (rules : List LinkRule) (ups : List Bool) (sms : Sms) (k : ℕ) → IsAmong k (numbers_from first least rules ups sms) → (l : ℕ) × (k ≡ l + first) × Suits least rules sms l
among_suits first least [] ups sms k among = absurd (none_among k among)
among_suits first least (rule ∷ rules) [] sms k among = absurd (none_among k among)
among_suits first least (rule ∷ rules) (up ∷ ups) sms k among =
    elim (cases_Bool (is_ready least rule up sms)) [
      | inl ready ↦ elim (among_cases k first (numbers_from (first + 1) least rules ups sms) (rw ready at among)) [
        | inl here ↦ (0, omega (arith, here), record { rule = rule; there = refl; suits = (and_parts up (is_at_least least (fit rule sms)) ready).1 })
        | inr later ↦
            let q = among_suits (first + 1) least rules ups sms k later in
            one_further least rule rules sms k q.0 first q.1 q.2
      ]
      | inr other ↦
          let q = among_suits (first + 1) least rules ups sms k (rw other at among) in
          one_further least rule rules sms k q.0 first q.1 q.2
    ]

-- what is found in a list is among it
found_among : (p : ℕ → Bool) (ks : List ℕ) (k : ℕ) → find p ks ≡ Some k → IsAmong k ks
found_among p [] k found = absurd (let e : None ≡ Some k = found in cc)
found_among p (first ∷ ks) k found =
    elim (cases_Bool (p first)) [
      | inl is ↦
          let e : Some first ≡ Some k = sym (rw is) ∙ found in
          let same : first ≡ k = cc in
          subst (λ (n : ℕ). IsAmong n (first ∷ ks)) same (among_head first ks)
      | inr other ↦ among_tail k first ks (found_among p ks k (rw other at found))
    ]

from_first : (least : Fit) (rules : Rules) (up : List Bool) (sms : Sms) (link : ℕ) → least ≢ No → IsAmong link (numbers_from 0 least rules.links up sms)
    → (rule : LinkRule) × (slice_get rules.links link ≡ Some rule) × (carries rule.kind sms ≡ true)
from_first least rules up sms link some among =
    let q = among_suits 0 least rules.links up sms link among in
    let same : q.0 ≡ link = omega (arith, q.1) in
    (q.2.rule, subst (λ (l : ℕ). slice_get rules.links l ≡ Some q.2.rule) same q.2.there, suits_carried least q.2.rule sms some q.2.suits)

pub chosen_carries : (rules : Rules) (up : List Bool) (flight : List ℕ) (sms : Sms) (link : ℕ) → chosen rules up flight sms ≡ Some link
    → (rule : LinkRule) × (slice_get rules.links link ≡ Some rule) × (carries rule.kind sms ≡ true)
chosen_carries rules up flight sms link is =
    let among = found_among (has_fewest flight (pool rules up sms)) (pool rules up sms) link is in
    elim (cases_Bool (length (numbers_from 0 Preferred rules.links up sms) == 0)) [
      | inl none ↦ from_first Plain rules up sms link (λ e. cc) (rw none at among)
      | inr some ↦ from_first Preferred rules up sms link (λ e. cc) (rw some at among)
    ]
