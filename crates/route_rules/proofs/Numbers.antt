-- The links that are ready, one by one.
use Rattle.std.proofs.Common.{◌≡◌, refl, sym, ap, ◌∙◌, ℕ, ◌+◌, ◌==◌, if◌then◌else◌, length, Bool, true, List, [], ◌∷◌, Option, Some, None}
use Rattle.sms_record.specs.declared.sms.Sms.{Sms}
use Rattle.route_rules.specs.declared.fit.Fit.{Fit}
use Rattle.route_rules.specs.declared.link_rule.LinkRule.{LinkRule}
use Rattle.route_rules.specs.Routes.{is_ready, numbers_from, first_of_fewest}
use Rattle.route_rules.specs.Steps.{fewer}
use Rattle.route_rules.proofs.Fewest.{fewer-assoc, first_of_fewest-cons, some_links, no_links}

module _ (flight : List ℕ) (least : Fit) (sms : Sms) where
  -- the best of the links from here on, with the best one before them
  abbrev pub best_from : ℕ → Option ℕ → List LinkRule → List Bool → Option ℕ
  best_from first best rules ups = fewer flight best (first_of_fewest flight (numbers_from first least rules ups sms))

  pub best-ready : (i : ℕ) (best : Option ℕ) (rule : LinkRule) (rules more : List LinkRule) (up : Bool) (ups others : List Bool) → more ≡ rule ∷ rules → others ≡ up ∷ ups →
      is_ready least rule up sms ≡ true → best_from i best more others ≡ best_from (i + 1) (fewer flight best (Some i)) rules ups
  best-ready i best rule rules more up ups others links_are ups_are ready =
      let rest = numbers_from (i + 1) least rules ups sms in
      rw (links_are, ups_are, ready)
      (ap (fewer flight best) (first_of_fewest-cons flight i rest) ∙ sym (fewer-assoc flight best i (first_of_fewest flight rest)))

-- ---- the pool

abbrev or_else : List ℕ → List ℕ → List ℕ
or_else preferred others = if length preferred == 0 then others else preferred

pub chosen-preferred : (flight preferred others : List ℕ) (r : Option ℕ) (b : ℕ) → r ≡ first_of_fewest flight preferred → r ≡ Some b →
    Some b ≡ first_of_fewest flight (or_else preferred others)
chosen-preferred flight preferred others r b is found =
    let here : first_of_fewest flight preferred ≡ Some b = sym is ∙ found in rw (some_links flight preferred b here) (sym here)

pub chosen-others : (flight preferred others : List ℕ) (r : Option ℕ) → r ≡ first_of_fewest flight preferred → r ≡ None →
    first_of_fewest flight others ≡ first_of_fewest flight (or_else preferred others)
chosen-others flight preferred others r is none =
    let empty : preferred ≡ [] = no_links flight preferred (sym is ∙ none) in rw empty refl
