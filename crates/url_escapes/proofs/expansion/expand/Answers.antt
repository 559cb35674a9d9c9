use Rattle.std.proofs.Common.{◌∙◌, ap, sym, subst, Bool, List, ℕ, ◌+◌, Bor}
use Rattle.url_escapes.proofs.Expansions.{Continues, letter_step, percent_step, own_step}
use Rattle.url_escapes.proofs.expansion.expand.Goals as goal
use Rattle.url_escapes.proofs.expansion.expand.Goals.{then-in_pair+in_ok-write_pair, else-in_pair+then-octet-eq-PERCENT, else-in_pair+else-octet-eq-PERCENT+in_ok-push}

pub loop-octet-preserved : goal.loop-octet-preserved
loop-octet-preserved c =
    let facts = c.args.facts.now in
    let style = c.args.style in
    let template = c.args.template.now in
    let text = c.loop-octet.text in
    let unused = c.loop-octet.unused.now in
    let at = c.loop-octet.octet-index in
    let within = c.loop-octet-test.true in
    elim c.if-in_pair.branch [
      | then-in_pair+in_ok-write_pair w ↦
          let before = subst (λ (in_pair : Bool). Continues facts style template text unused in_pair at) w.if-in_pair.true c.loop-octet.invariant in
          subst (λ (in_pair : Bool). Continues facts style template c.if-in_pair.text c.if-in_pair.unused.now in_pair (at + 1)) (sym w.in_pair-is)
          (letter_step facts style template text unused at _ _ within (w.text-is ∙ w.in_ok-write_pair.ensures) (ap (λ (u : Bor (List (List ℕ))). u.now) w.unused-is ∙ w.left_by_pair-unused.ensures) before)
      | else-in_pair+then-octet-eq-PERCENT w ↦
          let before = subst (λ (in_pair : Bool). Continues facts style template text unused in_pair at) w.if-in_pair.false c.loop-octet.invariant in
          rw (w.in_pair-is, w.unused-is, w.text-is) (percent_step facts style template text unused at within w.if-octet-eq-PERCENT.true before)
      | else-in_pair+else-octet-eq-PERCENT+in_ok-push w ↦
          let before = subst (λ (in_pair : Bool). Continues facts style template text unused in_pair at) w.if-in_pair.false c.loop-octet.invariant in
          rw (w.in_pair-is, w.if-in_pair.false, w.unused-is) (own_step facts style template text unused at _ within w.if-octet-eq-PERCENT.false (w.text-is ∙ w.in_ok-push.ensures.ok) before)
    ]
