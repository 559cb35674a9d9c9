use Rattle.std.proofs.Common.{◌+◌, ◌∙◌, sym, ap, refl, length, arith}
use Rattle.std.proofs.lemmas.List.{drop_all}
use Rattle.gsm_alphabet.proofs.AlphabetLemmas.{text_behind, text_behind-start}
use Rattle.route_rules.proofs.Septets.{len-escape, len-shown, len-end, room_left}
use Rattle.route_rules.proofs.cimd2.characters_len.Goals as goal

pub loop-septet-init : goal.loop-septet-init
loop-septet-init c = (ap length (sym (text_behind-start c.args.septets.now)) ∙ omega arith, omega arith)

pub loop-septet-preserved-then-behind : goal.loop-septet-preserved-then-behind
loop-septet-preserved-then-behind c =
    let i = c.loop-septet.septet-index in
    let l = c.loop-septet in (
      l.invariant.0 ∙ len-escape l.behind c.escapes-behind.result c.args.septets.now i l.count (omega arith) c.escapes-behind.ensures c.if-behind.true,
      rw c.if-behind.true (omega (arith, room_left l.behind l.count i l.invariant.1)),
    )

pub loop-septet-preserved : goal.loop-septet-preserved
loop-septet-preserved c =
    let i = c.loop-septet.septet-index in
    let l = c.loop-septet in (
      l.invariant.0 ∙ len-shown l.behind c.escapes-behind.result c.args.septets.now i l.count (omega arith) c.escapes-behind.ensures c.if-behind.false,
      rw c.if-behind.false (omega (arith, room_left l.behind l.count i l.invariant.1)),
    )

pub returns-then-behind-2-clause-value : goal.returns-then-behind-2-clause-value
returns-then-behind-2-clause-value c =
    let l = c.loop-septet in
    sym (l.invariant.0 ∙ ap (λ xs. l.count + length (text_behind l.behind xs)) (drop_all l.septet-index c.args.septets.now (omega arith))
    ∙ ap (λ n. l.count + n) (len-end l.behind) ∙ rw c.if-behind-2.true refl)

pub returns-else-behind-2-clause-value : goal.returns-else-behind-2-clause-value
returns-else-behind-2-clause-value c =
    let l = c.loop-septet in
    sym (l.invariant.0 ∙ ap (λ xs. l.count + length (text_behind l.behind xs)) (drop_all l.septet-index c.args.septets.now (omega arith))
    ∙ ap (λ n. l.count + n) (len-end l.behind) ∙ rw c.if-behind-2.false (omega arith))
