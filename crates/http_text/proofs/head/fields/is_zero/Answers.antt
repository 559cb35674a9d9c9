use Rattle.std.proofs.Common.{◌≡◌, true, length, ltb, ◌&&◌, rules, arith, tests, eqb, ap, sym, ◌∙◌}
use Rattle.std.specs.List.{list_all}
use Rattle.std.proofs.lemmas.Bool.Decides.{nat_tests}
use Rattle.std.proofs.lemmas.Iterator.{YieldsList-from_slice}
use Rattle.std.proofs.lemmas.Iterator.Search.{all_from_yields_List}
use Rattle.http_text.proofs.head.fields.is_zero.Goals as goal

pub returns-then-not-is_empty : goal.returns-then-not-is_empty
returns-then-not-is_empty c =
    let all : c.all.result ≡ list_all (λ d. eqb d 48) c.args.digits.now = all_from_yields_List (λ d. eqb d 48) _ _ c.all.result c.all.ensures.ran (YieldsList-from_slice c.args.digits.now cc) (λ x b q k. search (rules, tests)) in
    let some : ltb 0 (length c.args.digits.now) ≡ true = grind (arith, nat_tests) in
    all ∙ ap (λ b. b && list_all (λ d. eqb d 48) c.args.digits.now) (sym some)
