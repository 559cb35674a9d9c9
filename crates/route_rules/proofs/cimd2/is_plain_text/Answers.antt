use Rattle.std.proofs.Common.{◌≡◌, ◌+◌, ◌∙◌, sym, ap, refl, drop, get_or, true, false, arith}
use Rattle.std.specs.List.{list_all}
use Rattle.std.proofs.Math.Facts.{Fits-lt-pow}
use Rattle.std.proofs.lemmas.List.{drop_all}
use Rattle.gsm_alphabet.proofs.AlphabetLemmas.{text_behind, text_behind-start}
use Rattle.config_values.specs.Values.{is_text_octet}
use Rattle.route_rules.specs.Steps.{shows_plain}
use Rattle.route_rules.proofs.Septets.{plain-at, plain-end}
use Rattle.route_rules.proofs.cimd2.is_plain_text.Goals as goal

pub loop-septet-init : goal.loop-septet-init
loop-septet-init c = ap (list_all is_text_octet) (sym (text_behind-start c.args.septets.now))

pub returns-then-not-shows_plain : goal.returns-then-not-shows_plain
returns-then-not-shows_plain c =
    let xs = c.args.septets.now in
    let i = c.loop-septet.septet-index in
    let behind = c.loop-septet.behind in
    let told : shows_plain behind (get_or xs i 0) ≡ false = sym c.shows_plain.ensures ∙ c.if-not-shows_plain.true in
    sym (c.loop-septet.invariant ∙ plain-at behind xs i (omega arith) (Fits-lt-pow (c.type_inv.septets i)) ∙ rw told refl)

pub loop-septet-preserved : goal.loop-septet-preserved
loop-septet-preserved c =
    let xs = c.args.septets.now in
    let i = c.loop-septet.septet-index in
    let behind = c.loop-septet.behind in
    let told : shows_plain behind (get_or xs i 0) ≡ true = sym c.shows_plain.ensures ∙ c.if-not-shows_plain.false in
    c.loop-septet.invariant ∙ plain-at behind xs i (omega arith) (Fits-lt-pow (c.type_inv.septets i)) ∙ rw told refl
    ∙ ap (λ b. list_all is_text_octet (text_behind b (drop (i + 1) xs))) (sym c.escapes-behind.ensures)

pub returns : goal.returns
returns c =
    let xs = c.args.septets.now in
    let i = c.loop-septet.septet-index in
    let behind = c.loop-septet.behind in
    sym (c.loop-septet.invariant ∙ ap (λ l. list_all is_text_octet (text_behind behind l)) (drop_all i xs (omega arith)) ∙ plain-end behind)
