use Rattle.std.proofs.Common.{◌≡◌, ◌∙◌, sym, ap, ◌+◌, drop, get_or, ◌∷◌, true, false, arith}
use Rattle.std.proofs.lemmas.List.{drop_more}
use Rattle.route_rules.specs.Routes.{is_ready}
use Rattle.route_rules.proofs.Numbers.{best_from, best-ready}
use Rattle.route_rules.proofs.pool.first_of_fewest.Goals as goal

pub loop-link-preserved : goal.loop-link-preserved
loop-link-preserved c =
    let i = c.loop-link.link in
    let links = c.args.links.now in
    let up = c.args.up.now in
    let flight = c.args.flight.now in
    let rule = c.index-links-link.result in
    let ready : is_ready c.args.least rule (get_or up i false) c.args.sms.now ≡ true = sym c.is_ready.ensures ∙ c.if-not-is_ready.false in
    let links_are : drop i links ≡ rule ∷ drop (i + 1) links = drop_more links i rule (omega arith) ∙ ap (λ r. r ∷ drop (i + 1) links) (sym c.index-links-link.is) in (
      c.loop-link.invariant.0
          ∙ best-ready flight c.args.least c.args.sms.now i c.loop-link.best rule (drop (i + 1) links) (drop i links) (get_or up i false) (drop (i + 1) up) (drop i up)
          links_are (drop_more up i false (omega (arith, c.requires.ups))) ready
          ∙ ap (λ best. best_from flight c.args.least c.args.sms.now (i + 1) best (drop (i + 1) links) (drop (i + 1) up)) (sym c.fewer-best.ensures.value),
      c.fewer-best.ensures.within,
    )
