use Rattle.std.proofs.Common.{List, subst}
use Rattle.route_rules.specs.declared.link_rule.LinkRule.{LinkRule}
use Rattle.boxes_main.specs.LinkSteps.{Finds}
use Rattle.boxes_main.proofs.LinkChoice.{chooses_by}
use Rattle.boxes_main.proofs.command.link.choose.Goals as goal

pub returns-in-Smpp-clause-ok : goal.returns-in-Smpp-clause-ok
returns-in-Smpp-clause-ok c =
    chooses_by c.args.settings.now c.requires.in_range c.args.id.now c.in-Some.found.0 c.in-Some.found.1
    (subst (λ (rules : List LinkRule). Finds c.args.id.now rules c.in-Some.found.0 c.in-Some.found.1) c.as_slice.ensures c.in-Some.ensures) c.in-Smpp.is
