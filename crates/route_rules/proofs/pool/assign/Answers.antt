use Rattle.std.proofs.Common.{◌∙◌}
use Rattle.route_rules.specs.Routes.{numbers_from, pool}
use Rattle.route_rules.specs.declared.fit.Fit.TheVariants.{Plain, Preferred}
use Rattle.route_rules.proofs.Fewest.{none_of_links, one_of_links}
use Rattle.route_rules.proofs.Numbers.{chosen-preferred, chosen-others}
use Rattle.route_rules.proofs.pool.assign.Goals as goal

preferred_value : goal.returns-in-Some-clause-value
preferred_value c =
    let told = rw c.as_slice-links.ensures at c.first_of_fewest.ensures in
    let others = numbers_from 0 Plain c.args.rules.now.links c.args.up.now c.args.sms.now in
    let preferred = numbers_from 0 Preferred c.args.rules.now.links c.args.up.now c.args.sms.now in
    chosen-preferred c.args.flight.now preferred others c.first_of_fewest.result c.in-Some.link told c.in-Some.is

plain_value : goal.returns-in-None-clause-value
plain_value c =
    let told = rw c.as_slice-links.ensures at c.first_of_fewest.ensures in
    let others = numbers_from 0 Plain c.args.rules.now.links c.args.up.now c.args.sms.now in
    let preferred = numbers_from 0 Preferred c.args.rules.now.links c.args.up.now c.args.sms.now in
    (rw c.as_slice-links.ensures at c.first_of_fewest-in-None.ensures) ∙ chosen-others c.args.flight.now preferred others c.first_of_fewest.result told c.in-None.is

pub returns-in-Some-clause-value : goal.returns-in-Some-clause-value
returns-in-Some-clause-value c = preferred_value c

pub returns-in-Some-clause-among : goal.returns-in-Some-clause-among
returns-in-Some-clause-among c = one_of_links c.args.flight.now (pool c.args.rules.now c.args.up.now c.args.sms.now) _ (preferred_value c)

pub returns-in-None-clause-value : goal.returns-in-None-clause-value
returns-in-None-clause-value c = plain_value c

pub returns-in-None-clause-none : goal.returns-in-None-clause-none
returns-in-None-clause-none c = none_of_links c.args.flight.now (pool c.args.rules.now c.args.up.now c.args.sms.now) _ (plain_value c)

pub returns-in-None-clause-among : goal.returns-in-None-clause-among
returns-in-None-clause-among c = one_of_links c.args.flight.now (pool c.args.rules.now c.args.up.now c.args.sms.now) _ (plain_value c)
