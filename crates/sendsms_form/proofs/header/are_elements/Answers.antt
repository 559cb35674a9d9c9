use Rattle.std.proofs.Common.{◌∙◌, length, rules}
use Rattle.sendsms_form.proofs.Elements.{fill_goes}
use Rattle.sendsms_form.proofs.header.are_elements.Goals as goal

pub loop-preserved : goal.loop-preserved
loop-preserved c = record {
  same = c.loop.invariant.same
      ∙ fill_goes (length c.args.octets.now) c.loop.counter c.loop.rest.now c.in-Some.behind.now (search rules) (search rules) c.in-Some.ensures.behind;
  left = search rules;
}
