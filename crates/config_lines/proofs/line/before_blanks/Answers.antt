use Rattle.std.proofs.Common.{◌∙◌, arith, rules}
use Rattle.config_lines.proofs.Blanks.{blank_goes}
use Rattle.config_lines.proofs.line.before_blanks.Goals as goal

-- src/line.rt:58:5
pub loop-preserved : goal.loop-preserved
loop-preserved c = record {
  same = c.loop.invariant.same ∙ blank_goes c.loop.rest.now (omega arith) (search rules);
  left = search rules;
}
