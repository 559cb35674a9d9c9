use Rattle.std.proofs.Common.{◌∙◌}
use Rattle.gate_entries.proofs.Sizes.{capped_size}
use Rattle.gate_entries.proofs.size.entry_size.Goals as goal

pub returns-clause-exact : goal.returns-clause-exact
returns-clause-exact c good = c.size_of.ensures ∙ capped_size c.args.entry.now good
