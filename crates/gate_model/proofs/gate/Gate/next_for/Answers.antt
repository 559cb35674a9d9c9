use Rattle.std.proofs.Common.{ap, ◌∙◌}
use Rattle.gate_model.specs.Gate.{model_of, rules_of}
use Rattle.gate_model.specs.Routing.{may_take}
use Rattle.gate_model.proofs.NextLemmas.{first_pair, next_found}
use Rattle.gate_model.proofs.gate.Gate.next_for.Goals as goal

pub returns : goal.returns
returns c =
    let test = may_take (rules_of c.args.self.now) (model_of c.args.self.now) c.args.link c.args.now in
    c.first_offered.ensures ∙ next_found test c.rows.result.now ∙ ap (first_pair test) c.rows.ensures.pairs
