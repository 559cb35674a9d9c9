use Rattle.std.proofs.Common.{ap, ◌∙◌}
use Rattle.std.specs.Prelude.{not}
use Rattle.gate_model.proofs.NextLemmas.{first_pair, next_found}
use Rattle.gate_model.proofs.gate.Gate.next_arrival.Goals as goal

pub returns : goal.returns
returns c = c.first_free.ensures ∙ next_found (λ arrival. not arrival.leased) c.rows.result.now ∙ ap (first_pair (λ arrival. not arrival.leased)) c.rows.ensures.pairs
