use Rattle.std.proofs.Common.{ap, ◌∙◌, filter}
use Rattle.std.specs.Prelude.{find, nat_le, option_map}
use Rattle.std.specs.List.{list_all}
use Rattle.gate_model.proofs.NextLemmas.{is_free_pair, next_job_found}
use Rattle.gate_model.proofs.gate.Gate.next_job.Goals as goal

pub returns : goal.returns
returns c =
    c.least_returned.ensures ∙ next_job_found c.rows.result.now
    ∙ ap (λ pairs. option_map (λ pair. pair.0) (find (λ pair. list_all (λ other. nat_le pair.1.returns other.1.returns) (filter is_free_pair pairs)) (filter is_free_pair pairs))) c.rows.ensures.pairs
