use Rattle.std.proofs.Common.{◌<◌, ◌^◌, sym, ap, ◌∙◌, arith}
use Rattle.std.specs.Prelude.{replicate, false}
use Rattle.dlr_table.specs.Reports.{under, count_of}
use Rattle.gate_model.proofs.AwaitedLemmas.{empty_by}
use Rattle.gate_model.proofs.WholeLemmas.{whole-new}
use Rattle.gate_model.proofs.gate.Gate.new.Goals as goal

pub invariant_of-result : goal.invariant_of-result
invariant_of-result c =
    let links = c.len.result in
    let few : links < 2 ^ 32 = omega arith in
    record {
      whole =
          whole-new _ _ _ links c.in-Ok.ensures.flight
          (empty_by links c.new-waiting.result.pairs c.new-arrivals.result.pairs c.new-jobs.result.pairs (under c.new-reports.result) (count_of c.new-reports.result) c.in-Ok.up.items
          c.new-waiting.ensures c.new-arrivals.ensures c.new-jobs.ensures c.new-reports.ensures.lists c.new-reports.ensures.count c.in-Ok.ensures.up)
          (sym c.len.ensures) few;
    }

pub returns-in-Ok-clause-state : goal.returns-in-Ok-clause-state
returns-in-Ok-clause-state c =
    empty_by _ c.new-waiting.result.pairs c.new-arrivals.result.pairs c.new-jobs.result.pairs (under c.new-reports.result) (count_of c.new-reports.result) c.in-Ok.up.items
    c.new-waiting.ensures c.new-arrivals.ensures c.new-jobs.ensures c.new-reports.ensures.lists c.new-reports.ensures.count
    (c.in-Ok.ensures.up ∙ ap (λ n. replicate n false) c.len.ensures)
