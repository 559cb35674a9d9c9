use Rattle.std.specs.Prelude.{⊤}
use Rattle.model_bench.proofs.reports.report_often.Given as goal

-- it is a gate still
abbrev pub invariant-loop : goal.invariant-loop
invariant-loop l = ⊤
