use Rattle.std.proofs.Common.{◌≡◌, take}
use Rattle.std.specs.Prelude.{fold}
use Rattle.numbered_table.specs.Pairs.{without}
use Rattle.gate_model.proofs.gate.messages.end_all.Given as goal

-- what the numbers so far have left
abbrev pub invariant-loop-number : goal.invariant-loop-number
invariant-loop-number l = l.arrivals.pairs ≡ fold (λ pairs number. without number pairs) l.initial.arrivals.pairs (take l.number-index l.numbers)
