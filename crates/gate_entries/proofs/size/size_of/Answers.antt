use Rattle.gate_entries.proofs.Sizes.{answered_size}
use Rattle.gate_entries.proofs.size.size_of.Goals as goal

pub returns-in-Answered : goal.returns-in-Answered
returns-in-Answered c = rw c.in-Answered.is (answered_size c.in-Answered.answered c.len-in-Answered.result c.with_numbers-front.result c.with_parts-in-Answered.result c.as_slice-in-Answered.result.now c.len-in-Answered.ensures c.as_slice-in-Answered.ensures (c.with_numbers-front.ensures) c.with_parts-in-Answered.ensures)
