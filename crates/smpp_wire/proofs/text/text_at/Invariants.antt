use Rattle.smpp_wire.specs.Room.{may_end, may_go_on}
use Rattle.smpp_wire.proofs.TextReading.{GoesOnFor}
use Rattle.smpp_wire.proofs.text.text_at.Given as goal

abbrev pub invariant-loop-index : goal.invariant-loop-index
invariant-loop-index l = GoesOnFor (may_end l.sizes l.room l.left) (may_go_on l.sizes l.room l.left) 0 l.octets l.index
