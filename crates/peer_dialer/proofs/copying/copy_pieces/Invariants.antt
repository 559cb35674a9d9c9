use Rattle.std.proofs.Common.{◌≡◌, take}
use Rattle.peer_dialer.proofs.copying.copy_pieces.Given as goal

-- the pieces so far
abbrev pub invariant-loop-piece : goal.invariant-loop-piece
invariant-loop-piece l = l.copy ≡ take l.piece-index l.pieces
