use Rattle.std.proofs.Common.{◌≡◌, take}
use Rattle.receive_buffer.proofs.pending_lines.PendingLines.copy_of.Given as goal

-- what is copied are the first of the pieces
abbrev pub invariant-loop-piece : goal.invariant-loop-piece
invariant-loop-piece l = l.copies.items ≡ take l.piece-index l.pieces
