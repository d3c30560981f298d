use Rattle.std.proofs.Common.{◌≡◌, ◌++◌, take}
use Rattle.std.specs.List.{flat_map}
use Rattle.numerics.specs.Borrowed.{word_of}
use Rattle.numerics.proofs.row_lines.push_pieces.Given as goal

abbrev pub invariant-loop-piece : goal.invariant-loop-piece
invariant-loop-piece l = l.line.items ≡ l.fn.line.items ++ flat_map word_of (take l.piece-index l.pieces)
