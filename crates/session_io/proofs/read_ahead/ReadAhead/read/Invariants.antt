use Rattle.std.proofs.Common.{◌≡◌, length}
use Rattle.session_io.specs.Filling.{IsFront}
use Rattle.session_io.proofs.read_ahead.ReadAhead.read.Given as goal

-- so many of the pieces are read
abbrev pub invariant-loop-place : goal.invariant-loop-place
invariant-loop-place l = record {
  count : length l.self-inside.lines.items ≡ l.place;
  front : IsFront l.self-inside.lines.items l.pieces;
}
