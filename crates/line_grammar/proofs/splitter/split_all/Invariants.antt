use Rattle.std.proofs.Common.{◌≡◌, take}
use Rattle.std.specs.List.{flat_map}
use Rattle.line_grammar.specs.Lines.{left_by, lines}
use Rattle.line_grammar.proofs.splitter.split_all.Given as goal

abbrev pub invariant-loop-piece : goal.invariant-loop-piece
invariant-loop-piece l =
    let stream = flat_map (λ piece. piece) (take l.piece-index l.pieces) in
    (l.splitter ≡ left_by stream) × (l.out.items ≡ lines stream)
