use Rattle.std.proofs.Common.{◌≡◌, ◌++◌}
use Rattle.std.specs.Vec.Iter.{into_iter_items}
use Rattle.numerics.specs.Cut.{cut_lines, lines_with}
use Rattle.numerics.proofs.line_cuts.cut.Given as goal

abbrev pub invariant-loop-word : goal.invariant-loop-word
invariant-loop-word l = l.lines.items ++ lines_with l.room l.most l.line (into_iter_items l.word-iterator)
    ≡ cut_lines l.room l.most l.fn.words.items
