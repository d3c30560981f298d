use Rattle.std.proofs.Common.{◌≡◌, ◌∷◌, ◌++◌, map, take}
use Rattle.std.specs.List.{flat_map}
use Rattle.numerics.specs.Numerics.{middle_of}
use Rattle.numerics.specs.Borrowed.{word_of}
use Rattle.numerics.proofs.row_lines.push_each.Given as goal

abbrev pub invariant-loop-word : goal.invariant-loop-word
invariant-loop-word l = l.line.items ≡ l.fn.line.items ++ flat_map
    (λ w. 32 ∷ w) (map middle_of (map word_of (take l.word-index l.words)))
