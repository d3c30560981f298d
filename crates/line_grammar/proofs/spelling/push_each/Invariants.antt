use Rattle.std.proofs.Common.{◌≡◌, ◌++◌, take}
use Rattle.std.specs.List.{flat_map}
use Rattle.line_grammar.proofs.spelling.push_each.Given as goal

abbrev pub invariant-loop-parameter : goal.invariant-loop-parameter
invariant-loop-parameter l = l.line.items ≡ l.fn.line.items ++ flat_map
    (λ p. l.front ++ p) (take l.parameter-index l.parameters)
