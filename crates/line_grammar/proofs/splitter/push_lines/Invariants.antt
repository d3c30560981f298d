use Rattle.std.proofs.Common.{◌≡◌, ◌++◌, length, take}
use Rattle.line_grammar.specs.Lines.{lines, open_line}
use Rattle.line_grammar.proofs.splitter.push_lines.Given as goal

abbrev pub invariant-loop-line : goal.invariant-loop-line
invariant-loop-line l = (l.out.items ++ lines l.rest ≡ l.fn.out.items ++ lines l.octets)
    × (open_line l.rest ≡ open_line l.octets) × (take (length l.fn.out.items) l.out.items ≡ l.fn.out.items)

abbrev pub decreases-loop-line : goal.decreases-loop-line
decreases-loop-line l = length l.rest
