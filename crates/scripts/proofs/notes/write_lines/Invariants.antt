use Rattle.std.proofs.Common.{◌≡◌, ◌++◌, [], drop}
use Rattle.scripts.specs.Notes.{lines_after}
use Rattle.scripts.proofs.notes.write_lines.Given as goal

abbrev pub invariant-loop-octet : goal.invariant-loop-octet
invariant-loop-octet l = l.out.items ++ lines_after l.session l.line.items (drop l.octet-index l.text)
    ≡ l.fn.out.items ++ lines_after l.session [] l.text
