use Rattle.std.proofs.Common.{◌≡◌, ◌++◌, None, drop}
use Rattle.mode_commands.specs.Lines.{letters_after}
use Rattle.mode_commands.proofs.mode_lines.letters_of.Given as goal

abbrev pub invariant-loop-change : goal.invariant-loop-change
invariant-loop-change l = l.text.items ++ letters_after l.was (drop l.change-index l.changes)
    ≡ letters_after None l.changes
