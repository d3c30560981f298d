use Rattle.std.proofs.Common.{◌≡◌, ◌++◌, drop}
use Rattle.mode_commands.specs.Letters.{letters_ask, asked_changes}
use Rattle.mode_commands.proofs.letters.asked_changes.Given as goal

abbrev pub invariant-loop-letter : goal.invariant-loop-letter
invariant-loop-letter l = l.asked.items ++ letters_ask l.reading (drop l.letter-index l.letters)
    ≡ asked_changes l.letters l.fn.params
