use Rattle.std.proofs.Common.{◌≡◌, []}
use Rattle.std.specs.List.{fold}
use Rattle.line_grammar.specs.Parts.{octets_left, parts, parts_left}
use Rattle.command_params.specs.ListSteps.{with_word}
use Rattle.command_params.proofs.lists.read_words.Given as goal

abbrev pub invariant-loop-rest : goal.invariant-loop-rest
invariant-loop-rest l = fold with_word l.words.items (parts_left 32 l.rest) ≡ fold with_word [] (parts 32 l.fn.list)

abbrev pub decreases-loop-rest : goal.decreases-loop-rest
decreases-loop-rest l = octets_left l.rest
