use Rattle.std.proofs.Common.{◌≡◌, []}
use Rattle.std.specs.List.{fold}
use Rattle.line_grammar.specs.Parts.{octets_left, parts, parts_left}
use Rattle.command_params.specs.ListSteps.{with_name}
use Rattle.command_params.proofs.lists.read_names.Given as goal

abbrev pub invariant-loop-rest : goal.invariant-loop-rest
invariant-loop-rest l = fold with_name l.names.items (parts_left 44 l.rest) ≡ fold with_name [] (parts 44 l.fn.list)

abbrev pub decreases-loop-rest : goal.decreases-loop-rest
decreases-loop-rest l = octets_left l.rest
