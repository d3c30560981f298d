use Rattle.std.proofs.Common.{◌≡◌, []}
use Rattle.std.specs.List.{fold}
use Rattle.command_params.specs.Lists.{with_keys}
use Rattle.line_grammar.specs.Parts.{octets_left, parts, parts_left}
use Rattle.command_params.specs.ListSteps.{with_target}
use Rattle.command_params.proofs.lists.read_targets.Given as goal

abbrev pub invariant-loop-rest : goal.invariant-loop-rest
invariant-loop-rest l = fold with_target l.targets.items (with_keys (parts_left 44 l.rest) (parts_left 44 l.keys_left))
    ≡ fold with_target [] (with_keys (parts 44 l.fn.channels) (parts 44 l.fn.keys))

abbrev pub decreases-loop-rest : goal.decreases-loop-rest
decreases-loop-rest l = octets_left l.rest
